use Rattle.std.proofs.Common.{◌≡◌, ◌*◌, take, nat_lt, count_by}
use Rattle.m4_model.specs.Matrix.{row}
use Rattle.m4_cmd.proofs.nonzeros.ones_in_row.Given as goal

-- the ones of the first w words are counted
abbrev pub invariant-loop-w : goal.invariant-loop-w
invariant-loop-w l = l.count ≡ count_by (nat_lt 0) (take (l.w * 64) (row l.matrix l.r))
