use Rattle.std.proofs.Common.{◌≡◌, ◌≤◌, take, nat_lt, count_by}
use Rattle.m4_model.specs.Matrix.{row}
use Rattle.m4_cmd.proofs.nonzeros.elements_in_row.Given as goal

-- of the first c entries those that aren't zero are counted
abbrev pub invariant-loop-c : goal.invariant-loop-c
invariant-loop-c l = record {
  counted : l.count ≡ count_by (nat_lt 0) (take l.c (row l.matrix l.r));
  few : l.count ≤ l.c;
}
