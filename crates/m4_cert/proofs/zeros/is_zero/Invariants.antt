use Rattle.std.proofs.Common.{◌≡◌, ℕ, ◌<◌}
use Rattle.m4_model.specs.Matrix.{at}
use Rattle.m4_cert.proofs.zeros.is_zero.Given as goal

-- the first r rows are zero
abbrev pub invariant-loop-r : goal.invariant-loop-r
invariant-loop-r l = (i j : ℕ) → i < l.r → j < l.m.cols → at l.m i j ≡ 0
