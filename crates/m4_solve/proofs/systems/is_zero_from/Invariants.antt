use Rattle.std.proofs.Common.{◌≡◌, ℕ, ◌<◌, ◌≤◌}
use Rattle.m4_model.specs.Matrix.{at}
use Rattle.m4_solve.proofs.systems.is_zero_from.Given as goal

abbrev pub invariant-loop-i : goal.invariant-loop-i
invariant-loop-i l = (k j : ℕ) → l.r ≤ k → k < l.i → j < l.y.cols → at l.y k j ≡ 0
