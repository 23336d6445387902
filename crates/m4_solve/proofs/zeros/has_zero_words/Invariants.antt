use Rattle.std.proofs.Common.{◌≡◌, ℕ, ◌*◌, ◌<◌}
use Rattle.m4_model.specs.Matrix.{at}
use Rattle.m4_mzd.specs.Seen.{shown}
use Rattle.m4_solve.proofs.zeros.has_zero_words.Given as goal

abbrev pub invariant-loop-w : goal.invariant-loop-w
invariant-loop-w l = (p : ℕ) → p < l.w * 64 → at (shown l.bits) l.i p ≡ 0
