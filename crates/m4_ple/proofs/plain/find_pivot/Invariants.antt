use Rattle.std.proofs.Common.{◌≡◌, ℕ, ◌<◌, ◌≤◌}
use Rattle.m4_model.specs.Matrix.{at}
use Rattle.m4_mzed.specs.EWindow.{content}
use Rattle.m4_ple.proofs.plain.find_pivot.Given as goal

abbrev pub invariant-loop-r : goal.invariant-loop-r
invariant-loop-r l = (l.from ≤ l.r) × ((i : ℕ) → l.from ≤ i → i < l.r → at (content l.a) i l.c ≡ 0)
