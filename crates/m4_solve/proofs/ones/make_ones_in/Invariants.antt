use Rattle.std.proofs.Common.{◌≡◌}
use Rattle.m4_mzed.specs.EWindow.{content, showing}
use Rattle.m4_solve.proofs.ScaledEquations.{AreScaledTo}
use Rattle.m4_solve.proofs.ones.make_ones_in.Given as goal

abbrev pub invariant-loop-s : goal.invariant-loop-s
invariant-loop-s l =
    (l.a ≡ showing l.fn.a (content l.a)) × (l.y ≡ showing l.fn.y (content l.y)) × AreScaledTo l.pivots (content l.fn.a) (content l.fn.y) l.s (content l.a) (content l.y)
