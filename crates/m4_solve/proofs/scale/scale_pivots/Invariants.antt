use Rattle.std.proofs.Common.{◌≡◌}
use Rattle.m4_mzed.specs.EWindow.{content, showing}
use Rattle.m4_solve.proofs.Scales.{AreOnesTo}
use Rattle.m4_solve.proofs.scale.scale_pivots.Given as goal

abbrev pub invariant-loop-i : goal.invariant-loop-i
invariant-loop-i l = (l.a ≡ showing l.fn.a (content l.a)) × AreOnesTo (content l.fn.a) (content l.a) l.pivots l.i
