use Rattle.std.proofs.Common.{◌≡◌}
use Rattle.m4_mzed.specs.EWindow.{content, showing}
use Rattle.m4_solve.proofs.Units.{AreUnitsTo}
use Rattle.m4_solve.proofs.clear.set_units.Given as goal

abbrev pub invariant-loop-i : goal.invariant-loop-i
invariant-loop-i l = (l.a ≡ showing l.fn.a (content l.a)) × AreUnitsTo l.fn.a.rows l.fn.a.cols l.i (content l.a)
