use Rattle.std.proofs.Common.{◌≡◌}
use Rattle.m4_mzed.specs.EWindow.{content, showing}
use Rattle.m4_mzed.specs.ESeen.{e_shown}
use Rattle.m4_solve.proofs.Gathers.{IsPlacedTo}
use Rattle.m4_solve.proofs.gather.place_rows.Given as goal

abbrev pub invariant-loop-s : goal.invariant-loop-s
invariant-loop-s l = (l.x ≡ showing l.fn.x (content l.x)) × IsPlacedTo (e_shown l.z) l.pivots l.fn.x.rows l.fn.x.cols l.s (content l.x)
