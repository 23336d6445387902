use Rattle.std.proofs.Common.{◌≡◌}
use Rattle.m4_mzed.specs.EWindow.{content, showing}
use Rattle.m4_mzed.specs.ESeen.{e_shown}
use Rattle.m4_ple.specs.Parts.{triangle_entry}
use Rattle.m4_ple.proofs.RowByRow.{done_to}
use Rattle.m4_ple.proofs.factors.copy_triangle.Given as goal

abbrev pub invariant-loop-i : goal.invariant-loop-i
invariant-loop-i l = l.all ≡ showing l.fn.all (done_to (triangle_entry l.r (e_shown l.a)) (content l.fn.all) l.i)
