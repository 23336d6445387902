use Rattle.std.proofs.Common.{◌≡◌}
use Rattle.m4_mzed.specs.EWindow.{content, showing}
use Rattle.m4_mzed.specs.ESeen.{e_shown}
use Rattle.m4_ple.proofs.RowByRow.{done_to}
use Rattle.m4_ple.proofs.FactorParts.{lower_entry}
use Rattle.m4_ple.proofs.factors.copy_lower.Given as goal

abbrev pub invariant-loop-i : goal.invariant-loop-i
invariant-loop-i l = l.all ≡ showing l.fn.all (done_to (lower_entry l.rank (e_shown l.a)) (content l.fn.all) l.i)
