use Rattle.std.proofs.Common.{◌≡◌}
use Rattle.m4_mzed.specs.EWindow.{content, showing}
use Rattle.m4_ple.specs.Parts.{echelon_entry}
use Rattle.m4_ple.proofs.RowByRow.{done_to}
use Rattle.m4_ple.proofs.echelon.keep_echelon.Given as goal

abbrev pub invariant-loop-i : goal.invariant-loop-i
invariant-loop-i l =
    (l.a ≡ showing l.fn.a (done_to (echelon_entry l.pivots (content l.fn.a)) (content l.fn.a) l.i))
    × (l.spare ≡ showing l.fn.spare (content l.spare))
