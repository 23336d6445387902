use Rattle.std.proofs.Common.{◌≡◌, ◌<◌}
use Rattle.m4_mzed.specs.EWindow.{content, showing}
use Rattle.m4_ple.specs.Elimination.{cleared}
use Rattle.m4_ple.proofs.clear.clear_rows.Given as goal

abbrev pub invariant-loop-i : goal.invariant-loop-i
invariant-loop-i l = (l.r < l.i) × (l.a ≡ showing l.fn.a (cleared l.inverse l.r l.c l.i (content l.fn.a)))
