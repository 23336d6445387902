use Rattle.std.proofs.Common.{◌<◌}
use Rattle.m4_ple.specs.Words.{IsClearedTo}
use Rattle.m4_ple.proofs.words.clear_below.Given as goal

abbrev pub invariant-loop-i : goal.invariant-loop-i
invariant-loop-i l = (l.r < l.i) × IsClearedTo l.r l.c l.i l.fn.words l.words
