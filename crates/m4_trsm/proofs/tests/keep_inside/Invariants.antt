use Rattle.std.proofs.Common.{◌≡◌}
use Rattle.m4_trsm.proofs.tests.keep_inside.Given as goal

abbrev pub invariant-loop-j : goal.invariant-loop-j
invariant-loop-j l = l.m.field ≡ l.fn.m.field
