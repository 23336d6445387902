use Rattle.std.proofs.Common.{◌≡◌}
use Rattle.m4_trsm.proofs.tests.fill_row.Given as goal

abbrev pub invariant-loop-c : goal.invariant-loop-c
invariant-loop-c l = l.m.field ≡ l.fn.m.field
