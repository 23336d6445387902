use Rattle.std.proofs.Common.{◌≡◌}
use Rattle.m4_eple.proofs.tests.put_row.Given as goal

abbrev pub invariant-loop-c : goal.invariant-loop-c
invariant-loop-c l = (l.m.rows ≡ l.fn.m.rows) × (l.m.cols ≡ l.fn.m.cols) × (l.m.field ≡ l.fn.m.field)
