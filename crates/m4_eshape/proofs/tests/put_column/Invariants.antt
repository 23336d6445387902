use Rattle.std.proofs.Common.{◌≡◌}
use Rattle.m4_eshape.proofs.tests.put_column.Given as goal

abbrev pub invariant-loop-r : goal.invariant-loop-r
invariant-loop-r l = (l.m.rows ≡ l.fn.m.rows) × (l.m.cols ≡ l.fn.m.cols) × (l.m.field ≡ l.fn.m.field)
