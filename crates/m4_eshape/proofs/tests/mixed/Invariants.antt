use Rattle.std.proofs.Common.{◌≡◌}
use Rattle.m4_field.specs.Fields.{the_field}
use Rattle.m4_eshape.proofs.tests.mixed.Given as goal

abbrev pub invariant-loop-r : goal.invariant-loop-r
invariant-loop-r l = (l.m.rows ≡ l.fn.rows) × (l.m.cols ≡ l.fn.cols) × (l.m.field ≡ the_field l.fn.field)
