use Rattle.std.proofs.Common.{◌≡◌}
use Rattle.m4_field.specs.Fields.{the_field}
use Rattle.m4_eple.proofs.tests.elements.Given as goal

abbrev pub invariant-loop-r : goal.invariant-loop-r
invariant-loop-r l = (l.m.rows ≡ 150) × (l.m.cols ≡ 140) × (l.m.field ≡ the_field l.fn.field)
