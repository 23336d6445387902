use Rattle.std.proofs.Common.{◌≡◌}
use Rattle.m4_field.specs.Fields.{the_field}
use Rattle.m4_eshape.proofs.tests.counted.Given as goal

abbrev pub invariant-loop-c : goal.invariant-loop-c
invariant-loop-c l = (l.m.rows ≡ 3) × (l.m.cols ≡ 5) × (l.m.field ≡ the_field l.fn.field)
