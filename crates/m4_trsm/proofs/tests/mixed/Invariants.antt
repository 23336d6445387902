use Rattle.m4_field.specs.Fields.{the_field}
use Rattle.std.proofs.Common.{◌≡◌}
use Rattle.m4_trsm.proofs.tests.mixed.Given as goal

abbrev pub invariant-loop-r : goal.invariant-loop-r
invariant-loop-r l = l.m.field ≡ the_field l.fn.field
