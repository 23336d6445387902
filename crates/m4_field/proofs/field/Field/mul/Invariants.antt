use Rattle.std.proofs.Common.{◌≡◌, ◌/◌, ◌^◌, ◌<◌}
use Rattle.m4_model.specs.Field.{mul}
use Rattle.m4_field.specs.Fields.{the_field}
use Rattle.m4_field.proofs.field.Field.mul.Given as goal

abbrev pub invariant-loop-i : goal.invariant-loop-i
invariant-loop-i l = (l.product ≡ mul (the_field l.self) l.a (l.b / 2 ^ l.i)) × (l.product < 2 ^ l.self.degree)
