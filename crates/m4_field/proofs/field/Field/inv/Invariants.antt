use Rattle.std.proofs.Common.{◌≡◌, ◌≢◌, ◌^◌, ◌<◌}
use Rattle.m4_model.specs.Field.{mul}
use Rattle.m4_field.specs.Fields.{the_field}
use Rattle.m4_field.proofs.field.Field.inv.Given as goal

abbrev pub invariant-loop-rest : goal.invariant-loop-rest
invariant-loop-rest l =
    (mul (the_field l.self) l.a l.factor ≡ l.rest) × (l.rest < 2 ^ l.self.degree) × (l.rest ≢ 0) × (l.factor < 2 ^ l.self.degree)

abbrev pub decreases-loop-rest : goal.decreases-loop-rest
decreases-loop-rest l = l.rest
