use Rattle.std.proofs.Common.{Err, subst, lit≤}
use Rattle.m4_field.specs.Fields.{Gives}
use Rattle.m4_field.specs.declared.field.FieldFault.{FieldFault}
use Rattle.m4_field.specs.declared.field.FieldFault.TheVariants.{BadDegree, Reducible}
use Rattle.m4_erasure.proofs.Gf256.{extension}
use Rattle.m4_erasure.proofs.field.field.Goals as goal

-- there is no fault in the degree and the polynomial of the field of shards
never : (fault : FieldFault) → Gives 8 0x11d (Err fault) → ⊥
never BadDegree none = none (lit≤ tt, lit≤ tt)
never Reducible reducible = reducible.1 extension

pub unreachable-requires : goal.unreachable-requires
unreachable-requires c = never c.in-Err.field-0 (subst (Gives 8 0x11d) c.in-Err.is c.new.ensures)
