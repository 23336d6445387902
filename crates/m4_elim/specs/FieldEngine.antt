-- The engines that multiply over a field, and what factors the parts of a matrix that aren't halved.
use Rattle.std.specs.Prelude.{◌≡◌, ⊤}
use Rattle.m4_model.specs.Field.{Field, gf2}
use Rattle.m4_mzd.specs.declared.TheConstants.{MOST_SIDE}
use Rattle.m4_mzd.specs.declared.add_mul.Shape.{Shape}
use Rattle.m4_elim.specs.Engine.{engine_limits, can_multiply}
use Rattle.m4_elim.specs.declared.field_engine.FieldEngine.{FieldEngine}
use Rattle.m4_elim.specs.declared.field_engine.FieldEngine.TheVariants as engines

-- The largest number of each kind that an engine takes.
abbrev pub field_limits : FieldEngine → Shape
field_limits (engines.Bits bits) = engine_limits bits.engine
field_limits (engines.Rows rows) = record { m = MOST_SIDE; l = MOST_SIDE; n = MOST_SIDE }
field_limits (engines.Strips newton) = record { m = newton.bits.m; l = MOST_SIDE; n = newton.cols }

-- It can be called for matrices over this field.
abbrev pub multiplies_over : FieldEngine → Field → Type 0
multiplies_over (engines.Bits bits) F = (F ≡ gf2) × can_multiply bits.engine
multiplies_over (engines.Rows rows) F = ⊤
multiplies_over (engines.Strips newton) F = F ≡ newton.field
