-- What eliminations over a field work with.
use Rattle.std.specs.Prelude.{◌≡◌}
use Rattle.m4_model.specs.Field.{Field, gf2}
use Rattle.m4_elim.specs.declared.elimination.FieldBase.{FieldBase}
use Rattle.m4_elim.specs.declared.elimination.FieldBase.TheVariants as bases

-- It factors matrices over this field.
abbrev pub factors_over : FieldBase → Field → Type 0
factors_over (bases.Words words) F = F ≡ gf2
factors_over (bases.Tables field) F = F ≡ field
