-- The field that a value of the crate stands for, and what the making of one answers.
use Rattle.std.specs.Prelude.{◌≡◌, ℕ, ◌≤◌, Result, Ok, Err}
use Rattle.m4_model.specs.Field.{IsExtension}
use Rattle.m4_model.specs.Field.{Field as FieldOf}
use Rattle.m4_field.specs.declared.field.Field.{Field}
use Rattle.m4_field.specs.declared.field.FieldFault.{FieldFault}
use Rattle.m4_field.specs.declared.field.FieldFault.TheVariants.{BadDegree, Reducible}

-- The field that it stands for.
abbrev pub the_field : Field → FieldOf
the_field f = record { degree = f.degree; poly = f.poly }

-- The degree is one of the degrees of extension fields.
abbrev pub IsDegree : ℕ → Type 0
IsDegree e = (2 ≤ e) × (e ≤ 16)

-- What the making of a field answers: the field; or that the degree is none; or that it is one, and the polynomial none.
abbrev pub Gives : ℕ → ℕ → Result Field FieldFault → Type 0
Gives e poly (Ok f) = IsExtension (the_field f) × (the_field f ≡ record { degree = e; poly = poly })
Gives e poly (Err BadDegree) = IsDegree e → ⊥
Gives e poly (Err Reducible) = IsDegree e × (IsExtension (record { degree = e; poly = poly }) → ⊥)
