-- A reader of headed text that keeps no bytes of it behind the header line: what it keeps, and the bytes for which it stands.
use Rattle.std.specs.Prelude.{ℕ, List, ◌++◌}
use Rattle.m4_model.specs.Headed.{BadAt, BadDegreeAt, ReducibleAt, PastLimit, Refusal}
use Rattle.m4_field.specs.declared.field.FieldFault.TheVariants.{BadDegree, Reducible}
use Rattle.m4_etext.specs.declared.fault.TextFault.{TextFault}
use Rattle.m4_etext.specs.declared.fault.TextFault.TheVariants.{Bad, Field, Limit, NoMemory}

-- The bytes are refused with this fault; where memory is wanting, nothing is said.
abbrev pub IsFaultOf : List ℕ → TextFault → Type 0
IsFaultOf bytes (Bad at) = Refusal bytes (BadAt at)
IsFaultOf bytes (Field at BadDegree) = Refusal bytes (BadDegreeAt at)
IsFaultOf bytes (Field at Reducible) = Refusal bytes (ReducibleAt at)
IsFaultOf bytes Limit = Refusal bytes PastLimit
IsFaultOf bytes NoMemory = Unit {0}

-- Every file that begins with the bytes is refused with this fault.
abbrev pub IsFaultOfAll : List ℕ → TextFault → Type 0
IsFaultOfAll bytes fault = (more : List ℕ) → IsFaultOf (bytes ++ more) fault
