-- What a fault says of a text in a form, and of every file that begins with it.
use Rattle.std.specs.Prelude.{ℕ, List, ◌++◌}
use Rattle.m4_model.specs.Headed.{BadAt, BadDegreeAt, ReducibleAt, PastLimit}
use Rattle.m4_model.specs.FormTexts.{RefusalAs}
use Rattle.m4_model.specs.declared.form.Form.{Form}
use Rattle.m4_field.specs.declared.field.FieldFault.TheVariants.{BadDegree, Reducible}
use Rattle.m4_etext.specs.declared.fault.TextFault.{TextFault}
use Rattle.m4_etext.specs.declared.fault.TextFault.TheVariants.{Bad, Field, Limit, NoMemory}

-- The bytes are refused in this form with this fault; where memory is wanting, nothing is said.
abbrev pub IsFaultIn : Form → List ℕ → TextFault → Type 0
IsFaultIn form bytes (Bad at) = RefusalAs form bytes (BadAt at)
IsFaultIn form bytes (Field at BadDegree) = RefusalAs form bytes (BadDegreeAt at)
IsFaultIn form bytes (Field at Reducible) = RefusalAs form bytes (ReducibleAt at)
IsFaultIn form bytes Limit = RefusalAs form bytes PastLimit
IsFaultIn form bytes NoMemory = Unit {0}

-- Every file that begins with the bytes is refused in this form with this fault.
abbrev pub IsFaultOfAllIn : Form → List ℕ → TextFault → Type 0
IsFaultOfAllIn form bytes fault = (more : List ℕ) → IsFaultIn form (bytes ++ more) fault
