-- The forms of a text over every field: what each can hold, the text, what is read, and what is refused.
use Rattle.std.specs.Prelude.{◌≡◌, ℕ, ◌^◌, ◌<◌, ◌⊎◌, List, length}
use Rattle.m4_model.specs.Field.{gf2}
use Rattle.m4_model.specs.Matrix.{Matrix}
use Rattle.m4_model.specs.Headed.{headed_text, hex_text, Reads, Refusal, Fault, BadAt, BadDegreeAt, ReducibleAt, PastLimit}
use Rattle.m4_model.specs.Bare.{bare_text, CanBeBare, ReadsBare, IsBadBare, IsLargeBare}
use Rattle.m4_model.specs.Jcf.{jcf_text, CanBeJcf, ReadsJcf, IsBadToken, EndsInHeader, PassesLimit, BeginsJcf, judged}
use Rattle.m4_model.specs.declared.form.Form.{Form}
use Rattle.m4_model.specs.declared.form.Form.TheVariants.{Headed, Bare, Jcf, Hex}

-- The form can hold the matrix. Bare text and JCF hold matrices over GF(2) alone.
abbrev pub can_hold : Form → Matrix → Type 0
can_hold Headed M = Unit {0}
can_hold Bare M = (M.field ≡ gf2) × CanBeBare M
can_hold Jcf M = (M.field ≡ gf2) × CanBeJcf M
can_hold Hex M = Unit {0}

-- The text of the matrix in this form.
abbrev pub text_as : Form → Matrix → List ℕ
text_as Headed M = headed_text M
text_as Bare M = bare_text M
text_as Jcf M = jcf_text M
text_as Hex M = hex_text M

-- The bytes are read in this form as M. Both versions of headed text are read alike.
abbrev pub ReadsAs : Form → List ℕ → Matrix → Type 0
ReadsAs Headed bytes M = Reads bytes M
ReadsAs Bare bytes M = ReadsBare bytes M
ReadsAs Jcf bytes M = ReadsJcf bytes M
ReadsAs Hex bytes M = Reads bytes M

-- The bytes are refused as a bare text, with this fault. It has no field.
abbrev pub RefusalBare : List ℕ → Fault → Type 0
RefusalBare bytes (BadAt place) = IsBadBare bytes place
RefusalBare bytes (BadDegreeAt place) = ⊥
RefusalBare bytes (ReducibleAt place) = ⊥
RefusalBare bytes PastLimit = (place : ℕ) × IsLargeBare bytes place

-- The bytes are refused as JCF, with this fault. It has no field. Where nothing else is refused, more than 2^29 bytes are
-- past a limit.
abbrev pub RefusalJcf : List ℕ → Fault → Type 0
RefusalJcf bytes (BadAt place) = IsBadToken bytes place ⊎ EndsInHeader bytes place
RefusalJcf bytes (BadDegreeAt place) = ⊥
RefusalJcf bytes (ReducibleAt place) = ⊥
RefusalJcf bytes PastLimit = PassesLimit (judged bytes) ⊎ ((2 ^ 29 < length bytes) × BeginsJcf (judged bytes))

-- The bytes are refused in this form, with this fault.
abbrev pub RefusalAs : Form → List ℕ → Fault → Type 0
RefusalAs Headed bytes fault = Refusal bytes fault
RefusalAs Bare bytes fault = RefusalBare bytes fault
RefusalAs Jcf bytes fault = RefusalJcf bytes fault
RefusalAs Hex bytes fault = Refusal bytes fault
