-- The forms of a text over GF(2) in version 1: what each can hold, the text, what is read, and what is refused.
use Rattle.std.specs.Prelude.{ℕ, List}
use Rattle.m4_model.specs.Matrix.{Matrix}
use Rattle.m4_model.specs.Text.{text, Reads, Refusal, Fault}
use Rattle.m4_model.specs.Bare.{bare_text, CanBeBare, ReadsBare, RefusalBare}
use Rattle.m4_model.specs.Jcf.{jcf_text, CanBeJcf, ReadsJcf, RefusalJcf}
use Rattle.m4_model.specs.declared.form.Form.{Form}
use Rattle.m4_model.specs.declared.form.Form.TheVariants.{Headed, Bare, Jcf, Hex}

-- The form can hold the matrix.
abbrev pub can_hold : Form → Matrix → Type 0
can_hold Headed M = Unit {0}
can_hold Bare M = CanBeBare M
can_hold Jcf M = CanBeJcf M
can_hold Hex M = ⊥

-- The text of the matrix in this form.
abbrev pub text_as : Form → Matrix → List ℕ
text_as Headed M = text M
text_as Bare M = bare_text M
text_as Jcf M = jcf_text M
text_as Hex M = text M

-- The bytes are read in this form as M.
abbrev pub ReadsAs : Form → List ℕ → Matrix → Type 0
ReadsAs Headed bytes M = Reads bytes M
ReadsAs Bare bytes M = ReadsBare bytes M
ReadsAs Jcf bytes M = ReadsJcf bytes M
ReadsAs Hex bytes M = Reads bytes M

-- The bytes are refused in this form, with this fault.
abbrev pub RefusalAs : Form → List ℕ → Fault → Type 0
RefusalAs Headed bytes fault = Refusal bytes fault
RefusalAs Bare bytes fault = RefusalBare bytes fault
RefusalAs Jcf bytes fault = RefusalJcf bytes fault
RefusalAs Hex bytes fault = Refusal bytes fault
