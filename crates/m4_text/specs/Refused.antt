-- Why a text is refused, of the bytes and of every file that begins with them.
use Rattle.std.specs.Prelude.{◌≡◌, ℕ, ◌^◌, ◌<◌, ◌⊎◌, List, [], ◌++◌, length}
use Rattle.m4_model.specs.Text.{Fault, BadAt, PastLimit}
use Rattle.m4_model.specs.declared.form.Form.{Form}
use Rattle.m4_model.specs.Texts.{RefusalAs}
use Rattle.m4_model.specs.declared.form.Form.TheVariants.{Headed}
use Rattle.m4_text.specs.declared.fault.TextFault.{TextFault}
use Rattle.m4_text.specs.declared.fault.TextFault.TheVariants.{Bad, Limit, NoMemory}

-- The bytes are refused in this form with this fault, and where they are more than 2^29, so is every file that begins
-- with them.
abbrev pub IsRefusalIn : Form → List ℕ → Fault → Type 0
IsRefusalIn form bytes fault = (more : List ℕ) → (more ≡ []) ⊎ (2 ^ 29 < length bytes) → RefusalAs form (bytes ++ more) fault

-- What a fault says of the bytes in this form: where memory is wanting, nothing.
abbrev pub IsRefusedIn : Form → List ℕ → TextFault → Type 0
IsRefusedIn form bytes (Bad at) = IsRefusalIn form bytes (BadAt at)
IsRefusedIn form bytes Limit = IsRefusalIn form bytes PastLimit
IsRefusedIn form bytes NoMemory = Unit {0}

-- The same of headed text.
abbrev pub IsRefusal : List ℕ → Fault → Type 0
IsRefusal bytes fault = IsRefusalIn Headed bytes fault

abbrev pub IsRefusedAs : List ℕ → TextFault → Type 0
IsRefusedAs bytes fault = IsRefusedIn Headed bytes fault
