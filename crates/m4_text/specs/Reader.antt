-- A reader that is fed a text in pieces: what it is, and the bytes for which it stands.
use Rattle.std.specs.Prelude.{◌≡◌, ℕ, ◌^◌, ◌≤◌, List, ◌++◌, length, Option, MatchOption}
use Rattle.m4_model.specs.Text.{BadAt, PastLimit}
use Rattle.m4_model.specs.declared.form.Form.{Form}
use Rattle.m4_model.specs.Texts.{RefusalAs}
use Rattle.m4_text.specs.declared.fault.TextFault.{TextFault}
use Rattle.m4_text.specs.declared.fault.TextFault.TheVariants.{Bad, Limit, NoMemory}

-- A reader: its form, the bytes that it keeps, and the fault that it has told, if it has told one.
pub record Collected : Type 0 where
  pub form : Form
  pub bytes : List ℕ
  pub fault : Option TextFault

-- The bytes are refused with this fault; where memory is wanting, nothing is said.
abbrev pub IsFaultOf : Form → List ℕ → TextFault → Type 0
IsFaultOf form bytes (Bad at) = RefusalAs form bytes (BadAt at)
IsFaultOf form bytes Limit = RefusalAs form bytes PastLimit
IsFaultOf form bytes NoMemory = Unit {0}

-- Every file that begins with the bytes is refused with this fault.
abbrev pub IsFaultOfAll : Form → List ℕ → TextFault → Type 0
IsFaultOfAll form bytes fault = (more : List ℕ) → IsFaultOf form (bytes ++ more) fault

-- The reader stands for these bytes: it keeps them, and they are at most 2^29, or it has told the fault of every file
-- that begins with them. Once memory was wanting, it stands for any bytes.
abbrev pub StandsFor : Collected → List ℕ → Type 0
StandsFor reader bytes =
    MatchOption reader.fault ((reader.bytes ≡ bytes) × (length bytes ≤ 2 ^ 29)) (IsFaultOfAll reader.form bytes)
