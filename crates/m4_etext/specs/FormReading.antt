-- What a reader of a text in any form keeps, and the bytes for which it stands.
use Rattle.std.specs.Prelude.{◌≡◌, ℕ, ◌^◌, ◌≤◌, List, length, Option, Some, None, option_map}
use Rattle.m4_model.specs.declared.form.Form.{Form}
use Rattle.m4_model.specs.declared.form.Form.TheVariants.{Headed, Bare, Jcf, Hex}
use Rattle.m4_text.specs.declared.fault.TextFault.{TextFault as BitsFault}
use Rattle.m4_text.specs.declared.fault.TextFault.TheVariants.{Bad as bits_bad, Limit as bits_limit, NoMemory as bits_no_memory}
use Rattle.m4_text.specs.Reader.{StandsFor as StandsForBits}
use Rattle.m4_etext.specs.Reading.{StandsFor, HasMatrix, GoesOn}
use Rattle.m4_etext.specs.declared.fault.TextFault.{TextFault}
use Rattle.m4_etext.specs.declared.fault.TextFault.TheVariants.{Bad, Limit, NoMemory}
pub use Rattle.m4_etext.specs.FormFaults.{IsFaultIn, IsFaultOfAllIn}
use Rattle.m4_etext.specs.BareReading.{StandsForBare, IsOpen, told_in}
use Rattle.m4_etext.specs.declared.reader.State.{State}
use Rattle.m4_etext.specs.declared.reader.State.TheVariants.{AtHead, AtLines, Told}
use Rattle.m4_etext.specs.declared.form_reader.Part.{Part}
use Rattle.m4_etext.specs.declared.form_reader.Part.TheVariants.{OfHeaded, OfBare, OfJcf}

-- A reader: the form of its texts, and what it keeps.
pub record Fed : Type 0 where
  pub form : Form
  pub part : Part

-- What is kept is of this form. Both versions of headed text are read alike.
abbrev pub IsPartFor : Form → Part → Type 0
IsPartFor Headed (OfHeaded state) = Unit {0}
IsPartFor Hex (OfHeaded state) = Unit {0}
IsPartFor Bare (OfBare kept) = Unit {0}
IsPartFor Jcf (OfJcf kept) = kept.form ≡ Jcf
IsPartFor form part = ⊥

-- It stands for these bytes.
abbrev pub StandsForPart : Part → List ℕ → Type 0
StandsForPart (OfHeaded state) bytes = StandsFor state bytes
StandsForPart (OfBare kept) bytes = StandsForBare kept bytes
StandsForPart (OfJcf kept) bytes = StandsForBits kept bytes

abbrev pub StandsForText : Fed → List ℕ → Type 0
StandsForText reader bytes = StandsForPart reader.part bytes

-- The fault of a text over GF(2), among those over every field.
abbrev pub over_bits : BitsFault → TextFault
over_bits (bits_bad at) = Bad at
over_bits bits_limit = Limit
over_bits bits_no_memory = NoMemory

-- The fault that was told, if one was.
abbrev pub told_at : State → Option TextFault
told_at (AtHead seen) = None
told_at (AtLines kept) = None
told_at (Told fault) = Some fault

abbrev pub told_by : Part → Option TextFault
told_by (OfHeaded state) = told_at state
told_by (OfBare kept) = told_in kept
told_by (OfJcf kept) = option_map over_bits kept.fault

-- The header line of a headed text is whole, and its matrix there.
abbrev pub HasMatrixThere : Part → Type 0
HasMatrixThere (OfHeaded state) = HasMatrix state
HasMatrixThere (OfBare kept) = ⊥
HasMatrixThere (OfJcf kept) = ⊥

-- The text may go on behind these bytes: they are at most 2^29, and of headed and bare text no one fault is that of every file
-- that begins with them. Where they have the whole header line of a headed text, its matrix is there.
abbrev pub MayGoOnIn : Part → List ℕ → Type 0
MayGoOnIn (OfHeaded state) bytes = GoesOn state bytes
MayGoOnIn (OfBare kept) bytes = IsOpen bytes
MayGoOnIn (OfJcf kept) bytes = Unit {0}

pub record MayGoOn (reader : Fed) (bytes : List ℕ) : Type 0 where
  pub short : length bytes ≤ 2 ^ 29
  pub goes_on : MayGoOnIn reader.part bytes
