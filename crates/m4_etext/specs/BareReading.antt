-- What a reader of bare text keeps, and the bytes for which it stands.
use Rattle.std.specs.Prelude.{◌≡◌, ℕ, ◌^◌, ◌<◌, ◌≤◌, List, [], ◌++◌, length, Option, Some, None}
use Rattle.m4_model.specs.Headed.{Fault}
use Rattle.m4_model.specs.FormTexts.{RefusalAs}
use Rattle.m4_model.specs.declared.form.Form.TheVariants.{Bare}
use Rattle.m4_etext.specs.BareRows.{StandsForFirst, StandsForRows}
use Rattle.m4_etext.specs.FormFaults.{IsFaultOfAllIn}
use Rattle.m4_etext.specs.declared.fault.TextFault.{TextFault}
use Rattle.m4_etext.specs.declared.bare.BareState.{BareState}
use Rattle.m4_etext.specs.declared.bare.BareState.TheVariants.{AtStart, AtFirst, AtRows, Refused}

-- Before the first byte, none; then digits of the first line; once that has ended, the lines so far; after a fault, the fault of
-- every file that begins with the bytes.
abbrev pub StandsForBare : BareState → List ℕ → Type 0
StandsForBare AtStart bytes = bytes ≡ []
StandsForBare (AtFirst kept) bytes = StandsForFirst kept bytes × (0 < length bytes)
StandsForBare (AtRows kept) bytes = StandsForRows kept bytes
StandsForBare (Refused fault) bytes = IsFaultOfAllIn Bare bytes fault

-- The fault that was told, if one was.
abbrev pub told_in : BareState → Option TextFault
told_in AtStart = None
told_in (AtFirst kept) = None
told_in (AtRows kept) = None
told_in (Refused fault) = Some fault

-- The text may go on behind these bytes: they are at most 2^29, and no one fault is that of every file that begins with them.
pub record IsOpen (bytes : List ℕ) : Type 0 where
  pub short : length bytes ≤ 2 ^ 29
  pub goes_on : (fault : Fault) → ((more : List ℕ) → RefusalAs Bare (bytes ++ more) fault) → ⊥
