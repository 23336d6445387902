-- What starts, reads and writes mean: what rises when one fails, what a started file has, and how much of a text a
-- writing takes.
use Rattle.std.specs.Prelude.{◌≡◌, ℕ, ◌+◌, ◌-◌, ◌^◌, ◌≤◌, ◌<◌, min, List, ◌++◌, length, Option, Some, None, Result, MatchResult, OnOk, OnErr, IsErr}
use Rattle.std.specs.Io.KnownBytes.{Appends}
use Rattle.m4_model.specs.Stock.{Stock, bytes_of}

-- A count of faults rose in a call: it grew, or it stands at the end of its type.
abbrev pub Rose : ℕ → ℕ → Type 0
Rose before now = min (before + 1) (2 ^ 64 - 1) ≤ now

-- The told files lack this name.
abbrev pub Lacks : Option Stock → List ℕ → Type 0
Lacks told name = (files : Stock) × (told ≡ Some files) × (bytes_of files name ≡ None)

-- Where the files are told, the bytes that are left are those of the first file of this name.
abbrev pub Starts : Option Stock → List ℕ → Option (List ℕ) → Type 0
Starts told name rest = (files : Stock) → told ≡ Some files → (bytes : List ℕ) × (bytes_of files name ≡ Some bytes) × (rest ≡ Some bytes)

-- A front of the text, with at least one byte left after it.
abbrev pub IsProperFront : List ℕ → List ℕ → Type 0
IsProperFront front text = (rest : List ℕ) × (0 < length rest) × (text ≡ front ++ rest)

-- The bytes that were taken grow by a front of the text, and not by all of it.
abbrev pub AppendsFront : Option (List ℕ) → Option (List ℕ) → List ℕ → Type 0
AppendsFront old new text = (front : List ℕ) × IsProperFront front text × Appends old new front

-- What the writing of a whole text does, by its answer: to the bytes that were taken, where they are told, and to
-- the count of faults.
pub record WritesAll {T E : Type 0} (old new : Option (List ℕ)) (before now : ℕ) (result : Result T E) (text : List ℕ) : Type 0 where
  pub taken : MatchResult result (λ _. Appends old new text) (λ _. AppendsFront old new text)
  pub later : before ≤ now
  pub kept : OnOk result (now ≡ before)
  pub cause : OnErr result (Rose before now)
  pub grown : before < now → IsErr result
