-- What a reader of headed text keeps, and the bytes for which it stands.
use Rattle.std.specs.Prelude.{◌≡◌, ℕ, ◌^◌, ◌≤◌, List, ◌++◌, length}
use Rattle.m4_model.specs.Headed.{Fault, Spelling, Refusal, HasHeader}
use Rattle.m4_etext.specs.Heads.{BeginsHeader}
use Rattle.m4_etext.specs.Pieces.{StandsForLines}
use Rattle.m4_etext.specs.Standing.{IsFaultOfAll}
use Rattle.m4_etext.specs.declared.reader.State.{State}
use Rattle.m4_etext.specs.declared.reader.State.TheVariants.{AtHead, AtLines, Told}

-- Before the header line is whole, the bytes themselves; then the matrix and the place in it; after a fault, the fault of
-- every file that begins with them.
abbrev pub StandsFor : State → List ℕ → Type 0
StandsFor (AtHead seen) bytes = (seen ≡ bytes) × BeginsHeader bytes
StandsFor (AtLines kept) bytes = StandsForLines kept bytes
StandsFor (Told fault) bytes = IsFaultOfAll bytes fault

-- What is kept of a header line begins one.
abbrev pub IsReady : State → Type 0
IsReady (AtHead seen) = BeginsHeader seen
IsReady (AtLines kept) = Unit {0}
IsReady (Told fault) = Unit {0}

-- The header line is whole, and its matrix there.
abbrev pub HasMatrix : State → Type 0
HasMatrix (AtHead seen) = ⊥
HasMatrix (AtLines kept) = Unit {0}
HasMatrix (Told fault) = ⊥

-- No fault is told.
abbrev pub IsUntold : State → Type 0
IsUntold (AtHead seen) = Unit {0}
IsUntold (AtLines kept) = Unit {0}
IsUntold (Told fault) = ⊥

-- The text may go on behind these bytes: they are at most 2^29, no one fault is that of every file that begins with them,
-- and where they have a whole header line, its matrix is there.
pub record GoesOn (s : State) (bytes : List ℕ) : Type 0 where
  pub short : length bytes ≤ 2 ^ 29
  pub open_ : (fault : Fault) → ((more : List ℕ) → Refusal (bytes ++ more) fault) → ⊥
  pub held : (S : Spelling) (m n : ℕ) → HasHeader bytes S m n → HasMatrix s
