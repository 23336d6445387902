-- What the reading of digits, of one row and of all rows does to a matrix.
use Rattle.std.specs.Prelude.{◌≡◌, ℕ, ◌+◌, ◌-◌, ◌*◌, ◌<◌, ◌≤◌, ◌⊎◌, Bool, if◌then◌else◌, List, map, length, take, slice_index}
use Rattle.m4_model.specs.Field.{gf2}
use Rattle.m4_model.specs.Matrix.{Matrix, IsMatrix, with_row}
use Rattle.m4_model.specs.Text.{line, text, IsWithinLimits}
use Rattle.m4_model.specs.Bare.{bare_text}
use Rattle.m4_text.specs.Place.{AreBits, IsBinaryDigit}

-- The digit 0 or 1 of this bit stands at this place.
pub record HasDigit (bytes : List ℕ) (place : ℕ) (bit : Bool) : Type 0 where
  pub inside : place < length bytes
  pub digit : slice_index bytes place ≡ 48 + (if bit then 1 else 0)

-- The entries that digits spell.
abbrev pub entries_of : List ℕ → List ℕ
entries_of digits = map (λ byte. byte - 48) digits

-- The digits that entries are spelled by.
abbrev pub digits_from : List ℕ → List ℕ
digits_from entries = map (λ x. 48 + x) entries

-- No digit 0 or 1 stands at this place.
abbrev pub LacksDigit : List ℕ → ℕ → Type 0
LacksDigit bytes place = place < length bytes → IsBinaryDigit (slice_index bytes place) → ⊥

-- A line feed stands at this place.
abbrev pub EndsAt : List ℕ → ℕ → Type 0
EndsAt bytes place = (place < length bytes) × (slice_index bytes place ≡ 10)

-- The bytes begin with the line of a row, and the new matrix has it for row r.
pub record ReadsRow (bytes : List ℕ) (old new : Matrix) (r : ℕ) : Type 0 where
  pub entries : List ℕ
  pub bits : AreBits old.cols entries
  pub within : old.cols + 1 ≤ length bytes
  pub spelled : take (old.cols + 1) bytes ≡ line entries
  pub changed : new ≡ with_row old r entries

-- The bytes before this place are the lines of the new matrix, which has the shape of the old.
pub record ReadsLines (bytes : List ℕ) (old new : Matrix) (end : ℕ) : Type 0 where
  pub within : end ≤ length bytes
  pub spelled : take end bytes ≡ bare_text new
  pub matrix : IsMatrix new
  pub over_gf2 : new.field ≡ gf2
  pub rows : new.rows ≡ old.rows
  pub cols : new.cols ≡ old.cols

-- The bytes are the text of the new matrix, which has the shape of the old.
pub record ReadsRows (bytes : List ℕ) (old new : Matrix) : Type 0 where
  pub spelled : bytes ≡ text new
  pub matrix : IsMatrix new
  pub over_gf2 : new.field ≡ gf2
  pub rows : new.rows ≡ old.rows
  pub cols : new.cols ≡ old.cols

-- So many rows of n columns are to be read of len bytes: the rows that the bytes begin, or the most within the limits.
pub record AreRowsToRead (len n m : ℕ) : Type 0 where
  pub some : 0 < m
  pub limits : IsWithinLimits 1 m n
  pub begun : (m - 1) * (n + 1) < len
  pub all : (len ≤ m * (n + 1)) ⊎ (IsWithinLimits 1 (m + 1) n → ⊥)
