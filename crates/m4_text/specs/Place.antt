-- Where bytes go wrong, told part by part.
use Rattle.std.specs.Prelude.{◌≡◌, ℕ, ◌-◌, ◌<◌, ◌≤◌, ◌⊎◌, List, [], ◌∷◌, ◌++◌, length, take, drop, slice_index, decimal, codes}
use Rattle.std.specs.Char.{IsAsciiDigit}
use Rattle.m4_model.specs.Field.{gf2}
use Rattle.m4_model.specs.Matrix.{Matrix, IsMatrix}
use Rattle.m4_model.specs.Text.{IsLongest, IsHeaderNumber, IsTextOf, header, line}
use Rattle.m4_model.specs.Bare.{bare_text}

-- The bytes go wrong at this place: the front before it is the longest that begins a text with P, and isn't one yet.
pub record GoesWrong (P : List ℕ → Type 0) (bytes : List ℕ) (place : ℕ) : Type 0 where
  pub longest : IsLongest P bytes place
  pub unfinished : P (take place bytes) → ⊥

-- The bytes from `start` on go wrong at this place, counted from the first of all bytes.
pub record GoesWrongFrom (P : List ℕ → Type 0) (bytes : List ℕ) (start place : ℕ) : Type 0 where
  pub behind : start ≤ place
  pub wrong : GoesWrong P (drop start bytes) (place - start)

-- The letters that every header begins with.
abbrev pub IsOpening : List ℕ → Type 0
IsOpening bytes = bytes ≡ codes "gf2 "

-- The bytes begin with those letters, which end before this place.
pub record IsOpeningOf (bytes : List ℕ) (end : ℕ) : Type 0 where
  pub within : end ≤ length bytes
  pub spelled : IsOpening (take end bytes)

-- A number of a header, and the byte that ends it.
abbrev pub IsNumber : ℕ → List ℕ → Type 0
IsNumber ending bytes = (n : ℕ) × IsHeaderNumber n × (bytes ≡ decimal n ++ ending ∷ [])

-- The byte goes on with a number of which `len` digits, worth `value`, are there: it is a digit, they are fewer than
-- nine, and they aren't a zero.
pub record Lengthens (value len byte : ℕ) : Type 0 where
  pub digit : IsAsciiDigit byte
  pub room : len < 9
  pub nonzero : (len ≡ 0) ⊎ (0 < value)

-- The first `len` bytes are digits that spell `value`, and the next byte doesn't go on with it.
pub record IsLeadingNumber (bytes : List ℕ) (value len : ℕ) : Type 0 where
  pub within : len ≤ length bytes
  pub small : IsHeaderNumber value
  pub spelled : 0 < len → take len bytes ≡ decimal value
  pub stops : len < length bytes → Lengthens value len (slice_index bytes len) → ⊥

-- From `start` on the bytes spell this number and the byte that ends it, and go on at the place `end`.
pub record IsNumberAt (bytes : List ℕ) (start ending value end : ℕ) : Type 0 where
  pub within : end ≤ length bytes
  pub small : IsHeaderNumber value
  pub spelled : drop start bytes ≡ (decimal value ++ ending ∷ []) ++ drop end bytes

-- The bytes begin with the header line of these numbers, which ends before the place `end`.
pub record IsHeaderOf (bytes : List ℕ) (m n end : ℕ) : Type 0 where
  pub within : end ≤ length bytes
  pub rows : IsHeaderNumber m
  pub cols : IsHeaderNumber n
  pub spelled : take end bytes ≡ header m n

-- The entries of a row over GF(2) of n columns.
pub record AreBits (n : ℕ) (entries : List ℕ) : Type 0 where
  pub width : length entries ≡ n
  pub elements : (j : ℕ) → j < n → slice_index entries j < 2

-- The line of some row of n columns.
abbrev pub IsLine : ℕ → List ℕ → Type 0
IsLine n bytes = (entries : List ℕ) × AreBits n entries × (bytes ≡ line entries)

-- The digit 0 or 1.
abbrev pub IsBinaryDigit : ℕ → Type 0
IsBinaryDigit byte = (48 ≤ byte) × (byte ≤ 49)

-- The lines of the rows of some m x n matrix.
abbrev pub IsBareOf : ℕ → ℕ → List ℕ → Type 0
IsBareOf m n bytes = (M : Matrix) × IsMatrix M × (M.field ≡ gf2) × (M.rows ≡ m) × (M.cols ≡ n) × (bytes ≡ bare_text M)

-- The bytes begin with the line of a row of n columns.
pub record HasLine (bytes : List ℕ) (n : ℕ) : Type 0 where
  pub inside : n < length bytes
  pub digits : (j : ℕ) → j < n → IsBinaryDigit (slice_index bytes j)
  pub ended : slice_index bytes n ≡ 10

-- The bytes are no text of an m x n matrix, and go wrong at this place.
pub record IsWrongText (m n : ℕ) (bytes : List ℕ) (place : ℕ) : Type 0 where
  pub none : IsTextOf m n bytes → ⊥
  pub longest : IsLongest (IsTextOf m n) bytes place
