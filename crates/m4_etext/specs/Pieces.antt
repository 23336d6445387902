-- A headed text that is fed in pieces: the lines that are read so far, and where they can't go on.
use Rattle.std.specs.Prelude.{◌≡◌, ℕ, ◌+◌, ◌-◌, ◌*◌, ◌/◌, ◌%◌, ◌^◌, ◌<◌, ◌≤◌, false, List, ◌++◌, map, length, take, slice_index, flat_map}
use Rattle.std.specs.Fmt.{digit_glyph}
use Rattle.m4_model.specs.Field.{Field, IsElement, width}
use Rattle.m4_model.specs.Matrix.{Matrix, IsMatrix, row, with_row}
use Rattle.m4_model.specs.Text.{IsWithinLimits}
use Rattle.m4_model.specs.Headed.{Spelling, Bits, Fours, Elements, AreHeaderNumbers, HasField, field_of, header, line, row_digits, digits_per_element}
use Rattle.m4_etext.specs.Place.{IsValue}

-- How many digits the line of a row of n entries has.
abbrev pub digits_in : Spelling → ℕ → ℕ
digits_in Bits n = n
digits_in Fours n = (n + 3) / 4
digits_in (Elements F) n = n * digits_per_element F

-- The digit of this value may stand at place t of the line of a row of n entries. Of an element the first digit alone has a
-- bound of its own.
abbrev pub MayStand : Spelling → ℕ → ℕ → ℕ → Type 0
MayStand Bits n t v = v < 2
MayStand Fours n t v = v < 2 ^ (n - 4 * t)
MayStand (Elements F) n t v = t % digits_per_element F ≡ 0 → v * 16 ^ (digits_per_element F - 1) < 2 ^ F.degree

-- The byte is a digit that may stand there.
abbrev pub IsDigitAt : Spelling → ℕ → ℕ → ℕ → Type 0
IsDigitAt S n t byte = (v : ℕ) × IsValue byte v × MayStand S n t v

-- The entries of a row over a field of n columns.
pub record IsRow (F : Field) (n : ℕ) (entries : List ℕ) : Type 0 where
  pub wide : length entries ≡ n
  pub elements : (j : ℕ) → j < n → IsElement F (slice_index entries j)

-- The digits of a row.
abbrev pub glyphs : Spelling → List ℕ → List ℕ
glyphs S entries = map (digit_glyph false) (row_digits S entries)

-- The bytes are the lines of the matrix's rows before row r, and then the first t digits of row r. What the matrix holds
-- behind them is anything.
pub record BodySoFar (S : Spelling) (A : Matrix) (r t : ℕ) (body : List ℕ) : Type 0 where
  pub matrix : IsMatrix A
  pub field : A.field ≡ field_of S
  pub in_rows : r ≤ A.rows
  pub in_line : t ≤ digits_in S A.cols
  pub last : r ≡ A.rows → t ≡ 0
  pub spelled : body ≡ flat_map (line S) (take r A.entries) ++ take t (glyphs S (row A r))

-- Behind the first t digits of row r of an m x n matrix no text goes on as these bytes do: all rows are there and more
-- follows, or what follows is nothing or neither a digit that may stand there nor the line feed that is wanted.
pub record Stops (S : Spelling) (m n r t : ℕ) (rest : List ℕ) : Type 0 where
  pub more : r ≡ m → 0 < length rest
  pub digit : r < m → 0 < length rest → t < digits_in S n → IsDigitAt S n t (slice_index rest 0) → ⊥
  pub ending : r < m → 0 < length rest → t ≡ digits_in S n → slice_index rest 0 ≡ 10 → ⊥

-- The first k bytes are digits, which the new matrix has in row r from place t on. What it has there behind them is anything.
pub record ReadsDigits (S : Spelling) (bytes : List ℕ) (old new : Matrix) (r t k : ℕ) : Type 0 where
  pub within : k ≤ length bytes
  pub in_line : t + k ≤ digits_in S old.cols
  pub entries : List ℕ
  pub is : IsRow old.field old.cols entries
  pub changed : new ≡ with_row old r entries
  pub front : take (t + k) (glyphs S entries) ≡ take t (glyphs S (row old r)) ++ take k bytes

-- What is kept of a text whose header is there: its spelling, how long the header is, the matrix, and the row and the place in
-- its line of the next digit.
pub record Kept : Type 0 where
  pub spelling : Spelling
  pub head : ℕ
  pub matrix : Matrix
  pub row_next : ℕ
  pub place_next : ℕ

-- It stands for these bytes: a header line within the limits, and behind it the lines that the matrix holds so far.
pub record StandsForLines (k : Kept) (bytes : List ℕ) : Type 0 where
  pub body : List ℕ
  pub numbers : AreHeaderNumbers k.spelling k.matrix.rows k.matrix.cols
  pub has_field : HasField k.spelling
  pub limits : IsWithinLimits (width (field_of k.spelling)) k.matrix.rows k.matrix.cols
  pub long : k.head ≡ length (header k.spelling k.matrix.rows k.matrix.cols)
  pub spelled : bytes ≡ header k.spelling k.matrix.rows k.matrix.cols ++ body
  pub read : BodySoFar k.spelling k.matrix k.row_next k.place_next body
