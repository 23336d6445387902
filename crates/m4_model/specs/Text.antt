-- Headed text: the one text of a matrix, its limits, what reads as a matrix, and where a text is refused.
use Rattle.std.specs.Prelude.{◌≡◌, ℕ, ◌+◌, ◌*◌, ◌/◌, ◌^◌, ◌<◌, ◌≤◌, ◌⊎◌, List, [], ◌∷◌, ◌++◌, map, length, take, flat_map, codes, decimal}
use Rattle.m4_model.specs.Field.{gf2}
use Rattle.m4_model.specs.Matrix.{Matrix, IsMatrix}

-- The header line of an m x n matrix over GF(2).
abbrev pub header : ℕ → ℕ → List ℕ
header m n = codes "gf2 " ++ (decimal m ++ (codes " " ++ (decimal n ++ codes "\n")))

-- The line of a row: its digits, with nothing between them, and a line feed.
abbrev pub line : List ℕ → List ℕ
line entries = map (λ x. 48 + x) entries ++ 10 ∷ []

-- The headed text of a matrix over GF(2): its header, and a line for each row.
abbrev pub text : Matrix → List ℕ
text M = header M.rows M.cols ++ flat_map line M.entries

-- A number in a header is `0`, or a digit from 1 to 9 and at most eight more digits.
abbrev pub IsHeaderNumber : ℕ → Type 0
IsHeaderNumber n = n < 10 ^ 9

-- How many words of 64 bits a row of n bits takes.
abbrev pub words_per_row : ℕ → ℕ
words_per_row n = (n + 63) / 64

-- The most rows, columns and words of a file's or a result's matrix.
abbrev pub most_rows : ℕ
most_rows = 65536

abbrev pub most_cols : ℕ
most_cols = 65536

abbrev pub most_words : ℕ
most_words = 2 ^ 22

-- The limits on a file's or a result's m x n matrix whose entries take so many bits.
pub record IsWithinLimits (bits m n : ℕ) : Type 0 where
  pub rows : m ≤ most_rows
  pub cols : n ≤ most_cols
  pub words : m * words_per_row (n * bits) ≤ most_words

-- A matrix over GF(2) within the limits.
pub record InLimits (M : Matrix) : Type 0 where
  pub matrix : IsMatrix M
  pub over_gf2 : M.field ≡ gf2
  pub limits : IsWithinLimits 1 M.rows M.cols

-- The bytes are read as M: they are its text.
pub record Reads (bytes : List ℕ) (M : Matrix) : Type 0 where
  pub accepted : InLimits M
  pub spelled : bytes ≡ text M

-- A front of some text with P.
abbrev pub Begins : (List ℕ → Type 0) → List ℕ → Type 0
Begins P front = (rest : List ℕ) × P (front ++ rest)

-- n is the length of the longest front of the bytes that begins a text with P.
pub record IsLongest (P : List ℕ → Type 0) (bytes : List ℕ) (n : ℕ) : Type 0 where
  pub within : n ≤ length bytes
  pub begins : Begins P (take n bytes)
  pub longest : (k : ℕ) → n < k → k ≤ length bytes → Begins P (take k bytes) → ⊥

-- A header line, whatever its numbers are.
abbrev pub IsHeader : List ℕ → Type 0
IsHeader bytes = (m n : ℕ) × IsHeaderNumber m × IsHeaderNumber n × (bytes ≡ header m n)

-- The text of some m x n matrix.
abbrev pub IsTextOf : ℕ → ℕ → List ℕ → Type 0
IsTextOf m n bytes = (M : Matrix) × IsMatrix M × (M.field ≡ gf2) × (M.rows ≡ m) × (M.cols ≡ n) × (bytes ≡ text M)

-- The bytes begin with the header line of an m x n matrix.
abbrev pub HasHeader : List ℕ → ℕ → ℕ → Type 0
HasHeader bytes m n = IsHeaderNumber m × IsHeaderNumber n × (rest : List ℕ) × (bytes ≡ header m n ++ rest)

-- Why a text is refused: it goes wrong at a place, or its numbers pass a limit.
pub data Fault : Type 0 where
  BadAt : (place : ℕ) → Fault
  PastLimit : Fault

-- The bytes begin with no header line, and go wrong in it.
pub record IsBadHeader (bytes : List ℕ) (place : ℕ) : Type 0 where
  pub none : (m n : ℕ) → HasHeader bytes m n → ⊥
  pub longest : IsLongest IsHeader bytes place

-- The header is within the limits, and the bytes go wrong behind it: they are no text of a matrix of its shape.
pub record IsBadBody (bytes : List ℕ) (place m n : ℕ) : Type 0 where
  pub begins : HasHeader bytes m n
  pub limits : IsWithinLimits 1 m n
  pub none : IsTextOf m n bytes → ⊥
  pub longest : IsLongest (IsTextOf m n) bytes place

-- The bytes are refused, with this fault.
abbrev pub Refusal : List ℕ → Fault → Type 0
Refusal bytes (BadAt place) = IsBadHeader bytes place ⊎ ((m n : ℕ) × IsBadBody bytes place m n)
Refusal bytes PastLimit = (m n : ℕ) × HasHeader bytes m n × (IsWithinLimits 1 m n → ⊥)
