-- Matrices of at most 64 columns whose rows are words, and their elimination in place.
use Rattle.std.specs.Prelude.{◌≡◌, ◌⊎◌, ℕ, ◌<◌, ◌≤◌, List, length, slice_index, bit_xor, nat_lt, ◌==◌, if◌then◌else◌}
use Rattle.std.specs.Int.{bit_at}
use Rattle.m4_model.specs.Field.{gf2}
use Rattle.m4_model.specs.Matrix.{Matrix, matrix_of}

-- The matrix over GF(2) of so many columns whose entry in row i and column j is bit j of word i, counted from the lowest.
abbrev pub word_matrix : ℕ → List ℕ → Matrix
word_matrix cols words = matrix_of gf2 (length words) cols (λ i j. bit_at (slice_index words i) j)

-- Bit j of a word once the pivot's word is added to it where it has a one in column c, from the next column on: the factor
-- then stands in column r.
abbrev pub cleared_bit : ℕ → ℕ → ℕ → ℕ → ℕ → ℕ
cleared_bit r c word pivot j =
    if bit_at word c == 0 then bit_at word j
    else if j == r then 1
    else if j == c then 0
    else if nat_lt j c then bit_at word j
    else bit_xor (bit_at word j) (bit_at pivot j)

-- The words below row r and above row k are so, and the others stay.
pub record IsClearedTo (r c k : ℕ) (old now : List ℕ) : Type 0 where
  pub long : length now ≡ length old
  pub done : (i j : ℕ) → r < i → i < k → j < 64 → bit_at (slice_index now i) j ≡ cleared_bit r c (slice_index old i) (slice_index old r) j
  pub kept : (i : ℕ) → (i ≤ r) ⊎ (k ≤ i) → slice_index now i ≡ slice_index old i
