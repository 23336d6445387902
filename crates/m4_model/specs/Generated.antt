-- Generated matrices: the words of SplitMix64 as rows of elements.
use Rattle.std.specs.Prelude.{ℕ, ◌+◌, ◌*◌, ◌/◌, ◌%◌, ◌^◌, bit_xor}
use Rattle.m4_model.specs.Field.{Field, width}
use Rattle.m4_model.specs.Matrix.{Matrix, matrix_of}
use Rattle.m4_model.specs.Text.{words_per_row}

-- z with its bits from k on added to its lowest ones.
abbrev pub folded : ℕ → ℕ → ℕ
folded k z = bit_xor z (z / 2 ^ k)

-- The finish of the generator, which mixes the bits of a number below 2^64.
abbrev pub mix : ℕ → ℕ
mix z = folded 31 (folded 27 (folded 30 z * 0xbf58476d1ce4e5b9 % 2 ^ 64) * 0x94d049bb133111eb % 2 ^ 64)

-- Word k of a seed below 2^64, counted from 0.
unfoldable pub word : ℕ → ℕ → ℕ
word seed k = mix ((seed + (k + 1) * 0x9e3779b97f4a7c15) % 2 ^ 64)

-- Word t of row i of a matrix of n columns over F: the rows take their words one after the other.
abbrev pub row_word : Field → ℕ → ℕ → ℕ → ℕ → ℕ
row_word F n seed i t = word seed (i * words_per_row (n * width F) + t)

-- Element j of row i. Its place is the `width` bits of the row's words from bit j * width on, and it is as many of them as the
-- field's degree, the lowest ones.
abbrev pub generated_at : Field → ℕ → ℕ → ℕ → ℕ → ℕ
generated_at F n seed i j = row_word F n seed i (j * width F / 64) / 2 ^ (j * width F % 64) % 2 ^ F.degree

-- The m x n matrix over F of a seed. What its rows' words have past the last column is dropped.
abbrev pub generated : Field → ℕ → ℕ → ℕ → Matrix
generated F m n seed = matrix_of F m n (generated_at F n seed)
