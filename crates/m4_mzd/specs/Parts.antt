-- Parts of rows, and a column of words.
use Rattle.std.specs.Prelude.{ℕ, ◌+◌, ◌/◌, ◌%◌, List, ◌++◌, length, take, drop, slice_index, ◌==◌, if◌then◌else◌}
use Rattle.std.specs.Int.{bit_at}
use Rattle.m4_model.specs.Matrix.{Matrix, matrix_of, at}

-- The n entries of a row from column c on.
abbrev pub part : ℕ → ℕ → List ℕ → List ℕ
part c n xs = take n (drop c xs)

-- A row with other entries in place of its own from column c on, as many as there are of them.
abbrev pub with_part : ℕ → List ℕ → List ℕ → List ℕ
with_part c ys xs = take c xs ++ ys ++ drop (c + length ys) xs

-- A matrix with the bits of words, one for each row, in its columns from 64 w on, as far as it has them.
abbrev pub with_words : ℕ → List ℕ → Matrix → Matrix
with_words w words A =
    matrix_of A.field A.rows A.cols (λ i j. if j / 64 == w then bit_at (slice_index words i) (j % 64) else at A i j)
