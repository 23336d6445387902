-- What the calls on rows of a window leave in them.
use Rattle.std.specs.Prelude.{ℕ, ◌/◌, ◌%◌, List, [], ◌∷◌, ◌++◌, length, map, take, drop, slice_index, ◌==◌, if◌then◌else◌}
use Rattle.std.specs.List.{range_with_len}
use Rattle.std.specs.Int.{bit_at}
use Rattle.m4_model.specs.Matrix.{Matrix, row, row_sum}

-- A row with the entries of another added to it from column c on.
abbrev pub sum_from : ℕ → List ℕ → List ℕ → List ℕ
sum_from c xs ys = take c xs ++ row_sum (drop c xs) (drop c ys)

-- A row with each of the other rows added to it in turn.
abbrev pub sum_of : List ℕ → List (List ℕ) → List ℕ
sum_of xs [] = xs
sum_of xs (y ∷ ys) = sum_of (row_sum xs y) ys

-- The rows of a matrix that have these numbers.
abbrev pub rows_at : Matrix → List ℕ → List (List ℕ)
rows_at A numbers = map (row A) numbers

-- A row with the bits of a word in its columns from 64 w on, as far as it has them.
abbrev pub with_word : ℕ → ℕ → List ℕ → List ℕ
with_word w value entries =
    map (λ j. if j / 64 == w then bit_at value (j % 64) else slice_index entries j) (range_with_len 0 (length entries))

-- The bits of a row of digits: 1 for the digit `1`, and 0 for any other byte.
abbrev pub bits_of_digits : List ℕ → List ℕ
bits_of_digits digits = map (λ byte. if byte == 49 then 1 else 0) digits
