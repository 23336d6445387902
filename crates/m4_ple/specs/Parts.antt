-- What a matrix in place holds of its factors.
use Rattle.std.specs.Prelude.{ℕ, List, length, slice_index, nat_lt, nat_le, ◌&&◌, if◌then◌else◌}
use Rattle.m4_model.specs.Matrix.{Matrix, at, matrix_of}

-- Entry (i, j) of W where it stands in row i from column c_i on, for i below n, and 0 elsewhere.
abbrev pub tail_entry : ℕ → (ℕ → ℕ) → Matrix → ℕ → ℕ → ℕ
tail_entry n c W i j = if nat_lt i n && nat_le (c i) j then at W i j else 0

-- What stands in row i from column q_i on, for i below the length of q, and zeros elsewhere.
abbrev pub echelon_entry : List ℕ → Matrix → ℕ → ℕ → ℕ
echelon_entry q W = tail_entry (length q) (slice_index q) W

-- The matrix of these entries.
abbrev pub echelon_part : List ℕ → Matrix → Matrix
echelon_part q W = matrix_of W.field W.rows W.cols (echelon_entry q W)

-- What stands in row i from the diagonal on, for i below r, and zeros elsewhere.
abbrev pub triangle_entry : ℕ → Matrix → ℕ → ℕ → ℕ
triangle_entry r W = tail_entry r (λ i. i) W

-- The matrix of these entries.
abbrev pub triangle_part : ℕ → Matrix → Matrix
triangle_part r W = matrix_of W.field W.rows W.cols (triangle_entry r W)
