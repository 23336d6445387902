-- The exchange of columns that makes a PLUQ of a PLE in place.
use Rattle.std.specs.Prelude.{ℕ, List, drop, slice_index, nat_lt, if◌then◌else◌}
use Rattle.m4_model.specs.Matrix.{Matrix, row, at, matrix_of}
use Rattle.m4_model.specs.Shapes.{exchanged}

-- Row i with its entries k and q_k exchanged, for k from i on.
abbrev pub exchanged_row : List ℕ → Matrix → ℕ → List ℕ
exchanged_row q W i = exchanged i (drop i q) (row W i)

-- The first k rows so.
abbrev pub with_exchanged : List ℕ → ℕ → Matrix → Matrix
with_exchanged q k W = matrix_of W.field W.rows W.cols (λ i j. if nat_lt i k then slice_index (exchanged_row q W i) j else at W i j)
