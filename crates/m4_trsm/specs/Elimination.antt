-- One step of a solve by rows: an entry that is known is taken out of the others.
use Rattle.std.specs.Prelude.{ℕ, List, map, length, bit_xor, slice_index}
use Rattle.std.specs.List.{range_with_len}
use Rattle.m4_model.specs.Field.{mul}
use Rattle.m4_model.specs.Matrix.{Matrix, matrix_of, at}
use Rattle.m4_trsm.specs.Triangles.{inside}
use Rattle.m4_trsm.specs.declared.side.Side.{Side}

-- To each row is added the multiple of row i of A by its entry in column i of the triangle.
abbrev pub without_row : Side → Matrix → Matrix → ℕ → Matrix
without_row side T A i = matrix_of A.field A.rows A.cols (λ r j. bit_xor (at A r j) (mul A.field (at A i j) (inside side T r i)))

-- Where entry j of a row is 1, row j of the triangle is added to it.
abbrev pub without_entry : Side → Matrix → List ℕ → ℕ → List ℕ
without_entry side T entries j =
    map (λ k. bit_xor (slice_index entries k) (mul T.field (slice_index entries j) (inside side T j k))) (range_with_len 0 (length entries))
