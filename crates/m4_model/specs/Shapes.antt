-- Matrices made of parts of others, and orders of rows and columns.
use Rattle.std.specs.Prelude.{◌≡◌, ℕ, suc, ◌+◌, ◌-◌, ◌*◌, ◌%◌, ◌≤◌, List, [], ◌∷◌, swap, nat_lt, nat_le, ◌&&◌, if◌then◌else◌}
use Rattle.std.specs.List.{range_with_len}
use Rattle.m4_model.specs.Field.{width}
use Rattle.m4_model.specs.Matrix.{Matrix, matrix_of, at, added, product}

-- Rows become columns.
abbrev pub transposed : Matrix → Matrix
transposed A = matrix_of A.field A.cols A.rows (λ i j. at A j i)

-- A over B, which have equal columns.
abbrev pub above : Matrix → Matrix → Matrix
above A B = matrix_of A.field (A.rows + B.rows) A.cols (λ i j. if nat_lt i A.rows then at A i j else at B (i - A.rows) j)

-- A left of B, which have equal rows.
abbrev pub beside : Matrix → Matrix → Matrix
beside A B = matrix_of A.field A.rows (A.cols + B.cols) (λ i j. if nat_lt j A.cols then at A i j else at B i (j - A.cols))

-- Rows `row` to `row_end - 1` and columns `col` to `col_end - 1` are those of a rectangle of a matrix of so many rows and columns.
pub record LiesInside (row col row_end col_end rows cols : ℕ) : Type 0 where
  pub in_order : row ≤ row_end
  pub in_order_across : col ≤ col_end
  pub in_rows : row_end ≤ rows
  pub in_cols : col_end ≤ cols

-- The content of a rectangle: rows r0 to r1 - 1 and columns c0 to c1 - 1.
abbrev pub cut : Matrix → ℕ → ℕ → ℕ → ℕ → Matrix
cut A r0 c0 r1 c1 = matrix_of A.field (r1 - r0) (c1 - c0) (λ i j. at A (r0 + i) (c0 + j))

-- A with W in place of the rectangle of W's shape that begins at row r0 and column c0.
abbrev pub replace : Matrix → ℕ → ℕ → Matrix → Matrix
replace A r0 c0 W = matrix_of A.field A.rows A.cols (λ i j.
    if (nat_le r0 i && nat_lt i (r0 + W.rows)) && (nat_le c0 j && nat_lt j (c0 + W.cols)) then at W (i - r0) (j - c0) else at A i j)

-- A rectangle of so many rows and columns at this place of C begins at a word's first column, and lies within C.
pub record HasRoom (C : Matrix) (row col rows cols : ℕ) : Type 0 where
  pub aligned : col * width C.field % 64 ≡ 0
  pub within_rows : row + rows ≤ C.rows
  pub within_cols : col + cols ≤ C.cols

-- C with A B added to the rectangle of its shape at this place.
abbrev pub with_product : Matrix → ℕ → ℕ → Matrix → Matrix → Matrix
with_product C row col A B =
    replace C row col (added (cut C row col (row + A.rows) (col + B.cols)) (product A B))

-- A list after its entries i and s_0 are exchanged, then i + 1 and s_1, and so on.
unfoldable pub exchanged : ℕ → List ℕ → List ℕ → List ℕ
exchanged i [] order = order
exchanged i (s ∷ swaps) order = exchanged (suc i) swaps (swap order i s)

-- The numbers below n after entries i and s_i are exchanged for i = 0, 1, 2 and so on.
abbrev pub swaps : ℕ → List ℕ → List ℕ
swaps n s = exchanged 0 s (range_with_len 0 n)
