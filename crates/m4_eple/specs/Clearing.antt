-- What a table of multiples is filled from: a row whose multiple by an entry clears the entry, and leaves its factor.
use Rattle.std.specs.Prelude.{◌≡◌, ◌≢◌, ℕ, ◌<◌, List, length, slice_index, bit_xor}
use Rattle.m4_model.specs.Field.{Field, mul}
use Rattle.m4_model.specs.Matrix.{Matrix}
use Rattle.m4_newton.specs.NjTables.{Filled}

-- xs is the row of a pivot in column c, with this inverse of the pivot, and ys is that row times the inverse: a one stands in
-- column c, and zeros stand before it. The inverse is added in column r.
pub record IsClearing (F : Field) (inverse r c : ℕ) (xs ys : List ℕ) : Type 0 where
  pub long : length ys ≡ length xs
  pub factor : r ≢ c → slice_index ys r ≡ inverse
  pub one : r ≢ c → slice_index ys c ≡ 1
  pub both : r ≡ c → slice_index ys c ≡ bit_xor 1 inverse
  pub before : (j : ℕ) → j < c → j ≢ r → slice_index ys j ≡ 0
  pub behind : (j : ℕ) → c < j → j < length xs → slice_index ys j ≡ mul F (slice_index xs j) inverse

-- A table and one row of 64 columns, over one field.
pub record AreTables (table : Filled) (row : Matrix) : Type 0 where
  pub field : row.field ≡ table.field
  pub table_cols : table.cols ≡ 64
  pub one_row : row.rows ≡ 1
  pub row_cols : row.cols ≡ 64
