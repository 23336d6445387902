-- A bare text that is fed in pieces: the digits of its first line, and the lines behind it.
use Rattle.std.specs.Prelude.{◌≡◌, ℕ, ◌+◌, ◌≤◌, List}
use Rattle.m4_model.specs.Field.{gf2}
use Rattle.m4_model.specs.Matrix.{Matrix}
use Rattle.m4_model.specs.Text.{IsWithinLimits, most_cols}
use Rattle.m4_model.specs.Headed.{Bits}
use Rattle.m4_text.specs.Place.{HasLine}
use Rattle.m4_etext.specs.Pieces.{BodySoFar}

-- What is kept of a bare text: a matrix, and the row and the place in its line of the next digit.
pub record KeptRows : Type 0 where
  pub matrix : Matrix
  pub row_next : ℕ
  pub place_next : ℕ

-- The matrix has room for the first line: one row over GF(2), of the most columns and one more.
pub record HasRoomForLine (A : Matrix) : Type 0 where
  pub field : A.field ≡ gf2
  pub rows : A.rows ≡ 1
  pub cols : A.cols ≡ most_cols + 1

-- What is kept stands for these bytes: they are digits of a first line that hasn't ended, and the row holds them.
pub record StandsForFirst (k : KeptRows) (bytes : List ℕ) : Type 0 where
  pub room : HasRoomForLine k.matrix
  pub few : k.place_next ≤ most_cols
  pub read : BodySoFar Bits k.matrix 0 k.place_next bytes

-- It stands for these bytes: the first line has ended and tells the columns, and the matrix holds the lines so far. It may have
-- more rows, which are within the limits.
pub record StandsForRows (k : KeptRows) (bytes : List ℕ) : Type 0 where
  pub first : HasLine bytes k.matrix.cols
  pub limits : IsWithinLimits 1 k.matrix.rows k.matrix.cols
  pub read : BodySoFar Bits k.matrix k.row_next k.place_next bytes
