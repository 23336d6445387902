-- Matrices that can be compared entry by entry.
use Rattle.std.specs.Prelude.{◌≡◌}
use Rattle.m4_model.specs.Matrix.{Matrix}

-- B is over the field of A, and has its shape.
pub record AreAlike (A B : Matrix) : Type 0 where
  pub field : B.field ≡ A.field
  pub rows : B.rows ≡ A.rows
  pub cols : B.cols ≡ A.cols
