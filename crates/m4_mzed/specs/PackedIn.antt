-- A matrix of bits that holds elements.
use Rattle.std.specs.Prelude.{◌≡◌, ℕ, ◌*◌, length}
use Rattle.std.specs.List.{All}
use Rattle.m4_model.specs.Field.{Field, IsCarried, width}
use Rattle.m4_model.specs.Matrix.{Matrix}
use Rattle.m4_mzed.specs.Packed.{IsPackedRow}

-- Each row of the matrix of bits A holds so many elements of the field.
pub record IsPackedIn (F : Field) (cols : ℕ) (A : Matrix) : Type 0 where
  pub carried : IsCarried F
  pub wide : A.cols ≡ cols * width F
  pub count : length A.entries ≡ A.rows
  pub packed : All (IsPackedRow F cols) A.entries
