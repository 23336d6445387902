-- A matrix that was factored, and right sides that are solved by its factors.
use Rattle.std.specs.Prelude.{◌≡◌, ℕ, ◌<◌, ◌≤◌, List, length, slice_index}
use Rattle.m4_model.specs.Field.{sum_below, mul}
use Rattle.m4_model.specs.Matrix.{Matrix, HasShape, at, product}
use Rattle.m4_model.specs.Shapes.{cut, swaps}
use Rattle.m4_perm.specs.Perm.{AreSwaps}
use Rattle.m4_ple.specs.Held.{HoldsPle}
use Rattle.m4_trsm.specs.Triangles.{unit_upper}
use Rattle.m4_solve.specs.Equations.{IsGathered, upper_entry}
use Rattle.m4_solve.specs.declared.factored.Factored.{Factored}

-- The matrix holds a PLE of A, with these exchanges of rows and these pivots.
pub record IsFactored (A : Matrix) (f : Factored) : Type 0 where
  pub shape : HasShape A.field A.rows A.cols f.matrix
  pub exchanges : AreSwaps A.rows f.exchanges.items
  pub few_rows : length f.pivots.items ≤ A.rows
  pub few_cols : length f.pivots.items ≤ A.cols
  pub in_cols : (s : ℕ) → s < length f.pivots.items → slice_index f.pivots.items s < A.cols
  pub holds : HoldsPle A (swaps A.rows f.exchanges.items) f.pivots.items f.matrix

-- U times the first rows of Z is the first rows of Y, where U is the upper triangle of the pivot columns of W with ones on its
-- diagonal.
pub record IsUnitSolved (W : Matrix) (q : List ℕ) (Y Z : Matrix) : Type 0 where
  pub shape : HasShape Y.field Y.rows Y.cols Z
  pub gathered : Matrix
  pub is_gathered : IsGathered W q gathered
  pub solved : product (unit_upper gathered) (cut Z 0 0 (length q) Z.cols) ≡ cut Y 0 0 (length q) Y.cols

-- U times the first rows of Z is the first rows of Y, where U is the upper triangle of the pivot columns of W.
pub record IsBackSolved (W : Matrix) (q : List ℕ) (Y Z : Matrix) : Type 0 where
  pub shape : HasShape Y.field Y.rows Y.cols Z
  pub solved : (i j : ℕ) → i < length q → j < Y.cols → at Y i j ≡ sum_below (length q) (λ s. mul Y.field (upper_entry W q i s) (at Z s j))
