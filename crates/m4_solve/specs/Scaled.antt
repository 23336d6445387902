-- A row that is multiplied by an element.
use Rattle.std.specs.Prelude.{◌≡◌, ◌≢◌, ℕ, ◌<◌}
use Rattle.m4_model.specs.Field.{IsElement, mul}
use Rattle.m4_model.specs.Matrix.{Matrix, at}

-- Row i of C is that of A times an element that isn't zero, and every other row is that of A.
pub record IsScaled (i : ℕ) (A C : Matrix) : Type 0 where
  pub factor : ℕ
  pub element : IsElement A.field factor
  pub some : factor ≢ 0
  pub own : (j : ℕ) → j < A.cols → at C i j ≡ mul A.field factor (at A i j)
  pub others : (k j : ℕ) → k ≢ i → at C k j ≡ at A k j
