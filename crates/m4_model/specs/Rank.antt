-- Free columns, pivots and rank.
use Rattle.std.specs.Prelude.{◌≡◌, ℕ, ◌<◌, List, length, slice_index, Contains}
use Rattle.m4_model.specs.Field.{IsElement, sum_below, mul}
use Rattle.m4_model.specs.Matrix.{Matrix, at}

-- Column j is free: it is a combination of the columns before it, with elements for coefficients.
pub record IsFree (A : Matrix) (j : ℕ) : Type 0 where
  pub coefficients : ℕ → ℕ
  pub elements : (t : ℕ) → t < j → IsElement A.field (coefficients t)
  pub combined : (i : ℕ) → i < A.rows → at A i j ≡ sum_below j (λ t. mul A.field (coefficients t) (at A i t))

-- Each number of the list is below every later one.
abbrev pub IsRising : List ℕ → Type 0
IsRising q = (i j : ℕ) → i < j → j < length q → slice_index q i < slice_index q j

-- q is the rising list of the columns of A that aren't free.
pub record ArePivots (A : Matrix) (q : List ℕ) : Type 0 where
  pub rising : IsRising q
  pub columns : (k : ℕ) → k < length q → slice_index q k < A.cols
  pub unfree : (k : ℕ) → k < length q → IsFree A (slice_index q k) → ⊥
  pub others : (j : ℕ) → j < A.cols → (Contains q j → ⊥) → IsFree A j

-- The rank of A is the number of its pivots.
abbrev pub IsRank : Matrix → ℕ → Type 0
IsRank A r = (q : List ℕ) × ArePivots A q × (length q ≡ r)
