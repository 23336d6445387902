-- The basis of the kernel, read off the reduced form.
use Rattle.std.specs.Prelude.{◌≡◌, ◌≢◌, ℕ, ◌<◌, List, length, slice_index}
use Rattle.m4_model.specs.Matrix.{Matrix, HasShape, at}
use Rattle.m4_model.specs.Rank.{IsRising}

-- g is the rising list of the numbers below n that aren't in q.
pub record AreOthers (n : ℕ) (q g : List ℕ) : Type 0 where
  pub rising : IsRising g
  pub below : (t : ℕ) → t < length g → slice_index g t < n
  pub apart : (t s : ℕ) → t < length g → s < length q → slice_index q s ≢ slice_index g t
  pub rest : (j : ℕ) → j < n → ((t : ℕ) → t < length g → slice_index g t ≢ j) → (s : ℕ) × (s < length q) × (slice_index q s ≡ j)

-- Row t of K is 1 at column g, at each of the first s pivots q_u it is entry g of row u of R, and 0 elsewhere.
pub record IsFilledTo (R : Matrix) (q : List ℕ) (s g t : ℕ) (K : Matrix) : Type 0 where
  pub own : at K t g ≡ 1
  pub at_pivots : (u : ℕ) → u < s → at K t (slice_index q u) ≡ at R u g
  pub elsewhere : (j : ℕ) → j < K.cols → j ≢ g → ((u : ℕ) → u < s → slice_index q u ≢ j) → at K t j ≡ 0

-- The rows of K, one for each number of g, are filled at the first s pivots.
pub record AreFilledTo (R : Matrix) (q g : List ℕ) (s : ℕ) (K : Matrix) : Type 0 where
  pub rows : K.rows ≡ length g
  pub cols : K.cols ≡ R.cols
  pub filled : (t : ℕ) → t < length g → IsFilledTo R q s (slice_index g t) t K

-- Row t of K is 1 at column g, at each pivot q_s it is entry g of row s of R, and 0 elsewhere.
abbrev pub IsKernelRow : Matrix → List ℕ → ℕ → ℕ → Matrix → Type 0
IsKernelRow R q g t K = IsFilledTo R q (length q) g t K

-- The rows of K are such rows, one for each number of g.
pub record IsKernelBasis (R : Matrix) (q g : List ℕ) (K : Matrix) : Type 0 where
  pub shape : HasShape R.field (length g) R.cols K
  pub rows : (t : ℕ) → t < length g → IsKernelRow R q (slice_index g t) t K
