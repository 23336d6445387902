-- What exchanges are allowed, when one order undoes another, and columns in another order.
use Rattle.std.specs.Prelude.{◌≡◌, ℕ, ◌^◌, ◌<◌, ◌≤◌, List, length, slice_index}
use Rattle.m4_model.specs.Matrix.{Matrix, matrix_of, at}
use Rattle.m4_model.specs.Factors.{IsOrder}

-- At most n exchanges, each of the entry of its number with one that isn't before it.
pub record AreSwaps (n : ℕ) (exchanges : List ℕ) : Type 0 where
  pub count : length exchanges ≤ n
  pub behind : (i : ℕ) → i < length exchanges → i ≤ slice_index exchanges i
  pub below : (i : ℕ) → i < length exchanges → slice_index exchanges i < n

-- q has the place of each number of p.
pub record IsInverseOrder (p q : List ℕ) : Type 0 where
  pub count : length q ≡ length p
  pub places : (i : ℕ) → i < length p → slice_index q (slice_index p i) ≡ i

-- The numbers below some n, each once, where n is a number of 32 bits.
pub record IsPermutation (p : List ℕ) : Type 0 where
  pub order : IsOrder (length p) p
  pub short : length p < 2 ^ 32

-- The columns of A in the order p: column j is column p_j of A.
abbrev pub columns_reordered : List ℕ → Matrix → Matrix
columns_reordered p A = matrix_of A.field A.rows A.cols (λ i j. at A i (slice_index p j))
