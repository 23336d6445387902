-- Equations that are solved by the factors of their matrix.
use Rattle.std.specs.Prelude.{◌≡◌, ◌≢◌, ℕ, ◌<◌, ◌≤◌, List, length, slice_index, nat_le, if◌then◌else◌}
use Rattle.m4_model.specs.Field.{mul}
use Rattle.m4_model.specs.Matrix.{Matrix, HasShape, at}

-- Column s of G holds the first entries of column q_s of W, as many as there are numbers in q.
pub record IsGathered (W : Matrix) (q : List ℕ) (G : Matrix) : Type 0 where
  pub shape : HasShape W.field (length q) (length q) G
  pub columns : (i s : ℕ) → i < length q → s < length q → at G i s ≡ at W i (slice_index q s)

-- X has n rows: the one at each q_s is row s of Z, and the others are zero.
pub record IsPlaced (Z : Matrix) (q : List ℕ) (n : ℕ) (X : Matrix) : Type 0 where
  pub shape : HasShape Z.field n Z.cols X
  pub at_pivot : (s j : ℕ) → s < length q → j < Z.cols → at X (slice_index q s) j ≡ at Z s j
  pub elsewhere : (t j : ℕ) → t < n → j < Z.cols → ((s : ℕ) → s < length q → slice_index q s ≢ t) → at X t j ≡ 0

-- Every entry from row r on is zero.
abbrev pub IsZeroFrom : ℕ → Matrix → Type 0
IsZeroFrom r Y = (i j : ℕ) → r ≤ i → i < Y.rows → j < Y.cols → at Y i j ≡ 0

-- Row s of B and of Z, an equation, is that of A and of Y times one number by which A's entry in row s and column c becomes 1.
pub record IsScaledEquation (c s : ℕ) (A Y B Z : Matrix) : Type 0 where
  pub factor : ℕ
  pub one : mul A.field (at A s c) factor ≡ 1
  pub left : (j : ℕ) → j < A.cols → at B s j ≡ mul A.field (at A s j) factor
  pub right : (j : ℕ) → j < Y.cols → at Z s j ≡ mul A.field (at Y s j) factor

-- The entry in row i and column s of the upper triangle of W's columns q: that of column q_s, and zero below the diagonal.
abbrev pub upper_entry : Matrix → List ℕ → ℕ → ℕ → ℕ
upper_entry W q i s = if nat_le i s then at W i (slice_index q s) else 0
