-- What can be asked about one matrix: its reduced form, its inverse, solutions and its kernel.
use Rattle.std.specs.Prelude.{◌≡◌, ◌≢◌, ℕ, ◌<◌, ◌≤◌, List, length, slice_index, Contains, ◌==◌, if◌then◌else◌}
use Rattle.m4_model.specs.Matrix.{Matrix, HasShape, at, zero_matrix, identity, product}
use Rattle.m4_model.specs.Shapes.{transposed}
use Rattle.m4_model.specs.Rank.{IsRising, IsFree}

-- Row i of R is nonzero at column q_i and zero before it, for a rising list q. The rows from its length on are zero.
pub record Echelon (R : Matrix) (q : List ℕ) : Type 0 where
  pub rising : IsRising q
  pub columns : (i : ℕ) → i < length q → slice_index q i < R.cols
  pub within : length q ≤ R.rows
  pub nonzero : (i : ℕ) → i < length q → at R i (slice_index q i) ≢ 0
  pub before : (i j : ℕ) → i < length q → j < slice_index q i → at R i j ≡ 0
  pub below : (i j : ℕ) → length q ≤ i → i < R.rows → j < R.cols → at R i j ≡ 0

-- Besides, column q_i is 1 in row i and 0 in every other row.
pub record Reduced (R : Matrix) (q : List ℕ) : Type 0 where
  pub echelon : Echelon R q
  pub units : (i k : ℕ) → i < R.rows → k < length q → at R i (slice_index q k) ≡ (if i == k then 1 else 0)

-- R is the reduced form of A: reduced, and each is made from the other by a square factor on its left.
pub record IsReduced (R A : Matrix) : Type 0 where
  pub shape : HasShape A.field A.rows A.cols R
  pub pivots : List ℕ
  pub reduced : Reduced R pivots
  pub to : Matrix
  pub to_shape : HasShape A.field A.rows A.rows to
  pub made : R ≡ product to A
  pub back : Matrix
  pub back_shape : HasShape A.field A.rows A.rows back
  pub unmade : A ≡ product back R

-- X is the inverse of A, on both sides.
pub record IsInverse (X A : Matrix) : Type 0 where
  pub square : A.cols ≡ A.rows
  pub shape : HasShape A.field A.rows A.rows X
  pub right : product A X ≡ identity A.field A.rows
  pub left : product X A ≡ identity A.field A.rows

-- A is square, and takes some column v that isn't zero to zero.
pub record Singular (A : Matrix) : Type 0 where
  pub square : A.cols ≡ A.rows
  pub v : Matrix
  pub shape : HasShape A.field A.rows 1 v
  pub nonzero : v ≢ zero_matrix A.field A.rows 1
  pub killed : product A v ≡ zero_matrix A.field A.rows 1

-- X solves A X = B, and its rows at the free columns of A are zero.
pub record IsSolution (X A B : Matrix) : Type 0 where
  pub shape : HasShape A.field A.cols B.cols X
  pub solves : product A X ≡ B
  pub zeros : (j k : ℕ) → j < A.cols → IsFree A j → k < B.cols → at X j k ≡ 0

-- No X solves A X = B.
abbrev pub NoSolution : Matrix → Matrix → Type 0
NoSolution A B = (X : Matrix) → HasShape A.field A.cols B.cols X → product A X ≡ B → ⊥

-- g is the rising list of the free columns of A.
pub record AreFree (A : Matrix) (g : List ℕ) : Type 0 where
  pub rising : IsRising g
  pub columns : (k : ℕ) → k < length g → slice_index g k < A.cols
  pub free : (k : ℕ) → k < length g → IsFree A (slice_index g k)
  pub others : (j : ℕ) → j < A.cols → (Contains g j → ⊥) → IsFree A j → ⊥

-- The rows of K are the basis of A's kernel: A takes each to zero, and of the free columns row i is 1 at the i-th and
-- 0 at the others.
pub record IsKernel (K A : Matrix) : Type 0 where
  pub free : List ℕ
  pub are_free : AreFree A free
  pub shape : HasShape A.field (length free) A.cols K
  pub killed : product A (transposed K) ≡ zero_matrix A.field A.rows (length free)
  pub units : (i t : ℕ) → i < length free → t < length free → at K i (slice_index free t) ≡ (if i == t then 1 else 0)
