-- Certificates of a rank, of a singular matrix, and of equations without a solution.
use Rattle.std.specs.Prelude.{◌≡◌, ◌≢◌, ℕ, ◌<◌, List, length}
use Rattle.m4_model.specs.Matrix.{Matrix, at, product, zero_matrix}
use Rattle.m4_model.specs.Shapes.{transposed}
use Rattle.m4_outcome.specs.Outcome.{IsPleText}

-- Some entry of the matrix isn't zero.
abbrev pub HasNonzero : Matrix → Type 0
HasNonzero M = (i : ℕ) × (j : ℕ) × (i < M.rows) × (j < M.cols) × (at M i j ≢ 0)

-- The bytes are the text of a PLE of A of this rank.
pub record CertRank (A : Matrix) (bytes : List ℕ) (r : ℕ) : Type 0 where
  pub ple : IsPleText A bytes
  pub rank : length ple.q ≡ r

-- A is square, and takes every row of K to zero, of which some entry isn't zero.
pub record CertSingular (A K : Matrix) : Type 0 where
  pub square : A.cols ≡ A.rows
  pub same_field : K.field ≡ A.field
  pub same_cols : K.cols ≡ A.cols
  pub nonzero : HasNonzero K
  pub killed : product A (transposed K) ≡ zero_matrix A.field A.rows K.rows

-- The rows of W combine the rows of A to zero, and those of B not all.
pub record CertNone (A B W : Matrix) : Type 0 where
  pub field_of_b : B.field ≡ A.field
  pub field_of_w : W.field ≡ A.field
  pub rows_of_a : A.rows ≡ W.cols
  pub rows_of_b : B.rows ≡ W.cols
  pub killed : product W A ≡ zero_matrix A.field W.rows A.cols
  pub nonzero : HasNonzero (product W B)
