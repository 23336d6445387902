-- Factors of a matrix: PLE, PLUQ, and how each is stored in place of the matrix.
use Rattle.std.specs.Prelude.{◌≡◌, ◌≢◌, ℕ, ◌<◌, ◌≤◌, ◌⊎◌, List, length, slice_index, nat_lt, nat_le, ◌&&◌, if◌then◌else◌}
use Rattle.m4_model.specs.Matrix.{Matrix, HasShape, matrix_of, at, product}
use Rattle.m4_model.specs.Shapes.{swaps}
use Rattle.m4_model.specs.Rank.{ArePivots}
use Rattle.m4_model.specs.Forms.{Echelon}

-- p is a permutation of the numbers below n: n of them, and each number below n among them.
pub record IsOrder (n : ℕ) (p : List ℕ) : Type 0 where
  pub count : length p ≡ n
  pub below : (i : ℕ) → i < n → slice_index p i < n
  pub onto : (j : ℕ) → j < n → (i : ℕ) × (i < n) × (slice_index p i ≡ j)

-- L has ones on its diagonal and zeros above it. From column r on it has zeros below it too, as the identity.
pub record IsUnitLower (r : ℕ) (L : Matrix) : Type 0 where
  pub diagonal : (i : ℕ) → i < L.rows → at L i i ≡ 1
  pub above : (i j : ℕ) → i < j → j < L.cols → at L i j ≡ 0
  pub rest : (i j : ℕ) → r ≤ j → j < i → i < L.rows → at L i j ≡ 0

-- Row p_i of A is row i of L E, where E is in echelon form with its r pivots in the list q.
pub record IsPle (A : Matrix) (p q : List ℕ) (r : ℕ) (L E : Matrix) : Type 0 where
  pub order : IsOrder A.rows p
  pub rank : length q ≡ r
  pub l_shape : HasShape A.field A.rows A.rows L
  pub l_form : IsUnitLower r L
  pub e_shape : HasShape A.field A.rows A.cols E
  pub e_form : Echelon E q
  pub rows : (i j : ℕ) → i < A.rows → j < A.cols → at A (slice_index p i) j ≡ at (product L E) i j

-- U is nonzero at its first r places of the diagonal, and zero below the diagonal and from row r on.
pub record IsUpper (r : ℕ) (U : Matrix) : Type 0 where
  pub diagonal : (i : ℕ) → i < r → at U i i ≢ 0
  pub zeros : (i j : ℕ) → i < U.rows → j < U.cols → (j < i) ⊎ (r ≤ i) → at U i j ≡ 0

-- A's entry in row p_i and column c_j is the entry (i, j) of L U, where c is the order of the columns after the
-- exchange of column i and the i-th pivot for each i in turn.
pub record IsPluq (A : Matrix) (p c : List ℕ) (r : ℕ) (L U : Matrix) : Type 0 where
  pub order : IsOrder A.rows p
  pub pivots : List ℕ
  pub are_pivots : ArePivots A pivots
  pub rank : length pivots ≡ r
  pub columns : c ≡ swaps A.cols pivots
  pub l_shape : HasShape A.field A.rows A.rows L
  pub l_form : IsUnitLower r L
  pub u_shape : HasShape A.field A.rows A.cols U
  pub u_form : IsUpper r U
  pub entries : (i j : ℕ) → i < A.rows → j < A.cols → at A (slice_index p i) (slice_index c j) ≡ at (product L U) i j

-- The table of L and E in the place of one matrix: L below its diagonal in the first r columns, and row i of E from
-- its pivot q_i on, for i below r.
abbrev pub stored : List ℕ → Matrix → Matrix → Matrix
stored q L E = matrix_of E.field E.rows E.cols (λ i j.
    if nat_lt j i && nat_lt j (length q) then at L i j
    else if nat_lt i (length q) && nat_le (slice_index q i) j then at E i j else 0)

-- W stores L and E: it is their table, and what the table leaves out is as told by the form of L and zero in E.
pub record Stored (W : Matrix) (q : List ℕ) (L E : Matrix) : Type 0 where
  pub table : W ≡ stored q L E
  pub l_form : IsUnitLower (length q) L
  pub e_zeros : (i j : ℕ) → i < E.rows → j < E.cols → (length q ≤ i) ⊎ (j < slice_index q i) → at E i j ≡ 0

-- The table of L and U in the place of one matrix: L below its diagonal in the first r columns, and U from the
-- diagonal on in the first r rows.
abbrev pub stored_pluq : ℕ → Matrix → Matrix → Matrix
stored_pluq r L U = matrix_of U.field U.rows U.cols (λ i j.
    if nat_lt j i && nat_lt j r then at L i j else if nat_lt i r && nat_le i j then at U i j else 0)

-- W stores L and U in the same way.
pub record StoredPluq (W : Matrix) (r : ℕ) (L U : Matrix) : Type 0 where
  pub table : W ≡ stored_pluq r L U
  pub l_form : IsUnitLower r L
  pub u_zeros : (i j : ℕ) → i < U.rows → j < U.cols → (j < i) ⊎ (r ≤ i) → at U i j ≡ 0
