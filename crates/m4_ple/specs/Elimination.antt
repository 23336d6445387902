-- Elimination in place: what one matrix holds while its columns are gone through.
use Rattle.std.specs.Prelude.{◌≡◌, ℕ, ◌<◌, ◌≤◌, List, length, take, swap, slice_index, map, bit_xor, nat_lt, ◌==◌, ◌&&◌, if◌then◌else◌}
use Rattle.std.specs.List.{range_with_len}
use Rattle.m4_model.specs.Field.{Field, mul}
use Rattle.m4_model.specs.Matrix.{Matrix, HasShape, at, matrix_of}
use Rattle.m4_model.specs.Shapes.{swaps}
use Rattle.m4_model.proofs.EliminationLemmas.{IsPartial}
use Rattle.m4_perm.specs.Perm.{AreSwaps}

-- The m x m unit lower factor whose first r columns stand below W's diagonal.
abbrev pub lower_part : Field → ℕ → ℕ → Matrix → Matrix
lower_part F m r W = matrix_of F m m (λ i j. if i == j then 1 else if nat_lt j i && nat_lt j r then at W i j else 0)

-- The rest of W, which has m rows and n columns: what stands on and above its diagonal, and from column r on.
abbrev pub upper_part : Field → ℕ → ℕ → ℕ → Matrix → Matrix
upper_part F m n r W = matrix_of F m n (λ i j. if nat_lt j i && nat_lt j r then 0 else at W i j)

-- The first c columns of A are eliminated in W, with r pivots: the first r numbers of q. The exchanges of rows are p.
pub record IsEliminated (A : Matrix) (p q : List ℕ) (r c : ℕ) (W : Matrix) : Type 0 where
  pub shape : HasShape A.field A.rows A.cols W
  pub partial : IsPartial A (swaps A.rows p) (take r q) r c (lower_part A.field A.rows r W) (upper_part A.field A.rows A.cols r W)
  pub exchanges : AreSwaps A.rows p
  pub all : length p ≡ A.rows
  pub stay : (i : ℕ) → r ≤ i → i < A.rows → slice_index p i ≡ i

-- The factor of row r that clears row i in column c, where the pivot of row r has this inverse.
abbrev pub factor_of : ℕ → ℕ → Matrix → ℕ → ℕ
factor_of inverse c W i = mul W.field (at W i c) inverse

-- Entry j of row i once that multiple of row r is added to it which clears it in column c, from the next column on: the
-- factor then stands in column r. A row that has a zero there stays.
abbrev pub cleared_entry : ℕ → ℕ → ℕ → Matrix → ℕ → ℕ → ℕ
cleared_entry inverse r c W i j =
    if at W i c == 0 then at W i j
    else if j == r then factor_of inverse c W i
    else if j == c then 0
    else if nat_lt j c then at W i j
    else bit_xor (at W i j) (mul W.field (at W r j) (factor_of inverse c W i))

-- Row i so.
abbrev pub cleared_row : ℕ → ℕ → ℕ → Matrix → ℕ → List ℕ
cleared_row inverse r c W i = map (cleared_entry inverse r c W i) (range_with_len 0 W.cols)

-- The rows below row r and above row k so.
abbrev pub cleared : ℕ → ℕ → ℕ → ℕ → Matrix → Matrix
cleared inverse r c k W =
    matrix_of W.field W.rows W.cols (λ i j. if nat_lt r i && nat_lt i k then cleared_entry inverse r c W i j else at W i j)

-- W with rows r and s exchanged.
abbrev pub with_swapped : Matrix → ℕ → ℕ → Matrix
with_swapped W r s = record W { entries = swap W.entries r s }
