-- The right columns of a matrix whose left columns were factored.
use Rattle.std.specs.Prelude.{◌≡◌, ℕ, ◌+◌, ◌-◌, nat_lt, ◌&&◌, if◌then◌else◌, List, replicate}
use Rattle.m4_model.specs.Matrix.{Matrix, at, matrix_of, added, product}
use Rattle.m4_model.specs.Shapes.{above, cut}
use Rattle.m4_model.specs.Step.{reordered}
use Rattle.m4_mzd.specs.Parts.{part, with_part}
use Rattle.m4_trsm.specs.Triangles.{unit_lower}

-- V is the right columns B, with their rows in the order of the left ones, brought up to these, whose first r columns hold L:
-- the first r rows of V are the X with L's triangle times X the first rows of B, and the others are those of B with L's lower
-- rows times X added.
pub record IsBroughtUp (r : ℕ) (W B V : Matrix) : Type 0 where
  pub solved : product (unit_lower (cut W 0 0 r r)) (cut V 0 0 r V.cols) ≡ cut B 0 0 r B.cols
  pub rest : cut V r 0 V.rows V.cols ≡ added (cut B r 0 B.rows B.cols) (product (cut W r 0 W.rows r) (cut V 0 0 r V.cols))

-- Row i of M from row r on, of which L's entries of the lower right stand from column `left` on: they stand from column r on,
-- at most s of them, and where one stood and none stands there is a zero. The rows before row r are as they were.
abbrev pub moved_entry : ℕ → ℕ → ℕ → Matrix → ℕ → ℕ → ℕ
moved_entry r left s M i j =
    if nat_lt i r then at M i j
    else if nat_lt j r then at M i j
    else if nat_lt j i && nat_lt j (r + s) then at M i (left + (j - r))
    else if nat_lt (j + r) (left + i) && nat_lt j (left + s) then 0
    else at M i j

-- M with these entries.
abbrev pub lower_moved : ℕ → ℕ → ℕ → Matrix → Matrix
lower_moved r left s M = matrix_of M.field M.rows M.cols (moved_entry r left s M)

-- A row of which `count` entries are moved from column `left` on to column r on, and where they stood and none stands there
-- are zeros.
abbrev pub moved_row : ℕ → ℕ → ℕ → List ℕ → List ℕ
moved_row r left count entries = with_part (r + count) (replicate (left - r) 0) (with_part r (part left count entries) entries)

-- The left columns, once the right ones are factored: their rows from row r on are in the order s.
abbrev pub lower_exchanged : ℕ → List ℕ → Matrix → Matrix
lower_exchanged r s W = above (cut W 0 0 r W.cols) (reordered s (cut W r 0 W.rows W.cols))
