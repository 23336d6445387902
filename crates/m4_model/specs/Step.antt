-- The step of a PLE by halves: what the PLE of the left columns, a solve, and the PLE of what remains make together.
use Rattle.std.specs.Prelude.{ℕ, ◌+◌, ◌-◌, List, ◌++◌, map, take, slice_index}
use Rattle.m4_model.specs.Matrix.{Matrix, matrix_of, at, zero_matrix, added, product}
use Rattle.m4_model.specs.Shapes.{above, beside, cut}

-- The rows of A in the order p: row i is row p_i of A.
abbrev pub reordered : List ℕ → Matrix → Matrix
reordered p A = matrix_of A.field A.rows A.cols (λ i j. at A (slice_index p i) j)

-- The first r rows of the first r columns of L, and the other rows of these columns.
abbrev pub upper_triangle : ℕ → Matrix → Matrix
upper_triangle r L = cut L 0 0 r r

abbrev pub lower_rows : ℕ → Matrix → Matrix
lower_rows r L = cut L r 0 L.rows r

-- What remains of the right columns B: its rows from r on, and the lower rows of L times X added to them.
abbrev pub remaining : ℕ → Matrix → Matrix → Matrix → Matrix
remaining r L B X = added (cut B r 0 B.rows B.cols) (product (lower_rows r L) X)

-- The first r entries of p, followed by the entries of p at r + s_i.
abbrev pub step_order : ℕ → List ℕ → List ℕ → List ℕ
step_order r p s = take r p ++ map (λ i. slice_index p (r + i)) s

-- The pivots of the left columns, followed by those of the right, raised by the number of the left columns.
abbrev pub step_pivots : ℕ → List ℕ → List ℕ → List ℕ
step_pivots left q s = q ++ map (λ j. j + left) s

-- L's triangle beside zeros, over its lower rows in the order s beside M.
abbrev pub step_lower : ℕ → Matrix → List ℕ → Matrix → Matrix
step_lower r L s M =
    above (beside (upper_triangle r L) (zero_matrix L.field r (L.rows - r))) (beside (reordered s (lower_rows r L)) M)

-- The first r rows of E beside X, over zeros beside D.
abbrev pub step_echelon : ℕ → Matrix → Matrix → Matrix → Matrix
step_echelon r E X D = above (beside (cut E 0 0 r E.cols) X) (beside (zero_matrix E.field (E.rows - r) E.cols) D)
