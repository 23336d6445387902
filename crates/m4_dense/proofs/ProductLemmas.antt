-- A product added to zeros.
use Rattle.std.proofs.Common.{◌≡◌, ℕ, ◌∙◌, refl, bit_xor}
use Rattle.std.specs.Int.Bits.{xor_zero_l}
use Rattle.m4_model.specs.Field.{mul, sum_below}
use Rattle.m4_model.specs.Matrix.{Matrix, at, zero_matrix, product, added}
use Rattle.m4_model.proofs.MatrixLemmas.{at-table, length-table, length-row-table, same_matrix}

-- it is the product
pub added-zeros : (A B : Matrix) → added (zero_matrix A.field A.rows B.cols) (product A B) ≡ product A B
added-zeros A B =
    let entry = λ (i j : ℕ). sum_below A.cols (λ t. mul A.field (at A i t) (at B t j)) in
    let sums = λ (i j : ℕ). bit_xor (at (zero_matrix A.field A.rows B.cols) i j) (at (product A B) i j) in
    same_matrix A.field A.rows B.cols entry (added (zero_matrix A.field A.rows B.cols) (product A B)) refl refl refl
    (length-table A.rows B.cols sums) (length-row-table A.rows B.cols sums)
    (λ i j below within.
    at-table A.rows B.cols sums i j below within
    ∙ (rw (at-table A.rows B.cols (λ r s. 0) i j below within, at-table A.rows B.cols entry i j below within)
    (xor_zero_l (entry i j))))
