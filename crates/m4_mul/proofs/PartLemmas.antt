-- A product that is added part by part.
use Rattle.std.proofs.Common.{◌≡◌, ℕ, ◌+◌, refl, sym, ◌∙◌, ap, arith, bit_xor}
use Rattle.std.specs.Int.Bits.{xor_assoc, xor_zero_r}
use Rattle.m4_model.specs.Field.{gf2, sum_below, mul}
use Rattle.m4_model.specs.Matrix.{Matrix, IsMatrix, at, added, product}
use Rattle.m4_model.proofs.SumLemmas.{sum_below-split}
use Rattle.m4_model.proofs.MatrixLemmas.{length-table, length-row-table, at-table, same_matrix}
use Rattle.m4_mul.specs.Parts.{part_of_entry, with_part}

-- the entries with a part added
abbrev with_entry : Matrix → Matrix → Matrix → ℕ → ℕ → ℕ → ℕ → ℕ
with_entry C A B first width i j = bit_xor (at C i j) (part_of_entry A B first width i j)

-- no column adds nothing
pub with_part-none : (C A B : Matrix) (first : ℕ) → C.field ≡ gf2 → IsMatrix C → C ≡ with_part C A B first 0
unfolding sum_below
with_part-none C A B first field matrix =
    same_matrix gf2 C.rows C.cols (with_entry C A B first 0) C field refl refl matrix.height matrix.width
    (λ i j below within. sym (xor_zero_r (at C i j)))

-- two parts that follow each other
pub with_part-more : (C A B : Matrix) (first width : ℕ) → with_part (with_part C A B 0 first) A B first width ≡ with_part C A B 0 (first + width)
with_part-more C A B first width =
    let once = with_part C A B 0 first in
    same_matrix gf2 C.rows C.cols (with_entry C A B 0 (first + width)) (with_part once A B first width) refl refl refl
    (length-table C.rows C.cols (with_entry once A B first width)) (length-row-table C.rows C.cols (with_entry once A B first width))
    (λ i j below within.
    let g = λ (t : ℕ). mul A.field (at A i (0 + t)) (at B (0 + t) j) in
    let place : (t : ℕ) → first + t ≡ 0 + (first + t) = λ t. omega arith in
    at-table C.rows C.cols (with_entry once A B first width) i j below within
    ∙ ap (λ x. bit_xor x (part_of_entry A B first width i j)) (at-table C.rows C.cols (with_entry C A B 0 first) i j below within)
    ∙ xor_assoc (at C i j) (sum_below first g) (part_of_entry A B first width i j)
    ∙ (λ n. bit_xor (at C i j) (bit_xor (sum_below first g) (sum_below width (λ t. mul A.field (at A i (place t n)) (at B (place t n) j)))))
    ∙ ap (bit_xor (at C i j)) (sym (sum_below-split first width g)))

-- all columns make the product
pub with_part-all : (C A B : Matrix) (end : ℕ) → C.field ≡ gf2 → A.rows ≡ C.rows → B.cols ≡ C.cols → end ≡ A.cols
    → with_part C A B 0 end ≡ added C (product A B)
with_part-all C A B end field rows cols all =
    let terms = λ (i j : ℕ). sum_below A.cols (λ t. mul A.field (at A i t) (at B t j)) in
    let place : (t : ℕ) → 0 + t ≡ t = λ t. omega arith in
    same_matrix C.field C.rows C.cols (λ i j. bit_xor (at C i j) (at (product A B) i j)) (with_part C A B 0 end) (sym field) refl refl
    (length-table C.rows C.cols (with_entry C A B 0 end)) (length-row-table C.rows C.cols (with_entry C A B 0 end))
    (λ i j below within.
    at-table C.rows C.cols (with_entry C A B 0 end) i j below within
    ∙ ap (bit_xor (at C i j))
    ((λ n. sum_below (all n) (λ t. mul A.field (at A i (place t n)) (at B (place t n) j)))
    ∙ sym (at-table A.rows B.cols terms i j (omega (arith, below, rows)) (omega (arith, within, cols)))))
