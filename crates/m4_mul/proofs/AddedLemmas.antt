-- A matrix to whose rows something is added, one row after another.
use Rattle.std.proofs.Common.{◌≡◌, ℕ, ◌+◌, ◌<◌, ◌≤◌, inl, inr, cond, ltb, List, length, get_or, refl, sym, ◌∙◌, arith, bit_xor}
use Rattle.std.proofs.lemmas.Bool.{cases_lt, lt-ltb, le-ltb, cond-true, cond-false}
use Rattle.m4_model.specs.Matrix.{Matrix, IsMatrix, row, at, matrix_of, with_row}
use Rattle.m4_model.proofs.MatrixLemmas.{length-table, length-row-table, at-table, same_matrix}
use Rattle.m4_mzd.proofs.RowLemmas.{with_row-matrix_of}

-- C with h added to each of its first i rows
abbrev pub entry_added : Matrix → (ℕ → ℕ → ℕ) → ℕ → ℕ → ℕ → ℕ
entry_added C h i r j = cond (ltb r i) (bit_xor (at C r j) (h r j)) (at C r j)

abbrev pub added_rows : Matrix → (ℕ → ℕ → ℕ) → ℕ → Matrix
added_rows C h i = matrix_of C.field C.rows C.cols (entry_added C h i)

-- no row is added
pub added_rows-none : (C : Matrix) (h : ℕ → ℕ → ℕ) → IsMatrix C → C ≡ added_rows C h 0
added_rows-none C h matrix =
    same_matrix C.field C.rows C.cols (entry_added C h 0) C refl refl refl matrix.height matrix.width
    (λ r j below within. sym (cond-false (ltb r 0) (bit_xor (at C r j) (h r j)) (at C r j) (le-ltb r 0 (omega arith))))

-- the row that comes next is as it was
pub length-added_row : (C : Matrix) (h : ℕ → ℕ → ℕ) (i : ℕ) → i < C.rows → length (row (added_rows C h i) i) ≡ C.cols
length-added_row C h i in_rows = length-row-table C.rows C.cols (entry_added C h i) i in_rows

pub at-added_row : (C : Matrix) (h : ℕ → ℕ → ℕ) (i j : ℕ) → i < C.rows → j < C.cols → at (added_rows C h i) i j ≡ at C i j
at-added_row C h i j in_rows within =
    at-table C.rows C.cols (entry_added C h i) i j in_rows within
    ∙ cond-false (ltb i i) (bit_xor (at C i j) (h i j)) (at C i j) (le-ltb i i (omega arith))

-- one row more is added
pub added_rows-more : (C : Matrix) (h : ℕ → ℕ → ℕ) (i : ℕ) (entries : List ℕ) → i < C.rows → length entries ≡ C.cols
    → ((j : ℕ) → j < C.cols → get_or entries j 0 ≡ bit_xor (at C i j) (h i j)) → with_row (added_rows C h i) i entries ≡ added_rows C h (i + 1)
added_rows-more C h i entries in_rows long sums =
    sym (with_row-matrix_of C.field C.rows C.cols (entry_added C h i) (entry_added C h (i + 1)) i entries in_rows long
    (λ j within. sums j within ∙ sym (cond-true (ltb i (i + 1)) (bit_xor (at C i j) (h i j)) (at C i j) (lt-ltb i (i + 1) (omega arith))))
    (λ r j below within away. elim (cases_lt r i) [
      | inl early ↦ rw (lt-ltb r i early, lt-ltb r (i + 1) (omega arith)) refl
      | inr late ↦ rw (le-ltb r i late, le-ltb r (i + 1) (omega (arith, away))) refl
    ]))

-- every row is added
pub added_rows-all : (C : Matrix) (h : ℕ → ℕ → ℕ) (i : ℕ) → C.rows ≤ i
    → added_rows C h i ≡ matrix_of C.field C.rows C.cols (λ r j. bit_xor (at C r j) (h r j))
added_rows-all C h i end =
    same_matrix C.field C.rows C.cols (λ r j. bit_xor (at C r j) (h r j)) (added_rows C h i) refl refl refl
    (length-table C.rows C.cols (entry_added C h i)) (length-row-table C.rows C.cols (entry_added C h i))
    (λ r j below within.
    at-table C.rows C.cols (entry_added C h i) r j below within
    ∙ cond-true (ltb r i) (bit_xor (at C r j) (h r j)) (at C r j) (lt-ltb r i (omega arith)))
