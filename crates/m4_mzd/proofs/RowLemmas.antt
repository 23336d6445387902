-- Matrices with one row or one entry written, and sums of rows.
use Rattle.std.proofs.Common.{◌≡◌, ◌≢◌, ℕ, ◌+◌, ◌-◌, ◌<◌, ◌≤◌, inl, inr, List, [], length, get_or, set, take, drop, bit_xor, length-append, length-take, length-drop, get_or-take, get_or-drop, refl, sym, ◌∙◌, ap, ap₂, arith}
use Rattle.std.proofs.lemmas.List.{length-set, get_or-set_same, get_or-set_other, get_or_append_left, get_or-append_right}
use Rattle.std.proofs.lemmas.Bool.{cases_eq}
use Rattle.m4_model.specs.Field.{Field}
use Rattle.m4_model.specs.Matrix.{table, matrix_of, row_sum, with_row, with_entry}
use Rattle.m4_model.proofs.MatrixLemmas.{length-table, length-row-table, at-table, same_matrix}
pub use Rattle.m4_bits.proofs.BitsLemmas.{length-row_sum, get_or-row_sum}
use Rattle.m4_mzd.specs.Rows.{sum_from}

-- a matrix with one row written is the matrix of the new entries
pub with_row-matrix_of : (F : Field) (m n : ℕ) (g h : ℕ → ℕ → ℕ) (r : ℕ) (entries : List ℕ) → r < m → length entries ≡ n
    → ((j : ℕ) → j < n → get_or entries j 0 ≡ h r j)
    → ((i j : ℕ) → i < m → j < n → i ≢ r → h i j ≡ g i j)
    → matrix_of F m n h ≡ with_row (matrix_of F m n g) r entries
with_row-matrix_of F m n g h r entries in_rows long written kept =
    let high : r < length (table m n g) = rw (length-table m n g) in_rows in
    sym (same_matrix F m n h (with_row (matrix_of F m n g) r entries) refl refl refl
    (length-set (table m n g) r entries ∙ length-table m n g)
    (λ i below. elim (cases_eq i r) [
      | inl here ↦ rw here (rw (get_or-set_same (table m n g) r entries [] high) long)
      | inr away ↦ rw (get_or-set_other (table m n g) r i entries [] away) (length-row-table m n g i below)
    ])
    (λ i j below within. elim (cases_eq i r) [
      | inl here ↦ rw here (rw (get_or-set_same (table m n g) r entries [] high) (written j within))
      | inr away ↦
          rw (get_or-set_other (table m n g) r i entries [] away)
          (at-table m n g i j below within ∙ sym (kept i j below within away))
    ]))

-- a matrix with one entry written is the matrix of the new entries
pub with_entry-matrix_of : (F : Field) (m n : ℕ) (g h : ℕ → ℕ → ℕ) (r c v : ℕ) → r < m → c < n → h r c ≡ v
    → ((i j : ℕ) → i < m → j < n → (i ≡ r → j ≡ c → ⊥) → h i j ≡ g i j)
    → matrix_of F m n h ≡ with_entry (matrix_of F m n g) r c v
with_entry-matrix_of F m n g h r c v in_rows in_cols changed kept =
    let old = get_or (table m n g) r [] in
    let wide : c < length old = rw (length-row-table m n g r in_rows) in_cols in
    with_row-matrix_of F m n g h r (set old c v) in_rows (length-set old c v ∙ length-row-table m n g r in_rows)
    (λ j within. elim (cases_eq j c) [
      | inl here ↦ rw here (get_or-set_same old c v 0 wide ∙ sym changed)
      | inr away ↦
          get_or-set_other old c j v 0 away
          ∙ (at-table m n g r j in_rows within ∙ sym (kept r j in_rows within (λ _ is. away is)))
    ])
    (λ i j below within away. kept i j below within (λ is _. away is))

-- a sum from a column on is as long as its first row
pub length-sum_from : (c : ℕ) (xs ys : List ℕ) → length (sum_from c xs ys) ≡ length xs
length-sum_from c xs ys =
    let first = length-take c xs in
    let rest = length-drop c xs in
    length-append (take c xs) (row_sum (drop c xs) (drop c ys)) ∙ (let tail = length-row_sum (drop c xs) (drop c ys) in omega (arith, first, rest, tail))

-- before the column nothing changes
pub sum_from-before : (c j : ℕ) (xs ys : List ℕ) → c ≤ length xs → j < c → get_or (sum_from c xs ys) j 0 ≡ get_or xs j 0
sum_from-before c j xs ys within before =
    let first = length-take c xs in
    get_or_append_left (take c xs) (row_sum (drop c xs) (drop c ys)) 0 j (omega (arith, first, within, before)) ∙ get_or-take c xs j 0 before

-- from it on the entries are added
pub sum_from-after : (c j : ℕ) (xs ys : List ℕ) → length ys ≡ length xs → c ≤ length xs → c ≤ j
    → get_or (sum_from c xs ys) j 0 ≡ bit_xor (get_or xs j 0) (get_or ys j 0)
sum_from-after c j xs ys same within past =
    let first = length-take c xs in
    let rest = length-drop c xs in
    let other = length-drop c ys in
    let place : c + (j - c) ≡ j = omega (arith, past) in
    get_or-append_right (take c xs) (row_sum (drop c xs) (drop c ys)) c j 0 (omega (arith, first, within)) past
    ∙ get_or-row_sum (drop c xs) (drop c ys) (j - c) (omega (arith, rest, other, same))
    ∙ ap₂ bit_xor (get_or-drop c xs (j - c) 0 ∙ ap (λ (j : ℕ). get_or xs j 0) place) (get_or-drop c ys (j - c) 0 ∙ ap (λ (j : ℕ). get_or ys j 0) place)
