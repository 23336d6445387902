-- The identity, made one by one along its diagonal.
use Rattle.std.proofs.Common.{eqb, ltb, ◌≡◌, ℕ, ◌+◌, ◌<◌, ◌≤◌, inl, inr, cond, refl, sym, ◌∙◌, ap, arith}
use Rattle.std.proofs.lemmas.Bool.{cases_eq, cases_lt, cond-true, cond-false, eq-eqb, ne_eqb, lt-ltb, le-ltb}
use Rattle.m4_model.specs.Field.{gf2}
use Rattle.m4_model.specs.Matrix.{Matrix, matrix_of, with_entry, identity, zero_matrix}
use Rattle.m4_model.proofs.MatrixLemmas.{same_matrix, length-table, length-row-table, at-table}
use Rattle.m4_mzd.proofs.RowLemmas.{with_entry-matrix_of}

-- 1 on the first k places of the diagonal, else 0
abbrev pub on_diagonal : ℕ → ℕ → ℕ → ℕ
on_diagonal k i j = cond (ltb i k) (cond (eqb i j) 1 0) 0

abbrev pub diagonal : ℕ → ℕ → Matrix
diagonal n k = matrix_of gf2 n n (on_diagonal k)

early : (k i j : ℕ) → i < k → on_diagonal k i j ≡ cond (eqb i j) 1 0
early k i j below = cond-true _ _ _ (lt-ltb i k below)

late : (k i j : ℕ) → k ≤ i → on_diagonal k i j ≡ 0
late k i j past = cond-false _ _ _ (le-ltb i k past)

pub diagonal_none : (n : ℕ) → zero_matrix gf2 n n ≡ diagonal n 0
diagonal_none n =
    let none : (i j : ℕ) → 0 ≡ on_diagonal 0 i j = λ i j. sym (late 0 i j (omega arith)) in
    λ k. matrix_of gf2 n n (λ i j. none i j k)

pub diagonal_more : (n k : ℕ) (now next : Matrix) → k < n → now ≡ diagonal n k → next ≡ with_entry now k k 1 → next ≡ diagonal n (k + 1)
diagonal_more n k now next below is written =
    written ∙ ap (λ A. with_entry A k k 1) is
    ∙ sym (with_entry-matrix_of gf2 n n (on_diagonal k) (on_diagonal (k + 1)) k k 1 below below
    (early (k + 1) k k (omega arith) ∙ cond-true _ _ _ (eq-eqb k k refl))
    (λ i j in_rows in_cols other. elim (cases_lt i k) [
      | inl before ↦ early (k + 1) i j (omega arith) ∙ sym (early k i j before)
      | inr after ↦ elim (cases_eq i k) [
        | inl here ↦
            early (k + 1) i j (omega arith) ∙ cond-false _ _ _ (ne_eqb i j (λ same. other here (sym same ∙ here))) ∙ sym (late k i j after)
        | inr past ↦ late (k + 1) i j (omega (arith, past)) ∙ sym (late k i j after)
      ]
    ]))

pub diagonal_all : (n : ℕ) → diagonal n n ≡ identity gf2 n
diagonal_all n =
    same_matrix gf2 n n (λ i j. cond (eqb i j) 1 0) (diagonal n n) refl refl refl (length-table n n (on_diagonal n))
    (length-row-table n n (on_diagonal n))
    (λ i j in_rows in_cols. at-table n n (on_diagonal n) i j in_rows in_cols ∙ early n i j in_rows)
