-- A window that becomes columns of the identity, one entry after another.
use Rattle.std.proofs.Common.{◌≡◌, ◌≢◌, ℕ, ◌+◌, ◌<◌, ◌≤◌, inl, inr, refl, sym, ◌∙◌, ap, subst, arith, [], length, get_or, set}
use Rattle.std.proofs.lemmas.Bool.{cases_lt, cases_eq}
use Rattle.std.proofs.lemmas.List.{length-set, get_or-set_same, get_or-set_other}
use Rattle.m4_model.specs.Field.{Field}
use Rattle.m4_model.specs.Matrix.{Matrix, row, at, with_entry, zero_matrix}
use Rattle.m4_model.proofs.MatrixLemmas.{length-table, length-row-table}
use Rattle.m4_model.proofs.ProductLemmas.{unit_at, unit_at-same, unit_at-other}
use Rattle.m4_model.proofs.ShapeLemmas.{at-zero_matrix}
use Rattle.m4_solve.proofs.KernelRows.{at-written, at-written_beside, at-written_away}

-- The first k columns of K are those of the identity, and the others are zero.
pub record AreUnitsTo (m n k : ℕ) (K : Matrix) : Type 0 where
  pub height : length K.entries ≡ m
  pub width : (i : ℕ) → i < m → length (row K i) ≡ n
  pub units : (i j : ℕ) → i < m → j < n → j < k → at K i j ≡ unit_at i j
  pub zeros : (i j : ℕ) → i < m → j < n → k ≤ j → at K i j ≡ 0

pub units_none : (F : Field) (m n : ℕ) → AreUnitsTo m n 0 (zero_matrix F m n)
units_none F m n = record {
  height = length-table m n (λ i j. 0);
  width = length-row-table m n (λ i j. 0);
  units = λ i j below within none. absurd (omega (arith, none));
  zeros = λ i j below within from. at-zero_matrix F m n i j below within;
}

-- one more
pub units_more : (m n k : ℕ) (K : Matrix) → k < m → k < n → AreUnitsTo m n k K → AreUnitsTo m n (k + 1) (with_entry K k k 1)
units_more m n k K in_rows in_cols old =
    let height = old.height in
    let wide = old.width k in_rows in
    let here : k < length K.entries = omega (arith, height, in_rows) in
    let inside : k < length (row K k) = omega (arith, wide, in_cols) in
    -- the other entries
    let same : (i j : ℕ) → i < m → j < n → (i ≡ k → j ≢ k) → at (with_entry K k k 1) i j ≡ at K i j
    = λ i j below within other. elim (cases_eq i k) [
      | inl row ↦ subst (λ (i : ℕ). at (with_entry K k k 1) i j ≡ at K i j) (sym row) (at-written_beside K k k 1 j here (other row))
      | inr away ↦ at-written_away K k k 1 i j away
    ] in
    record {
      height = length-set K.entries k (set (row K k) k 1) ∙ height;
      width = λ i below. elim (cases_eq i k) [
        | inl row ↦
            subst (λ (i : ℕ). length (get_or (with_entry K k k 1).entries i []) ≡ n) (sym row)
            (ap length (get_or-set_same K.entries k (set (get_or K.entries k []) k 1) [] here) ∙ length-set (get_or K.entries k []) k 1 ∙ wide)
        | inr away ↦ ap length (get_or-set_other K.entries k i (set (row K k) k 1) [] away) ∙ old.width i below
      ];
      units = λ i j below within before. elim (cases_lt j k) [
        | inl earlier ↦ same i j below within (λ _ last. absurd (omega (arith, last, earlier))) ∙ old.units i j below within earlier
        | inr last ↦
            let column : k ≡ j = omega (arith, before, last) in
            subst (λ (j : ℕ). at (with_entry K k k 1) i j ≡ unit_at i j) column
            (elim (cases_eq i k) [
              | inl row ↦ subst (λ (i : ℕ). at (with_entry K k k 1) i k ≡ unit_at i k) (sym row) (at-written K k k 1 here inside ∙ sym (unit_at-same k k refl))
              | inr away ↦ same i k below in_cols (λ row. absurd (away row)) ∙ old.zeros i k below in_cols (omega arith) ∙ sym (unit_at-other i k away)
            ])
      ];
      zeros = λ i j below within from. same i j below within (λ _ last. absurd (omega (arith, last, from))) ∙ old.zeros i j below within (omega (arith, from));
    }
