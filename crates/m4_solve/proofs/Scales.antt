-- A row of an echelon form is multiplied by an element that isn't zero: the form and the row space stay.
use Rattle.std.proofs.Common.{◌≡◌, ◌≢◌, ℕ, ◌+◌, ◌<◌, ◌≤◌, ⊎_elim, sym, ◌∙◌, ap, ap₂, subst, arith, cond, ◌==◌, List, length, slice_index}
use Rattle.std.proofs.lemmas.Bool.{cases_lt, cases_eq, eq-eqb, ne_eqb}
use Rattle.m4_model.specs.Field.{Field, IsElement, mul}
use Rattle.m4_model.specs.Matrix.{Matrix, IsMatrix, HasShape, row, at, with_row}
use Rattle.m4_model.specs.Forms.{Echelon}
use Rattle.m4_model.proofs.FieldLaws.{FieldLaws}
use Rattle.m4_model.proofs.ShapeLemmas.{HasShape-own}
use Rattle.m4_model.proofs.EquivalenceLemmas.{RowEquivalent, RowEquivalent-refl, RowEquivalent-trans, equivalent_from_scaled}
use Rattle.m4_mzed.specs.Rows.{multiples}
use Rattle.m4_trsm.proofs.Triangles.{one_element}
use Rattle.m4_solve.specs.Scaled.{IsScaled}
use Rattle.m4_solve.proofs.ScaledEquations.{scaled_entry, other_entry}

-- x at the number i, and 1 elsewhere
factor_at : ℕ → ℕ → ℕ → ℕ
factor_at i x k = cond (k == i) x 1

factor-own : (i x k : ℕ) → k ≡ i → factor_at i x k ≡ x
unfolding factor_at
factor-own i x k same = ap (λ b. cond b x 1) (eq-eqb k i same)

factor-other : (i x k : ℕ) → k ≢ i → factor_at i x k ≡ 1
unfolding factor_at
factor-other i x k other = ap (λ b. cond b x 1) (ne_eqb k i other)

module _ (A C : Matrix) (i : ℕ) (laws : FieldLaws A.field) (matrix : IsMatrix A) (shape : HasShape A.field A.rows A.cols C) (scaled : IsScaled i A C) where
  F : Field
  F = A.field

  one : IsElement F 1
  unfolding F
  one = one_element A.field matrix.over_field

  inverse : (b : ℕ) × IsElement F b × (mul F scaled.factor b ≡ 1)
  unfolding F
  inverse = laws.inverse scaled.factor scaled.element scaled.some

  factor_in : (x k : ℕ) → IsElement F x → IsElement F (factor_at i x k)
  factor_in x k element = ⊎_elim
      (λ (own : k ≡ i). subst (IsElement F) (sym (factor-own i x k own)) element)
      (λ (other : k ≢ i). subst (IsElement F) (sym (factor-other i x k other)) one)
      (cases_eq k i)

  -- the row space stays
  pub scaled_same : RowEquivalent A.field A.rows C A
  unfolding F
  scaled_same =
      let x = scaled.factor in
      let y = inverse.0 in
      equivalent_from_scaled laws A C (factor_at i x) (factor_at i y) (HasShape-own A matrix) shape
      (λ k below. factor_in x k scaled.element)
      (λ k below. factor_in y k inverse.1)
      (λ k below. ⊎_elim
      (λ (own : k ≡ i). ap₂ (mul A.field) (factor-own i y k own) (factor-own i x k own) ∙ laws.comm y x ∙ inverse.2)
      (λ (other : k ≢ i). ap₂ (mul A.field) (factor-other i y k other) (factor-other i x k other) ∙ laws.unit 1 one)
      (cases_eq k i))
      (λ k j below within. ⊎_elim
      (λ (own : k ≡ i).
      ap (λ (k : ℕ). at C k j) own ∙ scaled.own j within
      ∙ ap₂ (mul A.field) (sym (factor-own i x k own)) (ap (λ (k : ℕ). at A k j) (sym own)))
      (λ (other : k ≢ i).
      scaled.others k j other ∙ sym (laws.unit (at A k j) (matrix.elements k j below within))
      ∙ ap (λ (z : ℕ). mul A.field z (at A k j)) (sym (factor-other i x k other)))
      (cases_eq k i))

  -- what isn't zero stays so
  times_nonzero : (a : ℕ) → IsElement A.field a → a ≢ 0 → mul A.field scaled.factor a ≢ 0
  unfolding F
  times_nonzero a element some none =
      let x = scaled.factor in
      let y = inverse.0 in
      some (sym (laws.unit a element)
      ∙ ap (λ (z : ℕ). mul A.field z a) (sym (laws.comm y x ∙ inverse.2))
      ∙ laws.assoc y x a ∙ ap (mul A.field y) none ∙ laws.annihilates y)

  -- the form stays
  pub scaled_echelon : (q : List ℕ) → i < length q → Echelon A q → Echelon C q
  scaled_echelon q inside form =
      let rows = shape.rows in
      let cols = shape.cols in
      let few = form.within in
      record {
        rising = form.rising;
        columns = λ k below. let low = form.columns k below in omega (arith, low, cols);
        within = omega (arith, few, rows);
        nonzero = λ k below none. ⊎_elim
            (λ (own : k ≡ i).
            let low = form.columns i inside in
            times_nonzero (at A i (slice_index q i)) (matrix.elements i (slice_index q i) (omega (arith, inside, few)) low) (form.nonzero i inside)
            (sym (scaled.own (slice_index q i) low) ∙ ap (λ (k : ℕ). at C k (slice_index q k)) (sym own) ∙ none))
            (λ (other : k ≢ i). form.nonzero k below (sym (scaled.others k (slice_index q k) other) ∙ none))
            (cases_eq k i);
        before = λ k j below left. ⊎_elim
            (λ (own : k ≡ i).
            let low = form.columns k below in
            ap (λ (k : ℕ). at C k j) own ∙ scaled.own j (omega (arith, left, low))
            ∙ ap (mul A.field scaled.factor) (ap (λ (k : ℕ). at A k j) (sym own) ∙ form.before k j below left) ∙ laws.annihilates scaled.factor)
            (λ (other : k ≢ i). scaled.others k j other ∙ form.before k j below left)
            (cases_eq k i);
        below = λ k j from low within.
            scaled.others k j (λ same. absurd (omega (arith, same, from, inside))) ∙ form.below k j from (omega (arith, low, rows)) (omega (arith, within, cols));
      }

-- Of the echelon form A, with pivots q, the first i rows were scaled to C: their pivots are ones.
pub record AreOnesTo (A C : Matrix) (q : List ℕ) (i : ℕ) : Type 0 where
  pub shape : HasShape A.field A.rows A.cols C
  pub echelon : Echelon C q
  pub ones : (k : ℕ) → k < i → at C k (slice_index q k) ≡ 1
  pub same : RowEquivalent A.field A.rows C A

-- no row
pub ones_none : (A : Matrix) (q : List ℕ) → FieldLaws A.field → IsMatrix A → Echelon A q → AreOnesTo A A q 0
ones_none A q laws matrix form = record {
  shape = HasShape-own A matrix;
  echelon = form;
  ones = λ k below. absurd (omega (arith, below));
  same = RowEquivalent-refl laws (HasShape-own A matrix);
}

-- one row more
pub ones_more : (A C N : Matrix) (q : List ℕ) (i : ℕ) → FieldLaws A.field → IsMatrix A → AreOnesTo A C q i → HasShape A.field A.rows A.cols N
    → i < length q → IsScaled i C N → at N i (slice_index q i) ≡ 1 → AreOnesTo A N q (i + 1)
ones_more A C N q i laws matrix old shape inside scaled own =
    let now : HasShape C.field C.rows C.cols N = record {
      is_matrix = shape.is_matrix;
      over = shape.over ∙ sym old.shape.over;
      rows = shape.rows ∙ sym old.shape.rows;
      cols = shape.cols ∙ sym old.shape.cols;
    } in
    let its : FieldLaws C.field = subst FieldLaws (sym old.shape.over) laws in
    let step : RowEquivalent A.field A.rows N C
    = subst (λ (F : Field). RowEquivalent F A.rows N C) old.shape.over
    (subst (λ (m : ℕ). RowEquivalent C.field m N C) old.shape.rows (scaled_same C N i its old.shape.is_matrix now scaled)) in
    record {
      shape = shape;
      echelon = scaled_echelon C N i its old.shape.is_matrix now scaled q inside old.echelon;
      ones = λ k before. ⊎_elim
          (λ (earlier : k < i). scaled.others k (slice_index q k) (λ same. absurd (omega (arith, same, earlier))) ∙ old.ones k earlier)
          (λ (last : i ≤ k). let here : i ≡ k = omega (arith, before, last) in subst (λ (k : ℕ). at N k (slice_index q k) ≡ 1) here own)
          (cases_lt k i);
      same = RowEquivalent-trans laws shape (HasShape-own A matrix) step old.same;
    }

-- a row that is left is once what it was
pub scaled_once : (A C : Matrix) (i : ℕ) → FieldLaws A.field → IsMatrix A → i < A.rows → C ≡ A → IsScaled i A C
scaled_once A C i laws matrix below same = record {
  factor = 1;
  element = one_element A.field matrix.over_field;
  some = λ none. absurd (omega (arith, none));
  own = λ j within. ap (λ (M : Matrix). at M i j) same ∙ sym (laws.unit (at A i j) (matrix.elements i j below within));
  others = λ k j other. ap (λ (M : Matrix). at M k j) same;
}

-- a row that is multiplied by an inverse of x
module _ (A : Matrix) (i x y : ℕ) (laws : FieldLaws A.field) (matrix : IsMatrix A) (below : i < A.rows) (element : IsElement A.field y) (inverse : mul A.field x y ≡ 1) where
  at-scaled : (j : ℕ) → j < A.cols → at (with_row A i (multiples A.field y (row A i))) i j ≡ mul A.field y (at A i j)
  at-scaled j within = scaled_entry A A.field i y j matrix below within ∙ laws.comm (at A i j) y

  pub scaled_by : IsScaled i A (with_row A i (multiples A.field y (row A i)))
  scaled_by = record {
    factor = y;
    element = element;
    some = λ none. let nought : mul A.field x y ≡ 0 = ap (mul A.field x) none ∙ laws.annihilates x in absurd (omega (arith, nought, inverse));
    own = at-scaled;
    others = λ k j other. other_entry A (multiples A.field y (row A i)) i k j other;
  }

  pub scaled_one : (c : ℕ) → c < A.cols → at A i c ≡ x → at (with_row A i (multiples A.field y (row A i))) i c ≡ 1
  scaled_one c within same = at-scaled c within ∙ ap (mul A.field y) same ∙ laws.comm y x ∙ inverse
