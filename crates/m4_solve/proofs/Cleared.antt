-- An echelon form whose pivots are ones is its pivot columns times its reduced form.
use Rattle.std.proofs.Common.{◌≡◌, ℕ, zero, suc, ◌+◌, ◌<◌, ◌≤◌, ⊎_elim, refl, sym, ◌∙◌, ap, subst, arith, List, length, slice_index, ltb, cond}
use Rattle.std.proofs.lemmas.Bool.{cases_lt, cases_order, cond-true, cond-false, lt-ltb, le-ltb}
use Rattle.m4_model.specs.Field.{Field, IsElement, mul}
use Rattle.m4_model.specs.Matrix.{Matrix, HasShape, at, matrix_of, identity, product}
use Rattle.m4_model.specs.Shapes.{transposed}
use Rattle.m4_model.specs.Forms.{Echelon, Reduced}
use Rattle.m4_model.specs.Factors.{IsUnitLower}
use Rattle.m4_model.proofs.FieldLaws.{FieldLaws}
use Rattle.m4_model.proofs.SumLemmas.{sum_below-short, sum_below-single, mul-zero_left}
use Rattle.m4_model.proofs.ProductLemmas.{times, times-same, unit_at, unit_at-same, unit_at-other}
use Rattle.m4_model.proofs.ShapeLemmas.{IsField-shape, IsElement-shape, same_entries, HasShape-matrix_of, at-matrix_of, at-identity, is_product, at-product, at-transposed, HasShape-transposed}
use Rattle.m4_model.proofs.RingLemmas.{IsElement-unit_at, HasShape-one, product_assoc, product-identity_left, transposed_twice, transposed-product}
use Rattle.m4_model.proofs.TriangleLemmas.{inverse_of_unit_lower}
use Rattle.m4_model.proofs.EchelonLemmas.{pivot_below}
use Rattle.m4_model.proofs.EquivalenceLemmas.{RowEquivalent}

module _ (F : Field) (laws : FieldLaws F) (m n : ℕ) (E R : Matrix) (q : List ℕ) (e : HasShape F m n E) (r : HasShape F m n R) (form : Echelon E q)
    (ones : (i : ℕ) → i < length q → at E i (slice_index q i) ≡ 1)
    (below : (i j : ℕ) → length q ≤ i → i < m → j < n → at R i j ≡ 0)
    (made : (i j : ℕ) → i < m → j < n → at E i j ≡ times F (length q) (λ i t. at E i (slice_index q t)) (at R) i j) where
  in_rows : length q ≤ m
  in_rows = let within = form.within in let rows = e.rows in omega (arith, within, rows)

  pivot_in : (t : ℕ) → t < length q → slice_index q t < n
  pivot_in t inside = let low = form.columns t inside in let cols = e.cols in omega (arith, low, cols)

  -- below its row a pivot column is zero
  zero_under : (i t : ℕ) → t < i → i < m → t < length q → at E i (slice_index q t) ≡ 0
  zero_under i t later low inside =
      let rows = e.rows in
      pivot_below E (subst FieldLaws (sym e.over) laws) e.is_matrix q form i t later (omega (arith, low, rows)) inside

  -- the pivot columns, and columns of the identity behind them
  entry : ℕ → ℕ → ℕ
  entry i t = cond (ltb t (length q)) (at E i (slice_index q t)) (unit_at i t)

  entry-pivot : (i t : ℕ) → t < length q → entry i t ≡ at E i (slice_index q t)
  unfolding entry
  entry-pivot i t inside = cond-true (ltb t (length q)) _ _ (lt-ltb t (length q) inside)

  entry-behind : (i t : ℕ) → length q ≤ t → entry i t ≡ unit_at i t
  unfolding entry
  entry-behind i t behind = cond-false (ltb t (length q)) _ _ (le-ltb t (length q) behind)

  U : Matrix
  U = matrix_of F m m entry

  u : HasShape F m m U
  unfolding U
  u = HasShape-matrix_of F m m entry (IsField-shape e) (λ i t low within. ⊎_elim
      (λ (inside : t < length q). subst (IsElement F) (sym (entry-pivot i t inside)) (IsElement-shape e i (slice_index q t) low (pivot_in t inside)))
      (λ (behind : length q ≤ t). subst (IsElement F) (sym (entry-behind i t behind)) (IsElement-unit_at F (IsField-shape e) i t))
      (cases_lt t (length q)))

  at-u : (i t : ℕ) → i < m → t < m → at U i t ≡ entry i t
  unfolding U
  at-u i t low within = at-matrix_of F m m entry i t low within

  at-pivot : (i t : ℕ) → i < m → t < length q → at U i t ≡ at E i (slice_index q t)
  at-pivot i t low inside = let rows = in_rows in at-u i t low (omega (arith, inside, rows)) ∙ entry-pivot i t inside

  whole : E ≡ product U R
  whole = is_product u r e (λ i j low within.
      made i j low within
      ∙ times-same F (length q) (λ i t. at E i (slice_index q t)) (at R) (at U) (at R) i j i j (λ t inside. sym (at-pivot i t low inside)) (λ t inside. refl)
      ∙ sym (sum_below-short (length q) m (λ t. mul F (at U i t) (at R t j)) in_rows (λ t from inside.
      ap (mul F (at U i t)) (below t j from inside within) ∙ laws.annihilates (at U i t))))

  turned : HasShape F m m (transposed U)
  turned = HasShape-transposed u

  unit_lower : IsUnitLower m (transposed U)
  unit_lower =
      let rows = turned.rows in
      let cols = turned.cols in
      record {
        diagonal = λ i low. at-transposed u i i (omega (arith, low, rows)) (omega (arith, low, rows)) ∙ ⊎_elim
            (λ (inside : i < length q). at-pivot i i (omega (arith, low, rows)) inside ∙ ones i inside)
            (λ (behind : length q ≤ i). at-u i i (omega (arith, low, rows)) (omega (arith, low, rows)) ∙ entry-behind i i behind ∙ unit_at-same i i refl)
            (cases_lt i (length q));
        above = λ i j over within. at-transposed u i j (omega (arith, over, within, cols)) (omega (arith, within, cols)) ∙ ⊎_elim
            (λ (inside : i < length q). at-pivot j i (omega (arith, within, cols)) inside ∙ zero_under j i over (omega (arith, within, cols)) inside)
            (λ (behind : length q ≤ i).
            at-u j i (omega (arith, within, cols)) (omega (arith, over, within, cols)) ∙ entry-behind j i behind ∙ unit_at-other j i (λ same. absurd (omega (arith, same, over))))
            (cases_lt i (length q));
        rest = λ i j from under low. absurd (omega (arith, from, under, low, rows));
      }

  inverse : (N : Matrix) × HasShape F m m N × (product (transposed U) N ≡ identity F m) × (product N (transposed U) ≡ identity F m)
  inverse = inverse_of_unit_lower m (transposed U) laws turned unit_lower

  N : Matrix
  N = transposed inverse.0

  n_shape : HasShape F m m N
  unfolding N
  n_shape = HasShape-transposed inverse.1

  one : HasShape F m m (identity F m)
  one = HasShape-one F m (IsField-shape e)

  undone : product N U ≡ identity F m
  unfolding N
  undone =
      ap (product (transposed inverse.0)) (sym (transposed_twice u))
      ∙ sym (transposed-product laws turned inverse.1)
      ∙ ap transposed inverse.2
      ∙ same_entries (HasShape-transposed one) one (λ i j low within.
      at-transposed one i j low within ∙ at-identity F m j i within low ∙ turned_unit j i ∙ sym (at-identity F m i j low within))
    where
      turned_unit : (j i : ℕ) → unit_at j i ≡ unit_at i j
      turned_unit j i = ⊎_elim
          (λ (same : j ≡ i). unit_at-same j i same ∙ sym (unit_at-same i j (sym same)))
          (⊎_elim
          (λ (before : j < i). unit_at-other j i (λ same. absurd (omega (arith, same, before))) ∙ sym (unit_at-other i j (λ same. absurd (omega (arith, same, before)))))
          (λ (after : i < j). unit_at-other j i (λ same. absurd (omega (arith, same, after))) ∙ sym (unit_at-other i j (λ same. absurd (omega (arith, same, after))))))
          (cases_order j i)

  back : R ≡ product N E
  back = sym (ap (product N) whole ∙ sym (product_assoc laws n_shape u r) ∙ ap (λ (I : Matrix). product I R) undone ∙ product-identity_left laws r)

  pub cleared_same : RowEquivalent F m R E
  cleared_same = record { to = N; to_shape = n_shape; made = back; back = U; back_shape = u; unmade = whole }

  -- a pivot column of R is one of the identity
  pub cleared_units : (i k : ℕ) → i < m → k < length q → at R i (slice_index q k) ≡ unit_at i k
  cleared_units i k low inside =
      let rows = in_rows in
      ap (λ (C : Matrix). at C i (slice_index q k)) back
      ∙ at-product n_shape e i (slice_index q k) low (pivot_in k inside)
      ∙ times-same F m (at N) (at E) (at N) (at U) i (slice_index q k) i k (λ t within. refl) (λ t within. sym (at-pivot t k within inside))
      ∙ sym (at-product n_shape u i k low (omega (arith, inside, rows)))
      ∙ ap (λ (C : Matrix). at C i k) undone
      ∙ at-identity F m i k low (omega (arith, inside, rows))

  -- before its pivot a row of R is zero
  cleared_before : (d i j : ℕ) → i < length q → length q ≤ i + d → j < slice_index q i → at R i j ≡ 0
  cleared_before zero i j inside reach left = absurd (omega (arith, inside, reach))
  cleared_before (suc d) i j inside reach left =
      let rows = in_rows in
      let low = pivot_in i inside in
      let within : j < n = omega (arith, left, low) in
      sym (made i j (omega (arith, inside, rows)) within
      ∙ sum_below-single (length q) i (λ t. mul F (at E i (slice_index q t)) (at R t j)) inside (λ t under other. ⊎_elim
      (λ (same : t ≡ i). absurd (other same))
      (⊎_elim
      (λ (before : t < i). ap (λ (x : ℕ). mul F x (at R t j)) (zero_under i t before (omega (arith, inside, rows)) under) ∙ mul-zero_left F laws (at R t j))
      (λ (after : i < t).
      let rises = form.rising i t after under in
      ap (mul F (at E i (slice_index q t))) (cleared_before d t j under (omega (arith, after, reach)) (omega (arith, left, rises))) ∙ laws.annihilates (at E i (slice_index q t))))
      (cases_order t i))
      ∙ ap (λ (x : ℕ). mul F x (at R i j)) (ones i inside)
      ∙ laws.unit (at R i j) (IsElement-shape r i j (omega (arith, inside, rows)) within))
      ∙ form.before i j inside left

  pub cleared_reduced : Reduced R q
  cleared_reduced =
      let rows = r.rows in
      let cols = r.cols in
      let few = in_rows in
      record {
        echelon = record {
          rising = form.rising;
          columns = λ i inside. let low = pivot_in i inside in omega (arith, low, cols);
          within = omega (arith, few, rows);
          nonzero = λ i inside none.
              let one = cleared_units i i (omega (arith, inside, few)) inside ∙ unit_at-same i i refl in
              absurd (omega (arith, one, none));
          before = λ i j inside left. cleared_before (length q) i j inside (omega arith) left;
          below = λ i j from low within. below i j from (omega (arith, low, rows)) (omega (arith, within, cols));
        };
        units = λ i k low inside. cleared_units i k (omega (arith, low, rows)) inside;
      }
