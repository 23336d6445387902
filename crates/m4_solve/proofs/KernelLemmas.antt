-- The basis that is read off the reduced form is that of the kernel.
use Rattle.std.proofs.Common.{◌≡◌, ◌≢◌, ℕ, ◌<◌, ◌≤◌, ⊎_elim, refl, sym, ◌∙◌, ap, ap₂, subst, arith, List, length, slice_index, bit_xor, Contains, ◌==◌, if◌then◌else◌}
use Rattle.std.specs.Int.Bits.{xor_assoc, xor_comm, xor_self, xor_zero_l, xor_zero_r}
use Rattle.std.proofs.lemmas.Bool.{cases_lt, cases_eq, cases_order, eq-eqb, ne_eqb}
use Rattle.m4_model.specs.Field.{Field, mul}
use Rattle.m4_model.specs.Matrix.{Matrix, IsMatrix, HasShape, at, product, zero_matrix}
use Rattle.m4_model.specs.Shapes.{transposed}
use Rattle.m4_model.specs.Rank.{IsRising, ArePivots, IsFree}
use Rattle.m4_model.specs.Forms.{IsKernel, AreFree}
use Rattle.m4_model.proofs.FieldLaws.{FieldLaws}
use Rattle.m4_model.proofs.SumLemmas.{sum_below-zero, sum_below-single, mul-zero_left}
use Rattle.m4_model.proofs.ProductLemmas.{times, times-same, times-xor_right, times-unit_col, times-zero_col, times_assoc, unit_at, unit_at-same, unit_at-other}
use Rattle.m4_model.proofs.ShapeLemmas.{HasShape-own, IsElement-shape, at-product, at-transposed, at-zero_matrix, same_entries, HasShape-product, HasShape-transposed, HasShape-zero_matrix}
use Rattle.m4_model.proofs.EchelonLemmas.{place_of, Contains-entry}
use Rattle.m4_model.proofs.RankLemmas.{Contains_none}
use Rattle.m4_solve.specs.Reduction.{IsReducedAt}
use Rattle.m4_solve.specs.Kernel.{AreOthers, IsKernelBasis}
use Rattle.m4_solve.proofs.Ranks.{matrix_at, pivots_at}

-- a number of a rising list stands in one place
rising_apart : (g : List ℕ) (i t : ℕ) → IsRising g → i < length g → t < length g → i ≢ t → slice_index g t ≢ slice_index g i
rising_apart g i t rising first second other same = ⊎_elim
    (λ (here : i ≡ t). other here)
    (⊎_elim
    (λ (before : i < t). let rises = rising i t before second in absurd (omega (arith, rises, same)))
    (λ (after : t < i). let rises = rising t i after first in absurd (omega (arith, rises, same))))
    (cases_order i t)

module _ (A R K : Matrix) (q g : List ℕ) (laws : FieldLaws A.field) (reduced : IsReducedAt R A q) (others : AreOthers A.cols q g)
    (basis : IsKernelBasis R q g K) where
  is_matrix : IsMatrix A
  is_matrix = matrix_at laws reduced

  pivots : ArePivots A q
  pivots = pivots_at laws reduced

  width : R.cols ≡ A.cols
  width = reduced.form.shape.cols

  k_shape : HasShape A.field (length g) A.cols K
  k_shape = subst (λ (F : Field). HasShape F (length g) A.cols K) reduced.form.shape.over (subst (λ (n : ℕ). HasShape R.field (length g) n K) width basis.shape)

  k_cols : K.cols ≡ A.cols
  k_cols = k_shape.cols

  free : AreFree A g
  free = record {
    rising = others.rising;
    columns = others.below;
    free = λ t inside. pivots.others (slice_index g t) (others.below t inside)
        (Contains_none q (slice_index g t) (λ s within. others.apart t s inside within));
    others = λ j within none is_free.
        let found = others.rest j within (λ t inside here. none (Contains-at g t j inside here)) in
        pivots.unfree found.0 found.1 (subst (IsFree A) (sym found.2) is_free);
  }
    where
      Contains-at : (g : List ℕ) (t j : ℕ) → t < length g → slice_index g t ≡ j → Contains g j
      Contains-at = Contains-entry

  -- K's entry, less the one in its own column
  less : ℕ → ℕ → ℕ
  less t j = bit_xor (at K t j) (unit_at j (slice_index g t))

  entry_split : (t j : ℕ) → at K t j ≡ bit_xor (unit_at j (slice_index g t)) (less t j)
  unfolding less
  entry_split t j =
      sym (ap (bit_xor (unit_at j (slice_index g t))) (xor_comm (at K t j) (unit_at j (slice_index g t)))
      ∙ sym (xor_assoc (unit_at j (slice_index g t)) (unit_at j (slice_index g t)) (at K t j))
      ∙ ap (λ (x : ℕ). bit_xor x (at K t j)) (xor_self (unit_at j (slice_index g t)))
      ∙ xor_zero_l (at K t j))

  less-pivot : (t s : ℕ) → t < length g → s < length q → less t (slice_index q s) ≡ at R s (slice_index g t)
  unfolding less
  less-pivot t s inside within =
      ap₂ bit_xor ((basis.rows t inside).at_pivots s within) (unit_at-other (slice_index q s) (slice_index g t) (others.apart t s inside within))
      ∙ xor_zero_r (at R s (slice_index g t))

  less-other : (t j : ℕ) → t < length g → j < A.cols → ((s : ℕ) → s < length q → slice_index q s ≢ j) → less t j ≡ 0
  unfolding less
  less-other t j inside within none = ⊎_elim
      (λ (own : j ≡ slice_index g t).
      ap₂ bit_xor (ap (at K t) own ∙ (basis.rows t inside).own) (unit_at-same j (slice_index g t) own) ∙ xor_self 1)
      (λ (other : j ≢ slice_index g t).
      let wide = k_cols in
      ap₂ bit_xor ((basis.rows t inside).elsewhere j (omega (arith, within, wide)) other none) (unit_at-other j (slice_index g t) other) ∙ xor_self 0)
      (cases_eq j (slice_index g t))

  -- R takes each row to zero
  reduced_killed : (i t : ℕ) → i < A.rows → t < length g → times A.field A.cols (at R) (λ j t. at K t j) i t ≡ 0
  reduced_killed i t below inside =
      let rows = reduced.form.shape.rows in
      let wide = width in
      let same : length reduced.form.pivots ≡ length q = ap length reduced.at_pivots in
      let c = slice_index g t in
      let in_cols = others.below t inside in
      ⊎_elim
      (λ (pivoted : i < length q).
      let units : (s : ℕ) → s < length q → at R i (slice_index q s) ≡ (if i == s then 1 else 0)
      = λ s within. ap (λ (q : List ℕ). at R i (slice_index q s)) (sym reduced.at_pivots) ∙ reduced.form.reduced.units i s (omega (arith, below, rows)) (omega (arith, within, same)) in
      times-same A.field A.cols (at R) (λ j t. at K t j) (at R) (λ j t. bit_xor (unit_at j (slice_index g t)) (less t j)) i t i t
      (λ j within. refl) (λ j within. entry_split t j)
      ∙ times-xor_right A.field laws A.cols (at R) (λ j t. unit_at j (slice_index g t)) (λ j t. less t j) i t
      ∙ ap₂ bit_xor
      (times-unit_col A.field laws A.cols (at R) (λ j t. unit_at j (slice_index g t)) i t c in_cols (λ j within. refl) (IsElement-shape reduced.form.shape i c below in_cols))
      (sum_below-single A.cols (slice_index q i) (λ j. mul A.field (at R i j) (less t j)) (pivots.columns i pivoted)
      (λ j within other. ⊎_elim
      (λ (found : (s : ℕ) × (s < length q) × (slice_index q s ≡ j)).
      ap (λ (x : ℕ). mul A.field x (less t j))
      (ap (at R i) (sym found.2) ∙ units found.0 found.1 ∙ rw (ne_eqb i found.0 (λ here. other (sym found.2 ∙ ap (slice_index q) (sym here)))) refl)
      ∙ mul-zero_left A.field laws (less t j))
      (λ (none : (s : ℕ) → s < length q → slice_index q s ≢ j).
      ap (mul A.field (at R i j)) (less-other t j inside within none) ∙ laws.annihilates (at R i j))
      (place_of q j))
      ∙ ap₂ (mul A.field) (units i pivoted ∙ rw (eq-eqb i i refl) refl) (less-pivot t i inside pivoted)
      ∙ laws.unit (at R i c) (IsElement-shape reduced.form.shape i c below in_cols))
      ∙ xor_self (at R i c))
      (λ (rest : length q ≤ i).
      sum_below-zero A.cols (λ j. mul A.field (at R i j) (at K t j)) (λ j within.
      ap (λ (x : ℕ). mul A.field x (at K t j)) (reduced.form.reduced.echelon.below i j (omega (arith, rest, same)) (omega (arith, below, rows)) (omega (arith, within, wide)))
      ∙ mul-zero_left A.field laws (at K t j)))
      (cases_lt i (length q))

  killed : product A (transposed K) ≡ zero_matrix A.field A.rows (length g)
  killed =
      let own = HasShape-own A is_matrix in
      let turned = HasShape-transposed k_shape in
      same_entries (HasShape-product own turned laws) (HasShape-zero_matrix A.field A.rows (length g) is_matrix.over_field) (λ i t below inside.
      at-product own turned i t below inside
      ∙ times-same A.field A.cols (at A) (at (transposed K)) (times A.field A.rows (at reduced.form.back) (at R)) (λ j t. at K t j) i t i t
      (λ j within. ap (λ (C : Matrix). at C i j) reduced.form.unmade ∙ at-product reduced.form.back_shape reduced.form.shape i j below within)
      (λ j within. at-transposed k_shape j t within inside)
      ∙ times_assoc A.field laws A.rows A.cols (at reduced.form.back) (at R) (λ j t. at K t j) i t
      ∙ times-zero_col A.field laws A.rows (at reduced.form.back) (times A.field A.cols (at R) (λ j t. at K t j)) i t (λ s within. reduced_killed s t within inside)
      ∙ sym (at-zero_matrix A.field A.rows (length g) i t below inside))

  pub kernel_read : IsKernel K A
  kernel_read = record {
    free = g;
    are_free = free;
    shape = k_shape;
    killed = killed;
    units = λ i t first second. ⊎_elim
        (λ (same : i ≡ t). rw (eq-eqb i t same) (ap (λ (t : ℕ). at K i (slice_index g t)) (sym same) ∙ (basis.rows i first).own))
        (λ (other : i ≢ t).
        let wide = k_cols in
        let low = others.below t second in
        rw (ne_eqb i t other)
        ((basis.rows i first).elsewhere (slice_index g t) (omega (arith, low, wide)) (rising_apart g i t others.rising first second other)
        (λ s within. others.apart t s second within)))
        (cases_eq i t);
  }
