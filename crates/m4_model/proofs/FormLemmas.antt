-- At most one reduced form, inverse, solution and kernel basis, and none where there can't be one.
use Rattle.std.proofs.Common.{◌≡◌, ◌≢◌, ℕ, zero, suc, ◌+◌, ◌<◌, ◌≤◌, ⊎_elim, refl, sym, ◌∙◌, ap, subst, arith, bit_xor, length, slice_index, List}
use Rattle.std.specs.Int.Bits.{xor_self, xor_lt}
use Rattle.std.proofs.lemmas.Bool.{cases_lt, cases_eq}
use Rattle.m4_model.specs.Field.{IsElement, sum_below, mul}
use Rattle.m4_model.specs.Matrix.{Matrix, IsMatrix, HasShape, at, product}
use Rattle.m4_model.specs.Shapes.{transposed}
use Rattle.m4_model.specs.Rank.{IsFree, ArePivots}
use Rattle.m4_model.specs.Forms.{Reduced, IsReduced, IsInverse, Singular, IsSolution, NoSolution, AreFree, IsKernel}
use Rattle.m4_model.proofs.FieldLaws.{FieldLaws}
use Rattle.m4_model.proofs.FieldLemmas.{sum_below-same, sum_below-more}
use Rattle.m4_model.proofs.Polynomials.{xor_zero_equal}
use Rattle.m4_model.proofs.SumLemmas.{sum_below-short, mul-one_right, sum_below-mul}
use Rattle.m4_model.proofs.ProductLemmas.{times, times-same, times-xor_right, times-unit_row, times-unit_col, unit_at}
use Rattle.m4_model.proofs.ShapeLemmas.{IsElement-shape, HasShape-own, same_entries, at-zero_matrix, at-product, HasShape-product, at-transposed, HasShape-transposed}
use Rattle.m4_model.proofs.RingLemmas.{product_assoc, product-identity_left, product-identity_right, product-zero_right}
use Rattle.m4_model.proofs.EchelonLemmas.{pivots_of_echelon, place_of}
use Rattle.m4_model.proofs.RankLemmas.{AreIn, same_rising, Contains_none, same_pivots, free-product, pivots_like}

module _ (A : Matrix) (laws : FieldLaws A.field) (is_matrix : IsMatrix A) where
  -- the entry of A times a column of which later entries are zero
  killed_at : (v : ℕ → ℕ) (t i : ℕ) → t < A.cols → ((s : ℕ) → t < s → s < A.cols → v s ≡ 0)
      → sum_below A.cols (λ s. mul A.field (at A i s) (v s)) ≡ 0
      → mul A.field (at A i t) (v t) ≡ sum_below t (λ s. mul A.field (at A i s) (v s))
  killed_at v t i within later none =
      let term : ℕ → ℕ = λ s. mul A.field (at A i s) (v s) in
      let shorter : sum_below A.cols term ≡ sum_below (t + 1) term
      = sum_below-short (t + 1) A.cols term (omega arith)
      (λ s from below. ap (mul A.field (at A i s)) (later s (omega (arith, from)) below) ∙ laws.annihilates (at A i s)) in
      sym (xor_zero_equal (sum_below t term) (term t) (sym (sum_below-more t term) ∙ sym shorter ∙ none))

  -- the last nonzero entry of a column that A takes to zero stands at a free column
  last_is_free : (v : ℕ → ℕ) (t : ℕ) → t < A.cols → ((s : ℕ) → s < A.cols → IsElement A.field (v s)) → v t ≢ 0
      → ((s : ℕ) → t < s → s < A.cols → v s ≡ 0)
      → ((i : ℕ) → i < A.rows → sum_below A.cols (λ s. mul A.field (at A i s) (v s)) ≡ 0) → IsFree A t
  last_is_free v t within elements some later none =
      let inverse = laws.inverse (v t) (elements t within) some in
      let y : ℕ = inverse.0 in
      record {
        coefficients = λ s. mul A.field y (v s);
        elements = λ s before. laws.closed y (v s) inverse.1 (elements s (omega (arith, before)));
        combined = λ i below.
            sym (mul-one_right A.field laws (at A i t) (is_matrix.elements i t below within))
            ∙ ap (mul A.field (at A i t)) (sym inverse.2)
            ∙ sym (laws.assoc (at A i t) (v t) y)
            ∙ ap (λ (x : ℕ). mul A.field x y) (killed_at v t i within later (none i below))
            ∙ sum_below-mul A.field laws t (λ s. mul A.field (at A i s) (v s)) y
            ∙ sum_below-same t (λ s. mul A.field (mul A.field (at A i s) (v s)) y) (λ s. mul A.field (mul A.field y (v s)) (at A i s))
            (λ s before. laws.comm (mul A.field (at A i s) (v s)) y ∙ ap (mul A.field y) (laws.comm (at A i s) (v s)) ∙ sym (laws.assoc y (v s) (at A i s)));
      }

  -- from the last entry down
  zero_from : (v : ℕ → ℕ) → ((s : ℕ) → s < A.cols → IsElement A.field (v s))
      → ((i : ℕ) → i < A.rows → sum_below A.cols (λ s. mul A.field (at A i s) (v s)) ≡ 0)
      → ((j : ℕ) → j < A.cols → IsFree A j → v j ≡ 0) → (d t : ℕ) → A.cols ≤ t + d → t < A.cols → v t ≡ 0
  zero_from v elements none free zero t reach within = absurd (omega (arith, reach, within))
  zero_from v elements none free (suc d) t reach within =
      let later : (s : ℕ) → t < s → s < A.cols → v s ≡ 0
      = λ s after below. zero_from v elements none free d s (omega (arith, reach, after)) below in
      ⊎_elim (λ (done : v t ≡ 0). done)
      (λ (some : v t ≢ 0). free t within (last_is_free v t within elements some later none))
      (cases_eq (v t) 0)

  -- a column that A takes to zero, and that is zero at the free columns, is zero
  pub killed_zero : (v : ℕ → ℕ) → ((s : ℕ) → s < A.cols → IsElement A.field (v s))
      → ((i : ℕ) → i < A.rows → sum_below A.cols (λ s. mul A.field (at A i s) (v s)) ≡ 0)
      → ((j : ℕ) → j < A.cols → IsFree A j → v j ≡ 0) → (t : ℕ) → t < A.cols → v t ≡ 0
  killed_zero v elements none free t within = zero_from v elements none free A.cols t (omega arith) within

  -- columns that A takes to one thing, and that agree at the free columns, are equal
  pub same_image : (v w : ℕ → ℕ) → ((s : ℕ) → s < A.cols → IsElement A.field (v s)) → ((s : ℕ) → s < A.cols → IsElement A.field (w s))
      → ((i : ℕ) → i < A.rows → sum_below A.cols (λ s. mul A.field (at A i s) (v s)) ≡ sum_below A.cols (λ s. mul A.field (at A i s) (w s)))
      → ((j : ℕ) → j < A.cols → IsFree A j → v j ≡ w j) → (t : ℕ) → t < A.cols → v t ≡ w t
  same_image v w v_in w_in same free t within =
      xor_zero_equal (v t) (w t) (killed_zero (λ s. bit_xor (v s) (w s))
      (λ s below. xor_lt A.field.degree (v s) (w s) (v_in s below) (w_in s below))
      (λ i below.
      times-xor_right A.field laws A.cols (at A) (λ t k. v t) (λ t k. w t) i 0
      ∙ ap (λ (x : ℕ). bit_xor x (sum_below A.cols (λ s. mul A.field (at A i s) (w s)))) (same i below)
      ∙ xor_self (sum_below A.cols (λ s. mul A.field (at A i s) (w s))))
      (λ j below here. ap (λ (x : ℕ). bit_xor x (w j)) (free j below here) ∙ xor_self (w j))
      t within)

  -- there is at most one solution
  pub same_solution : (X Y B : Matrix) → IsSolution X A B → IsSolution Y A B → X ≡ Y
  same_solution X Y B first second =
      let own = HasShape-own A is_matrix in
      same_entries first.shape second.shape (λ t k in_rows in_cols.
      same_image (λ s. at X s k) (λ s. at Y s k)
      (λ s below. IsElement-shape first.shape s k below in_cols)
      (λ s below. IsElement-shape second.shape s k below in_cols)
      (λ i below.
      sym (at-product own first.shape i k below in_cols)
      ∙ ap (λ (C : Matrix). at C i k) (first.solves ∙ sym second.solves)
      ∙ at-product own second.shape i k below in_cols)
      (λ j below free. first.zeros j k below free in_cols ∙ sym (second.zeros j k below free in_cols))
      t in_rows)

  -- and none where there can't be one
  pub solution_refuted : (X B : Matrix) → IsSolution X A B → NoSolution A B → ⊥
  solution_refuted X B solution none = none X solution.shape solution.solves

  -- there is at most one list of free columns
  pub same_free : (g h : List ℕ) → AreFree A g → AreFree A h → g ≡ h
  same_free g h g_free h_free = same_rising g h g_free.rising h_free.rising (free_in g h g_free h_free) (free_in h g h_free g_free)
    where
      free_in : (g h : List ℕ) → AreFree A g → AreFree A h → AreIn g h
      free_in g h g_free h_free i within = ⊎_elim
          (λ (found : (k : ℕ) × (k < length h) × (slice_index h k ≡ slice_index g i)). found)
          (λ (none : (k : ℕ) → k < length h → slice_index h k ≢ slice_index g i).
          absurd (h_free.others (slice_index g i) (g_free.columns i within) (Contains_none h (slice_index g i) none) (g_free.free i within)))
          (place_of h (slice_index g i))

  -- what a row of a kernel basis is taken to
  kernel_row : (K : Matrix) (kernel : IsKernel K A) (i k : ℕ) → i < A.rows → k < length kernel.free
      → sum_below A.cols (λ s. mul A.field (at A i s) (at K k s)) ≡ 0
  kernel_row K kernel i k in_rows in_basis =
      let own = HasShape-own A is_matrix in
      let turned = HasShape-transposed kernel.shape in
      times-same A.field A.cols (at A) (λ s k. at K k s) (at A) (at (transposed K)) i k i k
      (λ s below. refl) (λ s below. sym (at-transposed kernel.shape s k below in_basis))
      ∙ sym (at-product own turned i k in_rows in_basis)
      ∙ ap (λ (C : Matrix). at C i k) kernel.killed
      ∙ at-zero_matrix A.field A.rows (length kernel.free) i k in_rows in_basis

  -- at a free column the rows of a kernel basis are those of the identity
  kernel_unit : (K : Matrix) (kernel : IsKernel K A) (k j : ℕ) → k < length kernel.free → j < A.cols → IsFree A j
      → (t : ℕ) × (t < length kernel.free) × (slice_index kernel.free t ≡ j) × (at K k j ≡ unit_at k t)
  kernel_unit K kernel k j in_basis in_cols free = ⊎_elim
      (λ (found : (t : ℕ) × (t < length kernel.free) × (slice_index kernel.free t ≡ j)).
      (found.0, found.1, found.2, subst (λ (j : ℕ). at K k j ≡ unit_at k found.0) found.2 (kernel.units k found.0 in_basis found.1)))
      (λ (none : (t : ℕ) → t < length kernel.free → slice_index kernel.free t ≢ j).
      absurd (kernel.are_free.others j in_cols (Contains_none kernel.free j none) free))
      (place_of kernel.free j)

  -- there is at most one kernel basis
  pub same_kernel : (K M : Matrix) → IsKernel K A → IsKernel M A → K ≡ M
  same_kernel K M first second =
      let lists : first.free ≡ second.free = same_free first.free second.free first.are_free second.are_free in
      let count : length first.free ≡ length second.free = ap length lists in
      let other : HasShape A.field (length first.free) A.cols M
      = subst (λ (r : ℕ). HasShape A.field r A.cols M) (sym count) second.shape in
      same_entries first.shape other (λ k t in_basis in_cols.
      let in_other : k < length second.free = omega (arith, in_basis, count) in
      same_image (at K k) (at M k)
      (λ s below. IsElement-shape first.shape k s in_basis below)
      (λ s below. IsElement-shape other k s in_basis below)
      (λ i below. kernel_row K first i k below in_basis ∙ sym (kernel_row M second i k below in_other))
      (λ j below free.
      let here = kernel_unit K first k j in_basis below free in
      let within : here.0 < length second.free = let less = here.1 in omega (arith, less, count) in
      let place : slice_index second.free here.0 ≡ j = subst (λ (g : List ℕ). slice_index g here.0 ≡ j) lists here.2 in
      here.3 ∙ sym (subst (λ (j : ℕ). at M k j ≡ unit_at k here.0) place (second.units k here.0 in_other within)))
      t in_cols)

  -- there is at most one inverse
  pub same_inverse : (X Y : Matrix) → IsInverse X A → IsInverse Y A → X ≡ Y
  same_inverse X Y first second =
      let own : HasShape A.field A.rows A.rows A
      = record { is_matrix = is_matrix; over = refl; rows = refl; cols = first.square } in
      sym (product-identity_left laws first.shape)
      ∙ ap (λ (C : Matrix). product C X) (sym second.left)
      ∙ product_assoc laws second.shape own first.shape
      ∙ ap (product Y) first.right
      ∙ product-identity_right laws second.shape

  -- and none where A is singular
  pub inverse_refuted : (X : Matrix) → IsInverse X A → Singular A → ⊥
  inverse_refuted X inverse singular =
      let own : HasShape A.field A.rows A.rows A
      = record { is_matrix = is_matrix; over = refl; rows = refl; cols = inverse.square } in
      singular.nonzero
      (sym (product-identity_left laws singular.shape)
      ∙ ap (λ (C : Matrix). product C singular.v) (sym inverse.left)
      ∙ product_assoc laws inverse.shape own singular.shape
      ∙ ap (product X) singular.killed
      ∙ product-zero_right laws inverse.shape 1)

  -- the pivots of a reduced form are those of the matrix
  pub pivots_of_reduced : (R : Matrix) (reduced : IsReduced R A) → ArePivots A reduced.pivots
  pivots_of_reduced R reduced =
      let r_laws : FieldLaws R.field = subst FieldLaws (sym reduced.shape.over) laws in
      let own = HasShape-own A is_matrix in
      let cols = reduced.shape.cols in
      let made : HasShape A.field A.rows A.cols (product reduced.to A) = HasShape-product reduced.to_shape own laws in
      let unmade : HasShape A.field A.rows A.cols (product reduced.back R) = HasShape-product reduced.back_shape reduced.shape laws in
      pivots_like A R reduced.pivots (sym cols)
      (λ j within free. subst (λ (C : Matrix). IsFree C j) (sym reduced.made)
      (free-product laws reduced.to_shape own made j (omega (arith, within)) free))
      (λ j within free. subst (λ (C : Matrix). IsFree C j) (sym reduced.unmade)
      (free-product laws reduced.back_shape reduced.shape unmade j (omega (arith, within)) free))
      (pivots_of_echelon R r_laws reduced.shape.is_matrix reduced.pivots reduced.reduced.echelon)

  -- a reduced form that is made of another one is equal to it
  reduced_same : (R S M : Matrix) (q : List ℕ) → HasShape A.field A.rows A.cols R → HasShape A.field A.rows A.cols S
      → HasShape A.field A.rows A.rows M → Reduced R q → Reduced S q → S ≡ product M R → S ≡ R
  reduced_same R S M q r s m r_reduced s_reduced made =
      let entry : (i j : ℕ) → i < A.rows → j < A.cols → at S i j ≡ times A.field A.rows (at M) (at R) i j
      = λ i j in_rows in_cols. ap (λ (C : Matrix). at C i j) made ∙ at-product m r i j in_rows in_cols in
      let r_rows = r.rows in
      let r_cols = r.cols in
      let s_rows = s.rows in
      let q_rows = r_reduced.echelon.within in
      let unit : (i k : ℕ) → i < A.rows → k < length q → at M i k ≡ unit_at i k
      = λ i k in_rows pivoted.
      let column : slice_index q k < A.cols = let below = r_reduced.echelon.columns k pivoted in omega (arith, below, r_cols) in
      let in_square : k < A.rows = omega (arith, pivoted, q_rows, r_rows) in
      sym (times-unit_col A.field laws A.rows (at M) (at R) i (slice_index q k) k in_square
      (λ t below. r_reduced.units t k (omega (arith, below, r_rows)) pivoted) (IsElement-shape m i k in_rows in_square))
      ∙ sym (entry i (slice_index q k) in_rows column)
      ∙ s_reduced.units i k (omega (arith, in_rows, s_rows)) pivoted in
      same_entries s r (λ i j in_rows in_cols.
      entry i j in_rows in_cols
      ∙ sum_below-same A.rows (λ t. mul A.field (at M i t) (at R t j)) (λ t. mul A.field (unit_at i t) (at R t j)) (λ t below. ⊎_elim
      (λ (pivoted : t < length q). ap (λ (x : ℕ). mul A.field x (at R t j)) (unit i t in_rows pivoted))
      (λ (rest : length q ≤ t).
      let none : at R t j ≡ 0 = r_reduced.echelon.below t j rest (omega (arith, below, r_rows)) (omega (arith, in_cols, r_cols)) in
      ap (mul A.field (at M i t)) none ∙ laws.annihilates (at M i t)
      ∙ sym (ap (mul A.field (unit_at i t)) none ∙ laws.annihilates (unit_at i t)))
      (cases_lt t (length q)))
      ∙ times-unit_row A.field laws A.rows unit_at (at R) i j i in_rows (λ t below. refl) (IsElement-shape r i j in_rows in_cols))

  -- there is at most one reduced form
  pub same_reduced : (R S : Matrix) → IsReduced R A → IsReduced S A → R ≡ S
  same_reduced R S first second =
      let lists : first.pivots ≡ second.pivots
      = same_pivots A first.pivots second.pivots (pivots_of_reduced R first) (pivots_of_reduced S second) in
      let reduced : Reduced S first.pivots = subst (Reduced S) (sym lists) second.reduced in
      sym (reduced_same R S (product second.to first.back) first.pivots first.shape second.shape
      (HasShape-product second.to_shape first.back_shape laws) first.reduced reduced
      (second.made ∙ ap (product second.to) first.unmade ∙ sym (product_assoc laws second.to_shape first.back_shape first.shape)))
