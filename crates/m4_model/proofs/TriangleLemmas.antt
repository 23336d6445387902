-- The inverse of a factor with ones on its diagonal and zeros above it.
use Rattle.std.proofs.Common.{◌≡◌, ℕ, zero, suc, ◌+◌, ◌<◌, ◌≤◌, ⊎_elim, refl, sym, ◌∙◌, ap, ap₂, arith, bit_xor, if◌then◌else◌, ◌==◌}
use Rattle.std.specs.Int.Bits.{xor_lt, xor_self}
use Rattle.std.proofs.lemmas.Nat.{xor_comm}
use Rattle.std.proofs.lemmas.Bool.{cases_lt, eq-eqb, ne_eqb}
use Rattle.m4_model.specs.Field.{Field, IsField, IsElement, sum_below, mul}
use Rattle.m4_model.specs.Matrix.{Matrix, HasShape, at, matrix_of, identity, product}
use Rattle.m4_model.specs.Factors.{IsUnitLower}
use Rattle.m4_model.proofs.FieldLaws.{FieldLaws}
use Rattle.m4_model.proofs.FieldLemmas.{sum_below-same, sum_below-lt, sum_below-more}
use Rattle.m4_model.proofs.Polynomials.{xor_twice, xor_zero_equal}
use Rattle.m4_model.proofs.SumLemmas.{sum_below-short, mul-zero_left}
use Rattle.m4_model.proofs.ProductLemmas.{times, times-same, times_assoc, times-xor_right, times-unit_row, times-unit_col, unit_at, IsElement-times}
use Rattle.m4_model.proofs.DependenceLemmas.{unit_lower-zero}
use Rattle.m4_model.proofs.ShapeLemmas.{IsField-shape, IsElement-shape, HasShape-matrix_of, at-matrix_of, same_entries, at-product, HasShape-product, at-identity}
use Rattle.m4_model.proofs.RingLemmas.{IsElement-unit_at, HasShape-one}

-- the first k rows of the inverse: row i is row i of the identity less the multiples by row i of the rows before it
pub solved_rows : Field → (ℕ → ℕ → ℕ) → ℕ → ℕ → ℕ → ℕ
solved_rows F left zero i j = 0
solved_rows F left (suc k) i j =
    if i == k then bit_xor (unit_at k j) (sum_below k (λ s. mul F (left k s) (solved_rows F left k s j))) else solved_rows F left k i j

module _ (F : Field) (left : ℕ → ℕ → ℕ) where
  -- a further row leaves the earlier ones
  solved-earlier : (k i j : ℕ) → i < k → solved_rows F left (suc k) i j ≡ solved_rows F left k i j
  unfolding solved_rows
  solved-earlier k i j before = rw (ne_eqb i k (λ same. absurd (omega (arith, same, before)))) refl

  solved-last : (k j : ℕ) → solved_rows F left (suc k) k j ≡ bit_xor (unit_at k j) (sum_below k (λ s. mul F (left k s) (solved_rows F left k s j)))
  unfolding solved_rows
  solved-last k j = rw (eq-eqb k k refl) refl

  -- what each row solves
  pub solved : (k i j : ℕ) → i < k
      → solved_rows F left k i j ≡ bit_xor (unit_at i j) (sum_below i (λ s. mul F (left i s) (solved_rows F left k s j)))
  solved zero i j before = absurd (omega (arith, before))
  solved (suc k) i j before =
      let kept : (n : ℕ) → n ≤ k → sum_below n (λ s. mul F (left i s) (solved_rows F left k s j)) ≡ sum_below n (λ s. mul F (left i s) (solved_rows F left (suc k) s j))
      = λ n most. sum_below-same n (λ s. mul F (left i s) (solved_rows F left k s j)) (λ s. mul F (left i s) (solved_rows F left (suc k) s j))
      (λ s below. ap (mul F (left i s)) (sym (solved-earlier k s j (omega (arith, below, most))))) in
      ⊎_elim
      (λ (sooner : i < k).
      solved-earlier k i j sooner ∙ solved k i j sooner ∙ ap (bit_xor (unit_at i j)) (kept i (omega (arith, sooner))))
      (λ (last : k ≤ i).
      let same : i ≡ k = omega (arith, last, before) in
      at_last i same kept)
      (cases_lt i k)
    where
      at_last : (i : ℕ) → i ≡ k
          → ((n : ℕ) → n ≤ k → sum_below n (λ s. mul F (left i s) (solved_rows F left k s j)) ≡ sum_below n (λ s. mul F (left i s) (solved_rows F left (suc k) s j)))
          → solved_rows F left (suc k) i j ≡ bit_xor (unit_at i j) (sum_below i (λ s. mul F (left i s) (solved_rows F left (suc k) s j)))
      at_last i same kept =
          ap (λ (i : ℕ). solved_rows F left (suc k) i j) same
          ∙ solved-last k j
          ∙ ap (λ (i : ℕ). bit_xor (unit_at i j) (sum_below i (λ s. mul F (left i s) (solved_rows F left k s j)))) (sym same)
          ∙ ap (bit_xor (unit_at i j)) (kept i (omega (arith, same)))

module _ (F : Field) (field : IsField F) (laws : FieldLaws F) (m : ℕ) (left : ℕ → ℕ → ℕ) (ones : (i : ℕ) → i < m → left i i ≡ 1)
    (above : (i s : ℕ) → i < s → s < m → left i s ≡ 0) (elements : (i s : ℕ) → i < m → s < m → IsElement F (left i s)) where
  -- its entries are elements
  solved-element : (k i j : ℕ) → k ≤ m → i < k → IsElement F (solved_rows F left k i j)
  solved-element zero i j most before = absurd (omega (arith, before))
  solved-element (suc k) i j most before = ⊎_elim
      (λ (sooner : i < k). rw (solved-earlier F left k i j sooner) (solved-element k i j (omega (arith, most)) sooner))
      (λ (last : k ≤ i).
      let same : i ≡ k = omega (arith, last, before) in
      rw (same, solved-last F left k j) (xor_lt F.degree (unit_at k j) (sum_below k (λ s. mul F (left k s) (solved_rows F left k s j)))
      (IsElement-unit_at F field k j)
      (sum_below-lt F.degree k (λ s. mul F (left k s) (solved_rows F left k s j)) (λ s below.
      laws.closed (left k s) (solved_rows F left k s j) (elements k s (omega (arith, most)) (omega (arith, most, below)))
      (solved-element k s j (omega (arith, most)) below)))))
      (cases_lt i k)

  -- it is an inverse on the right
  solved-right : (i j : ℕ) → i < m → times F m left (solved_rows F left m) i j ≡ unit_at i j
  solved-right i j below =
      sum_below-short (i + 1) m (λ s. mul F (left i s) (solved_rows F left m s j)) (omega (arith, below))
      (λ s from within. ap (λ (x : ℕ). mul F x (solved_rows F left m s j)) (above i s (omega (arith, from)) within) ∙ mul-zero_left F laws (solved_rows F left m s j))
      ∙ sum_below-more i (λ s. mul F (left i s) (solved_rows F left m s j))
      ∙ ap (bit_xor (sum_below i (λ s. mul F (left i s) (solved_rows F left m s j))))
      (ap (λ (x : ℕ). mul F x (solved_rows F left m i j)) (ones i below)
      ∙ laws.unit (solved_rows F left m i j) (solved-element m i j (omega arith) below)
      ∙ solved F left m i j below
      ∙ xor_comm (unit_at i j) (sum_below i (λ s. mul F (left i s) (solved_rows F left m s j))))
      ∙ xor_twice (sum_below i (λ s. mul F (left i s) (solved_rows F left m s j))) (unit_at i j)

  -- and on the left
  solved-left : (i j : ℕ) → i < m → j < m → times F m (solved_rows F left m) left i j ≡ unit_at i j
  solved-left i j below within =
      let left_in : (s : ℕ) → s < m → IsElement F (times F m (solved_rows F left m) left s j)
      = λ s inside. IsElement-times F laws m (solved_rows F left m) left s j
      (λ t under. solved-element m s t (omega arith) inside) (λ t under. elements t j under within) in
      let none : (s : ℕ) → s < m → sum_below m (λ t. mul F (left s t) (bit_xor (times F m (solved_rows F left m) left t j) (unit_at t j))) ≡ 0
      = λ s inside.
      times-xor_right F laws m left (times F m (solved_rows F left m) left) unit_at s j
      ∙ ap₂ bit_xor
      (sym (times_assoc F laws m m left (solved_rows F left m) left s j)
      ∙ times-unit_row F laws m (times F m left (solved_rows F left m)) left s j s inside
      (λ t under. solved-right s t inside) (elements s j inside within))
      (times-unit_col F laws m left unit_at s j j within (λ t under. refl) (elements s j inside within))
      ∙ xor_self (left s j) in
      xor_zero_equal (times F m (solved_rows F left m) left i j) (unit_at i j)
      (unit_lower-zero F laws m left (λ s. bit_xor (times F m (solved_rows F left m) left s j) (unit_at s j)) ones above
      (λ s inside. xor_lt F.degree (times F m (solved_rows F left m) left s j) (unit_at s j) (left_in s inside) (IsElement-unit_at F field s j))
      none m i below below)

-- a unit lower factor has an inverse
pub inverse_of_unit_lower : {F : Field} {m : ℕ} (r : ℕ) (L : Matrix) → FieldLaws F → HasShape F m m L → IsUnitLower r L
    → (N : Matrix) × HasShape F m m N × (product L N ≡ identity F m) × (product N L ≡ identity F m)
inverse_of_unit_lower {F} {m} r L laws shape form =
    let field : IsField F = IsField-shape shape in
    let rows = shape.rows in
    let cols = shape.cols in
    let ones : (i : ℕ) → i < m → at L i i ≡ 1 = λ i below. form.diagonal i (omega (arith, below)) in
    let above : (i s : ℕ) → i < s → s < m → at L i s ≡ 0 = λ i s later below. form.above i s later (omega (arith, below)) in
    let elements : (i s : ℕ) → i < m → s < m → IsElement F (at L i s) = IsElement-shape shape in
    let made : HasShape F m m (matrix_of F m m (solved_rows F (at L) m))
    = HasShape-matrix_of F m m (solved_rows F (at L) m) field (λ i j below within. solved-element F field laws m (at L) ones above elements m i j (omega arith) below) in
    let entry : (i j : ℕ) → i < m → j < m → at (matrix_of F m m (solved_rows F (at L) m)) i j ≡ solved_rows F (at L) m i j
    = λ i j below within. at-matrix_of F m m (solved_rows F (at L) m) i j below within in
    let one = HasShape-one F m field in (
      matrix_of F m m (solved_rows F (at L) m),
      made,
      same_entries (HasShape-product shape made laws) one (λ i j below within.
          at-product shape made i j below within
          ∙ times-same F m (at L) (at (matrix_of F m m (solved_rows F (at L) m))) (at L) (solved_rows F (at L) m) i j i j
          (λ t under. refl) (λ t under. entry t j under within)
          ∙ solved-right F field laws m (at L) ones above elements i j below
          ∙ sym (at-identity F m i j below within)),
      same_entries (HasShape-product made shape laws) one (λ i j below within.
          at-product made shape i j below within
          ∙ times-same F m (at (matrix_of F m m (solved_rows F (at L) m))) (at L) (solved_rows F (at L) m) (at L) i j i j
          (λ t under. entry i t below under) (λ t under. refl)
          ∙ solved-left F field laws m (at L) ones above elements i j below within
          ∙ sym (at-identity F m i j below within)),
    )
