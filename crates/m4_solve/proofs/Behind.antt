-- The triangle of the pivot columns is solved over the columns behind those pivots that stand in their own places.
use Rattle.std.proofs.Common.{◌≡◌, ℕ, ◌+◌, ◌-◌, ◌<◌, ◌≤◌, eqb, ltb, cond, inl, inr, refl, sym, ◌∙◌, ap, ap₂, subst, arith, List, length, slice_index}
use Rattle.std.proofs.lemmas.Bool.{cases_lt, cases_order, cond-true, cond-false, eq-eqb, ne_eqb, lt-ltb, le-ltb}
use Rattle.m4_model.specs.Field.{Field}
use Rattle.m4_model.specs.Matrix.{Matrix, HasShape, at, product}
use Rattle.m4_model.specs.Shapes.{beside, cut}
use Rattle.m4_model.specs.Forms.{Echelon}
use Rattle.m4_model.proofs.FieldLaws.{FieldLaws}
use Rattle.m4_model.proofs.ProductLemmas.{times, times-same, times-zero_row, times-unit_col, unit_at, unit_at-other}
use Rattle.m4_model.proofs.ShapeLemmas.{IsField-shape, IsElement-shape, at-matrix_of, at-product}
use Rattle.m4_model.proofs.BlockLemmas.{at-beside_left, at-beside_right}
use Rattle.m4_model.proofs.CutLemmas.{at-cut, HasShape-cut}
use Rattle.m4_model.proofs.EchelonLemmas.{pivot_below}
use Rattle.m4_trsm.specs.Triangles.{inside, unit_upper}
use Rattle.m4_trsm.specs.declared.side.Side.TheVariants.{Upper}
use Rattle.m4_trsm.proofs.Triangles.{triangle_is, HasShape-triangle}

module _ (F : Field) (laws : FieldLaws F) (m n : ℕ) (E R T : Matrix) (q : List ℕ) (e : HasShape F m n E) (t_shape : HasShape F (length q) (length q) T)
    (form : Echelon E q) (ones : (i : ℕ) → i < length q → at E i (slice_index q i) ≡ 1)
    (gathered : (i s : ℕ) → i < length q → s < length q → at T i s ≡ at E i (slice_index q s)) (done : ℕ) (few : done ≤ length q)
    (places : (s : ℕ) → s < done → slice_index q s ≡ s) (units : (i j : ℕ) → i < m → j < done → at R i j ≡ unit_at i j) where
  in_rows : length q ≤ m
  in_rows = let within = form.within in let rows = e.rows in omega (arith, within, rows)

  pivot_in : (t : ℕ) → t < length q → slice_index q t < n
  pivot_in t inside = let low = form.columns t inside in let cols = e.cols in omega (arith, low, cols)

  zero_below : (i j : ℕ) → length q ≤ i → i < m → j < n → at E i j ≡ 0
  zero_below i j from low within = let rows = e.rows in let cols = e.cols in form.below i j from (omega (arith, low, rows)) (omega (arith, within, cols))

  -- the triangle is the pivot columns
  triangle_entry : (i s : ℕ) → i < length q → s < length q → at (unit_upper T) i s ≡ at E i (slice_index q s)
  triangle_entry i s below within =
      let rows = e.rows in
      let high = in_rows in
      ap (λ (C : Matrix). at C i s) (triangle_is F (IsField-shape e) Upper T (length q) t_shape)
      ∙ at-matrix_of F (length q) (length q) (λ i j. cond (eqb i j) 1 (inside Upper T i j)) i s below within
      ∙ elim (cases_order i s) [
        | inl same ↦ cond-true (eqb i s) _ _ (eq-eqb i s same) ∙ sym (ones i below) ∙ ap (λ (s : ℕ). at E i (slice_index q s)) same
        | inr other ↦ elim other [
          | inl over ↦
              cond-false (eqb i s) _ _ (ne_eqb i s (λ same. absurd (omega (arith, same, over))))
              ∙ cond-true (ltb i s) _ _ (lt-ltb i s over) ∙ gathered i s below within
          | inr under ↦
              cond-false (eqb i s) _ _ (ne_eqb i s (λ same. absurd (omega (arith, same, under))))
              ∙ cond-false (ltb i s) _ _ (le-ltb i s (omega (arith, under)))
              ∙ sym (pivot_below E (subst FieldLaws (sym e.over) laws) e.is_matrix q form i s under (omega (arith, below, high, rows)) within)
        ]
      ]

  -- the echelon form is its pivot columns times what is left
  pub made_behind : ((i j : ℕ) → i < length q → done ≤ j → j < n → at E i j ≡ times F (length q) (at (unit_upper T)) (at R) i j)
      → (i j : ℕ) → i < m → j < n → at E i j ≡ times F (length q) (λ i t. at E i (slice_index q t)) (at R) i j
  made_behind solved i j low within = elim (cases_lt i (length q)) [
    | inr past ↦
        zero_below i j past low within
        ∙ sym (times-zero_row F laws (length q) (λ i t. at E i (slice_index q t)) (at R) i j (λ t inside. zero_below i (slice_index q t) past low (pivot_in t inside)))
    | inl below ↦ elim (cases_lt j done) [
      | inl early ↦
          let high = in_rows in
          ap (at E i) (sym (places j early))
          ∙ sym (times-unit_col F laws (length q) (λ i t. at E i (slice_index q t)) (at R) i j j (omega (arith, early, few))
          (λ t inside. units t j (omega (arith, inside, high)) early)
          (IsElement-shape e i (slice_index q j) low (pivot_in j (omega (arith, early, few)))))
      | inr late ↦
          solved i j below late within
          ∙ times-same F (length q) (at (unit_upper T)) (at R) (λ i t. at E i (slice_index q t)) (at R) i j i j
          (λ t inside. triangle_entry i t below inside) (λ t inside. refl)
    ]
  ]

  -- its rows past the rank are zero
  pub zero_behind : ((i j : ℕ) → length q ≤ i → i < m → done ≤ j → j < n → at R i j ≡ at E i j) → (i j : ℕ) → length q ≤ i → i < m → j < n → at R i j ≡ 0
  zero_behind rest i j from low within = elim (cases_lt j done) [
    | inl early ↦ units i j low early ∙ unit_at-other i j (λ same. absurd (omega (arith, same, early, from, few)))
    | inr late ↦ rest i j from low late within ∙ zero_below i j from low within
  ]

-- Before column k, V is L. Behind it the triangle of T times the first r rows of V is those rows of W, and the other rows are W's.
pub record IsSolvedBehind (F : Field) (r m k n : ℕ) (T W L V : Matrix) : Type 0 where
  pub before : (i j : ℕ) → i < m → j < k → at V i j ≡ at L i j
  pub solved : (i j : ℕ) → i < r → k ≤ j → j < k + n → at W i j ≡ times F r (at (unit_upper T)) (at V) i j
  pub rest : (i j : ℕ) → r ≤ i → i < m → k ≤ j → j < k + n → at V i j ≡ at W i j

-- Columns behind column k, where the first r rows of Y become X with the triangle of T times X those rows.
module _ (F : Field) (laws : FieldLaws F) (r m k n : ℕ) (T W L Y X V : Matrix) (t : HasShape F r r T) (l : HasShape F m k L) (y : HasShape F m n Y) (x : HasShape F m n X)
    (l0 : Matrix) (before : HasShape F m k l0) (within : r ≤ m) (old : beside l0 Y ≡ W) (new : V ≡ beside L X)
    (solved : product (unit_upper T) (cut X 0 0 r X.cols) ≡ cut Y 0 0 r Y.cols) where
  -- entries behind the column
  at-old : (i j : ℕ) → i < m → k ≤ j → j < k + n → at W i j ≡ at Y i (j - k)
  at-old i j low from inside =
      let place : k + (j - k) ≡ j = omega (arith, from) in
      ap (λ (C : Matrix). at C i j) (sym old) ∙ ap (at (beside l0 Y) i) (sym place) ∙ at-beside_right before y i (j - k) low (omega (arith, from, inside))

  at-new : (i j : ℕ) → i < m → k ≤ j → j < k + n → at V i j ≡ at X i (j - k)
  at-new i j low from inside =
      let place : k + (j - k) ≡ j = omega (arith, from) in
      ap (λ (C : Matrix). at C i j) new ∙ ap (at (beside L X) i) (sym place) ∙ at-beside_right l x i (j - k) low (omega (arith, from, inside))

  before_joined : (i j : ℕ) → i < m → j < k → at V i j ≡ at L i j
  before_joined i j low inside = ap (λ (C : Matrix). at C i j) new ∙ at-beside_left l x i j low inside

  rest_joined : ((i j : ℕ) → r ≤ i → i < m → j < n → at X i j ≡ at Y i j) → (i j : ℕ) → r ≤ i → i < m → k ≤ j → j < k + n → at V i j ≡ at W i j
  rest_joined rest i j past low from inside = at-new i j low from inside ∙ rest i (j - k) past low (omega (arith, from, inside)) ∙ sym (at-old i j low from inside)

  solved_joined : (i j : ℕ) → i < r → k ≤ j → j < k + n → at W i j ≡ times F r (at (unit_upper T)) (at V) i j
  solved_joined i j below from inside =
      let x_cols = x.cols in
      let y_cols = y.cols in
      let short : j - k < n = omega (arith, from, inside) in
      let triangle : HasShape F r r (unit_upper T)
      = subst (HasShape F r r) (sym (triangle_is F (IsField-shape t) Upper T r t)) (HasShape-triangle F (IsField-shape t) Upper T r t) in
      let top : HasShape F r n (cut X 0 0 r X.cols) = HasShape-cut x 0 0 r X.cols r n (omega arith) (omega (arith, x_cols)) within (omega (arith, x_cols)) in
      let first : (C : Matrix) (s u : ℕ) → at C (0 + s) (0 + u) ≡ at C s u
      = λ C s u. let row : 0 + s ≡ s = omega arith in let col : 0 + u ≡ u = omega arith in ap₂ (at C) row col in
      at-old i j (omega (arith, below, within)) from inside
      ∙ sym (at-cut Y 0 0 r Y.cols r n (omega arith) (omega (arith, y_cols)) i (j - k) below short ∙ first Y i (j - k))
      ∙ ap (λ (C : Matrix). at C i (j - k)) (sym solved)
      ∙ at-product triangle top i (j - k) below short
      ∙ times-same F r (at (unit_upper T)) (at (cut X 0 0 r X.cols)) (at (unit_upper T)) (at V) i (j - k) i j (λ s row. refl)
      (λ s row.
      at-cut X 0 0 r X.cols r n (omega arith) (omega (arith, x_cols)) s (j - k) row short ∙ first X s (j - k)
      ∙ sym (at-new s j (omega (arith, row, within)) from inside))

  pub is_solved_behind : ((i j : ℕ) → r ≤ i → i < m → j < n → at X i j ≡ at Y i j) → IsSolvedBehind F r m k n T W L V
  is_solved_behind rest = record { before = before_joined; solved = solved_joined; rest = rest_joined rest }
