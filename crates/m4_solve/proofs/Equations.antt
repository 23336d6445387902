-- Equations A X = B whose matrix was factored: the right sides are brought up to L, and E is solved by its pivot columns.
use Rattle.std.proofs.Common.{◌≡◌, ◌≢◌, ℕ, ◌+◌, ◌-◌, ◌<◌, ◌≤◌, leb, inl, inr, refl, sym, ◌∙◌, ap, ap₂, subst, arith, bit_xor, List, length, slice_index}
use Rattle.std.proofs.lemmas.Nat.{xor_comm}
use Rattle.std.proofs.lemmas.Bool.{cases_lt, cases_order, cond-true, cond-false, le-leb, lt-leb}
use Rattle.m4_model.specs.Field.{Field, mul}
use Rattle.m4_model.specs.Matrix.{Matrix, IsMatrix, HasShape, at, added, identity, product}
use Rattle.m4_model.specs.Shapes.{cut}
use Rattle.m4_model.specs.Rank.{IsFree, IsRising, ArePivots}
use Rattle.m4_model.specs.Forms.{IsSolution, NoSolution}
use Rattle.m4_model.specs.Step.{reordered, upper_triangle, lower_rows}
use Rattle.m4_model.proofs.FieldLaws.{FieldLaws}
use Rattle.m4_model.proofs.SumLemmas.{sum_below-short, xor_off, mul-zero_left}
use Rattle.m4_model.proofs.ProductLemmas.{times, times-same, times-split, times_assoc, times-zero_row, times-unit_row, times-unit_col, unit_at, unit_at-same, unit_at-other}
use Rattle.m4_model.proofs.ShapeLemmas.{HasShape-own, IsElement-shape, same_entries, at-added, at-product, HasShape-product}
use Rattle.m4_model.proofs.RingLemmas.{product_assoc, product-identity_left}
use Rattle.m4_model.proofs.BlockLemmas.{same_rows, at-picked_rows, HasShape-picked_rows}
use Rattle.m4_model.proofs.CutLemmas.{at-cut, HasShape-cut}
use Rattle.m4_model.proofs.EchelonLemmas.{place_of}
use Rattle.m4_model.proofs.ExchangeLemmas.{rising-at_least}
use Rattle.m4_model.proofs.FactorLemmas.{at-stored_upper}
use Rattle.m4_model.proofs.RankLemmas.{pivots_of_ple}
use Rattle.m4_model.proofs.TriangleLemmas.{inverse_of_unit_lower}
use Rattle.m4_ple.specs.Held.{HoldsPle}
use Rattle.m4_eple.specs.Halves.{IsBroughtUp}
use Rattle.m4_solve.specs.Equations.{IsPlaced, IsZeroFrom, upper_entry}
use Rattle.m4_eple.proofs.StepParts.{held_triangle, held_lower}

module _ (A B W Y : Matrix) (p q : List ℕ) (laws : FieldLaws A.field) (is_matrix : IsMatrix A) (b : HasShape A.field A.rows B.cols B)
    (w : HasShape A.field A.rows A.cols W) (y : HasShape A.field A.rows B.cols Y) (holds : HoldsPle A p q W) (in_cols : length q ≤ A.cols)
    (up : IsBroughtUp (length q) W (reordered p B) Y) where
  k : ℕ
  k = A.rows - length q

  in_rows : length q ≤ A.rows
  in_rows = let within = holds.factors.e_form.within in let rows = holds.factors.e_shape.rows in omega (arith, within, rows)

  room : length q + k ≡ A.rows
  unfolding k
  room = omega (arith, in_rows)

  a : HasShape A.field A.rows A.cols A
  a = HasShape-own A is_matrix

  right : HasShape A.field A.rows B.cols (reordered p B)
  right = HasShape-picked_rows b (slice_index p) holds.factors.order.below

  l : HasShape A.field A.rows A.rows holds.l
  l = holds.factors.l_shape

  triangle : HasShape A.field (length q) (length q) (upper_triangle (length q) holds.l)
  triangle = HasShape-cut l 0 0 (length q) (length q) (length q) (length q) (omega arith) (omega arith) in_rows in_rows

  lower : HasShape A.field k (length q) (lower_rows (length q) holds.l)
  lower =
      let rows = l.rows in
      HasShape-cut l (length q) 0 holds.l.rows (length q) k (length q) (omega (arith, room, rows)) (omega arith) (omega (arith, rows)) in_rows

  top : HasShape A.field (length q) B.cols (cut Y 0 0 (length q) Y.cols)
  top =
      let cols = y.cols in
      HasShape-cut y 0 0 (length q) Y.cols (length q) B.cols (omega arith) (omega (arith, cols)) in_rows (omega (arith, cols))

  at-top : (t j : ℕ) → t < length q → j < B.cols → at (cut Y 0 0 (length q) Y.cols) t j ≡ at Y t j
  at-top t j below within =
      let cols = y.cols in
      let row : 0 + t ≡ t = omega arith in
      let col : 0 + j ≡ j = omega arith in
      at-cut Y 0 0 (length q) Y.cols (length q) B.cols (omega arith) (omega (arith, cols)) t j below within ∙ ap₂ (at Y) row col

  -- the first rows
  upper_rows : (i j : ℕ) → i < length q → j < B.cols → at (product holds.l Y) i j ≡ at (reordered p B) i j
  upper_rows i j below within =
      let cols = l.cols in
      let row : 0 + i ≡ i = omega arith in
      let col : 0 + j ≡ j = omega arith in
      let wide = b.cols in
      let tri = held_triangle W holds.l holds.e q (length q) w l holds.factors.e_shape holds.factors.l_form holds.stored refl in_rows in_cols is_matrix.over_field in
      at-product l y i j (omega (arith, below, in_rows)) within
      ∙ sum_below-short (length q) A.rows (λ t. mul A.field (at holds.l i t) (at Y t j)) in_rows (λ t from inside.
      ap (λ (x : ℕ). mul A.field x (at Y t j)) (holds.factors.l_form.above i t (omega (arith, from, below)) (omega (arith, inside, cols)))
      ∙ mul-zero_left A.field laws (at Y t j))
      ∙ times-same A.field (length q) (at holds.l) (at Y) (at (upper_triangle (length q) holds.l)) (at (cut Y 0 0 (length q) Y.cols)) i j i j
      (λ t inside. let t_col : 0 + t ≡ t = omega arith in
      sym (at-cut holds.l 0 0 (length q) (length q) (length q) (length q) (omega arith) (omega arith) i t below inside ∙ ap₂ (at holds.l) row t_col))
      (λ t inside. sym (at-top t j inside within))
      ∙ sym (at-product triangle top i j below within)
      ∙ ap (λ (T : Matrix). at (product T (cut Y 0 0 (length q) Y.cols)) i j) (sym tri)
      ∙ ap (λ (C : Matrix). at C i j) up.solved
      ∙ at-cut (reordered p B) 0 0 (length q) B.cols (length q) B.cols (omega arith) (omega arith) i j below within
      ∙ ap₂ (at (reordered p B)) row col

  -- the others
  lower_part : (i j : ℕ) → i < k → j < B.cols → at (product holds.l Y) (length q + i) j ≡ at (reordered p B) (length q + i) j
  lower_part i j below within =
      let rows = l.rows in
      let y_rows = y.rows in
      let y_cols = y.cols in
      let b_rows = b.rows in
      let col : 0 + j ≡ j = omega arith in
      let low = held_lower W holds.l holds.e q (length q) w l holds.factors.e_shape holds.factors.l_form holds.stored refl in_rows in_cols is_matrix.over_field in
      let right_low : HasShape A.field k B.cols (cut (reordered p B) (length q) 0 B.rows B.cols)
      = HasShape-cut right (length q) 0 B.rows B.cols k B.cols (omega (arith, room, b_rows)) (omega arith) (omega (arith, b_rows)) (omega arith) in
      let image : ℕ = times A.field (length q) (at (lower_rows (length q) holds.l)) (at (cut Y 0 0 (length q) Y.cols)) i j in
      let here : ℕ = at (reordered p B) (length q + i) j in
      let rest : at Y (length q + i) j ≡ bit_xor here image
      = sym (at-cut Y (length q) 0 Y.rows Y.cols k B.cols (omega (arith, room, y_rows)) (omega (arith, y_cols)) i j below within ∙ ap (at Y (length q + i)) col)
      ∙ ap (λ (C : Matrix). at C i j) up.rest
      ∙ ap (λ (C : Matrix). at (added (cut (reordered p B) (length q) 0 B.rows B.cols) (product C (cut Y 0 0 (length q) Y.cols))) i j) low
      ∙ at-added right_low (HasShape-product lower top laws) i j below within
      ∙ ap₂ bit_xor
      (at-cut (reordered p B) (length q) 0 B.rows B.cols k B.cols (omega (arith, room, b_rows)) (omega arith) i j below within ∙ ap (at (reordered p B) (length q + i)) col)
      (at-product lower top i j below within) in
      at-product l y (length q + i) j (omega (arith, below, room)) within
      ∙ ap (λ (n : ℕ). times A.field n (at holds.l) (at Y) (length q + i) j) (sym room)
      ∙ times-split A.field laws (length q) k (at holds.l) (at Y) (length q + i) j
      ∙ ap₂ bit_xor
      (times-same A.field (length q) (at holds.l) (at Y) (at (lower_rows (length q) holds.l)) (at (cut Y 0 0 (length q) Y.cols)) (length q + i) j i j
      (λ t inside. let t_col : 0 + t ≡ t = omega arith in
      sym (at-cut holds.l (length q) 0 holds.l.rows (length q) k (length q) (omega (arith, room, rows)) (omega arith) i t below inside ∙ ap (at holds.l (length q + i)) t_col))
      (λ t inside. sym (at-top t j inside within)))
      (times-unit_row A.field laws k (λ s t. at holds.l s (length q + t)) (λ t s. at Y (length q + t) s) (length q + i) j i below
      (λ t inside. l_rest i t below inside)
      (IsElement-shape y (length q + i) j (omega (arith, below, room)) within)
      ∙ rest)
      ∙ xor_comm image (bit_xor here image)
      ∙ xor_off here image
    where
      l_rest : (i t : ℕ) → i < k → t < k → at holds.l (length q + i) (length q + t) ≡ unit_at i t
      l_rest i t below inside =
          let rows = l.rows in
          let cols = l.cols in
          elim (cases_order i t) [
            | inl same ↦ ap (λ (t : ℕ). at holds.l (length q + i) (length q + t)) (sym same)
                ∙ holds.factors.l_form.diagonal (length q + i) (omega (arith, below, room, rows)) ∙ sym (unit_at-same i t same)
            | inr other ↦ elim other [
              | inl over ↦ holds.factors.l_form.above (length q + i) (length q + t) (omega (arith, over)) (omega (arith, inside, room, cols))
                  ∙ sym (unit_at-other i t (λ same. absurd (omega (arith, same, over))))
              | inr under ↦ holds.factors.l_form.rest (length q + i) (length q + t) (omega arith) (omega (arith, under)) (omega (arith, below, room, rows))
                  ∙ sym (unit_at-other i t (λ same. absurd (omega (arith, same, under))))
            ]
          ]

  -- the right sides in the order of the rows are L times what they were brought up to
  pub brought : product holds.l Y ≡ reordered p B
  brought =
      let ly = HasShape-product l y laws in
      same_rows (subst (λ (m : ℕ). HasShape A.field m B.cols (product holds.l Y)) (sym room) ly)
      (subst (λ (m : ℕ). HasShape A.field m B.cols (reordered p B)) (sym room) right) upper_rows lower_part

  e : HasShape A.field A.rows A.cols holds.e
  e = holds.factors.e_shape

  -- rows of E from the rank on
  zero_below : (i t : ℕ) → length q ≤ i → i < A.rows → t < A.cols → at holds.e i t ≡ 0
  zero_below i t low below within =
      let rows = e.rows in
      let cols = e.cols in
      holds.factors.e_form.below i t low (omega (arith, below, rows)) (omega (arith, within, cols))

  module _ (X : Matrix) (x : HasShape A.field A.cols B.cols X) where
    ex : HasShape A.field A.rows B.cols (product holds.e X)
    ex = HasShape-product e x laws

    -- what A makes of X, in the order of the rows
    image : (i j : ℕ) → i < A.rows → j < B.cols → at (product A X) (slice_index p i) j ≡ at (product holds.l (product holds.e X)) i j
    image i j below within =
        at-product a x (slice_index p i) j (holds.factors.order.below i below) within
        ∙ times-same A.field A.cols (at A) (at X) (at (product holds.l holds.e)) (at X) (slice_index p i) j i j
        (λ t inside. holds.factors.rows i t below inside) (λ t inside. refl)
        ∙ sym (at-product (HasShape-product l e laws) x i j below within)
        ∙ ap (λ (C : Matrix). at C i j) (product_assoc laws l e x)

    in_order : (i j : ℕ) → i < A.rows → j < B.cols → at (product holds.l Y) i j ≡ at B (slice_index p i) j
    in_order i j below within = ap (λ (C : Matrix). at C i j) brought ∙ at-picked_rows b (slice_index p) i j below within

    -- where E makes Y of X, A makes B of it
    pub solves_from : product holds.e X ≡ Y → product A X ≡ B
    solves_from solved = same_entries (HasShape-product a x laws) b (λ i j below within.
        let found = holds.factors.order.onto i below in
        subst (λ (i : ℕ). at (product A X) i j ≡ at B i j) found.2
        (image found.0 j found.1 within ∙ ap (λ (C : Matrix). at (product holds.l C) found.0 j) solved ∙ in_order found.0 j found.1 within))

    -- and the other way round
    pub solves_to : product A X ≡ B → product holds.e X ≡ Y
    solves_to solves =
        let inverse = inverse_of_unit_lower (length q) holds.l laws l holds.factors.l_form in
        let same : product holds.l (product holds.e X) ≡ product holds.l Y
        = same_entries (HasShape-product l ex laws) (HasShape-product l y laws) (λ i j below within.
        sym (image i j below within) ∙ ap (λ (C : Matrix). at C (slice_index p i) j) solves ∙ sym (in_order i j below within)) in
        cancel inverse.0 inverse.1 inverse.3 same
      where
        cancel : (N : Matrix) → HasShape A.field A.rows A.rows N → product N holds.l ≡ identity A.field A.rows
            → product holds.l (product holds.e X) ≡ product holds.l Y → product holds.e X ≡ Y
        cancel N n left same =
            sym (product-identity_left laws ex)
            ∙ ap (λ (C : Matrix). product C (product holds.e X)) (sym left)
            ∙ product_assoc laws n l ex
            ∙ ap (product N) same
            ∙ sym (product_assoc laws n l y)
            ∙ ap (λ (C : Matrix). product C Y) left
            ∙ product-identity_left laws y

  -- an entry that isn't zero past the rank leaves no solution
  pub no_solution_left : (i j : ℕ) → length q ≤ i → i < A.rows → j < B.cols → at Y i j ≢ 0 → NoSolution A B
  no_solution_left i j low below within some X x solves =
      some (ap (λ (C : Matrix). at C i j) (sym (solves_to X x solves))
      ∙ at-product e x i j below within
      ∙ times-zero_row A.field laws A.cols (at holds.e) (at X) i j (λ t inside. zero_below i t low below inside))

  are_pivots : ArePivots A q
  are_pivots = pivots_of_ple A p q (length q) holds.l holds.e laws is_matrix holds.factors

  rising : IsRising q
  rising = holds.factors.e_form.rising

  pivot_in : (s : ℕ) → s < length q → slice_index q s < A.cols
  pivot_in s inside = are_pivots.columns s inside

  -- E at its pivots
  at_pivots : (i s : ℕ) → i < length q → s < length q → at holds.e i (slice_index q s) ≡ upper_entry W q i s
  at_pivots i s below inside = elim (cases_lt s i) [
    | inl under ↦
        holds.factors.e_form.before i (slice_index q s) below (rising s i under below)
        ∙ sym (cond-false (leb i s) (at W i (slice_index q s)) 0 (lt-leb i s under))
    | inr over ↦
        let least : i ≤ slice_index q s = let h = rising-at_least q s rising inside in omega (arith, h, over) in
        sym (at-stored_upper e q holds.l W holds.stored i (slice_index q s) (omega (arith, below, in_rows)) (pivot_in s inside) below least (from i s over inside))
        ∙ sym (cond-true (leb i s) (at W i (slice_index q s)) 0 (le-leb i s over))
  ]
    where
      from : (i s : ℕ) → i ≤ s → s < length q → slice_index q i ≤ slice_index q s
      from i s over inside = elim (cases_order i s) [
        | inl same ↦ subst (λ (s : ℕ). slice_index q i ≤ slice_index q s) same (omega arith)
        | inr other ↦ elim other [
          | inl before ↦ let h = rising i s before inside in omega (arith, h)
          | inr after ↦ absurd (omega (arith, after, over))
        ]
      ]

  module _ (Z X : Matrix) (z : HasShape A.field A.rows B.cols Z) (x : IsPlaced Z q A.cols X)
      (solved : (i j : ℕ) → i < length q → j < B.cols → at Y i j ≡ times A.field (length q) (upper_entry W q) (at Z) i j) (none_left : IsZeroFrom (length q) Y) where
    pub x_shape : HasShape A.field A.cols B.cols X
    x_shape = subst (λ (F : Field). HasShape F A.cols B.cols X) z.over (subst (λ (n : ℕ). HasShape Z.field A.cols n X) z.cols x.shape)

    -- a one in row q_s of column s
    abbrev place : ℕ → ℕ → ℕ
    place t s = unit_at t (slice_index q s)

    -- two places in the list are the same where their numbers are
    same_units : (s u t : ℕ) → s < length q → u < length q → slice_index q s ≡ t → unit_at t (slice_index q u) ≡ unit_at s u
    same_units s u t inside under here = elim (cases_order s u) [
      | inl same ↦ unit_at-same t (slice_index q u) (sym here ∙ ap (slice_index q) same) ∙ sym (unit_at-same s u same)
      | inr other ↦
          unit_at-other t (slice_index q u) (λ same. elim other [
            | inl before ↦ let h = rising s u before under in absurd (omega (arith, h, here, same))
            | inr after ↦ let h = rising u s after inside in absurd (omega (arith, h, here, same))
          ])
          ∙ sym (unit_at-other s u (λ same. elim other [
            | inl before ↦ absurd (omega (arith, before, same))
            | inr after ↦ absurd (omega (arith, after, same))
          ]))
    ]

    -- X by rows of Z
    placed : (t j : ℕ) → t < A.cols → j < B.cols → at X t j ≡ times A.field (length q) place (at Z) t j
    placed t j below within = elim (place_of q t) [
      | inl found ↦
          let inside = found.1 in
          ap (λ (t : ℕ). at X t j) (sym found.2)
          ∙ x.at_pivot found.0 j found.1 (let h = z.cols in omega (arith, h, within))
          ∙ sym (times-unit_row A.field laws (length q) place (at Z) t j found.0 found.1
          (λ u inside. same_units found.0 u t found.1 inside found.2) (IsElement-shape z found.0 j (omega (arith, inside, in_rows)) within))
      | inr none ↦
          x.elsewhere t j below (let h = z.cols in omega (arith, h, within)) none
          ∙ sym (times-zero_row A.field laws (length q) place (at Z) t j (λ u inside.
          unit_at-other t (slice_index q u) (λ same. none u inside (sym same))))
    ]

    -- E's pivot columns are the triangle
    pivot_columns : (i s : ℕ) → i < length q → s < length q → times A.field A.cols (at holds.e) place i s ≡ upper_entry W q i s
    pivot_columns i s below within =
        times-unit_col A.field laws A.cols (at holds.e) place i s (slice_index q s) (pivot_in s within) (λ t under. refl)
        (IsElement-shape e i (slice_index q s) (omega (arith, below, in_rows)) (pivot_in s within))
        ∙ at_pivots i s below within

    made : product holds.e X ≡ Y
    made = same_entries (HasShape-product e x_shape laws) y (λ i j below within. elim (cases_lt i (length q)) [
      | inl early ↦
          at-product e x_shape i j below within
          ∙ times-same A.field A.cols (at holds.e) (at X) (at holds.e) (times A.field (length q) place (at Z)) i j i j
          (λ t under. refl) (λ t under. placed t j under within)
          ∙ sym (times_assoc A.field laws A.cols (length q) (at holds.e) place (at Z) i j)
          ∙ times-same A.field (length q) (times A.field A.cols (at holds.e) place) (at Z) (upper_entry W q) (at Z) i j i j
          (λ s under. pivot_columns i s early under) (λ s under. refl)
          ∙ sym (solved i j early within)
      | inr late ↦
          at-product e x_shape i j below within
          ∙ times-zero_row A.field laws A.cols (at holds.e) (at X) i j (λ t under. zero_below i t late below under)
          ∙ sym (none_left i j late (let h = y.rows in omega (arith, h, below)) (let h = y.cols in omega (arith, h, within)))
    ])

    -- the solution whose rows at the free columns are zero
    pub solution_left : IsSolution X A B
    solution_left = record {
      shape = x_shape;
      solves = solves_from X x_shape made;
      zeros = λ t j below free within. elim (place_of q t) [
        | inl found ↦ absurd (are_pivots.unfree found.0 found.1 (subst (IsFree A) (sym found.2) free))
        | inr none ↦ x.elsewhere t j below (let h = z.cols in omega (arith, h, within)) none
      ];
    }
