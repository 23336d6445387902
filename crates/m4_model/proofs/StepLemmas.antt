-- The step of a PLE by halves makes a PLE of both halves.
use Rattle.std.proofs.Common.{◌≡◌, ◌≢◌, ℕ, ◌+◌, ◌-◌, ◌<◌, ◌≤◌, ⊎_elim, refl, sym, ◌∙◌, ap, ap₂, subst, arith, bit_xor, List, length, slice_index, map, take, length-append, length-take-le, get_or-take}
use Rattle.std.specs.Int.Bits.{xor_zero_r}
use Rattle.std.proofs.lemmas.Nat.{xor_comm}
use Rattle.std.proofs.lemmas.List.{get_or_append_left, get_or-append_right, get_or-map, length-map}
use Rattle.std.proofs.lemmas.Bool.{cases_lt}
use Rattle.m4_model.specs.Field.{Field, IsField, mul}
use Rattle.m4_model.specs.Matrix.{Matrix, IsMatrix, HasShape, at, zero_matrix, added, product}
use Rattle.m4_model.specs.Shapes.{beside, cut}
use Rattle.m4_model.specs.Forms.{Echelon}
use Rattle.m4_model.specs.Factors.{IsOrder, IsUnitLower, IsPle}
use Rattle.m4_model.specs.Step.{reordered, upper_triangle, lower_rows, remaining, step_order, step_pivots, step_lower, step_echelon}
use Rattle.m4_model.proofs.FieldLaws.{FieldLaws}
use Rattle.m4_model.proofs.SumLemmas.{sum_below-short, xor_off}
use Rattle.m4_model.proofs.ProductLemmas.{times, times-same, times-zero_row, times-zero_col}
use Rattle.m4_model.proofs.ShapeLemmas.{at_shape, IsField-shape, HasShape-own, HasShape-zero_matrix, at-zero_matrix, at-added, HasShape-added, at-product, HasShape-product}
use Rattle.m4_model.proofs.BlockLemmas.{at-beside_left, at-beside_right, at-picked_rows, HasShape-picked_rows, HasShape-quarters, at-quarters_11, at-quarters_12, at-quarters_21, at-quarters_22, by_quarters, product-quarters}
use Rattle.m4_model.proofs.CutLemmas.{at-cut, HasShape-cut}

-- ---- the lists

module _ (r m : ℕ) (p s : List ℕ) (whole : length p ≡ m) (room : r ≤ m) where
  pub at-step_order_first : (i : ℕ) → i < r → slice_index (step_order r p s) i ≡ slice_index p i
  at-step_order_first i before =
      let front : length (take r p) ≡ r = length-take-le r p (omega (arith, whole, room)) in
      get_or_append_left (take r p) (map (λ i. slice_index p (r + i)) s) 0 i (omega (arith, front, before)) ∙ get_or-take r p i 0 before

  pub at-step_order_second : (i : ℕ) → i < length s → slice_index (step_order r p s) (r + i) ≡ slice_index p (r + slice_index s i)
  at-step_order_second i within =
      let front : length (take r p) ≡ r = length-take-le r p (omega (arith, whole, room)) in
      let back : r + i - r ≡ i = omega arith in
      get_or-append_right (take r p) (map (λ i. slice_index p (r + i)) s) r (r + i) 0 front (omega arith)
      ∙ ap (slice_index (map (λ i. slice_index p (r + i)) s)) back
      ∙ get_or-map (λ i. slice_index p (r + i)) s i 0 0 within

  pub length-step_order : length (step_order r p s) ≡ r + length s
  length-step_order =
      let front : length (take r p) ≡ r = length-take-le r p (omega (arith, whole, room)) in
      length-append (take r p) (map (λ i. slice_index p (r + i)) s) ∙ ap₂ ◌+◌ front (length-map s (λ i. slice_index p (r + i)))

pub IsOrder-step : (r k : ℕ) (p s : List ℕ) → IsOrder (r + k) p → IsOrder k s → IsOrder (r + k) (step_order r p s)
IsOrder-step r k p s order rest =
    let room : r ≤ r + k = omega arith in
    let count = rest.count in
    record {
      count = length-step_order r (r + k) p s order.count room ∙ ap (λ (n : ℕ). r + n) rest.count;
      below = λ i below. ⊎_elim
          (λ (first : i < r). rw (at-step_order_first r (r + k) p s order.count room i first) (order.below i below))
          (λ (second : r ≤ i).
          let place : r + (i - r) ≡ i = omega (arith, second) in
          let inside : i - r < k = omega (arith, second, below) in
          let small = rest.below (i - r) inside in
          subst (λ (i : ℕ). slice_index (step_order r p s) i < r + k) place
          (rw (at-step_order_second r (r + k) p s order.count room (i - r) (omega (arith, inside, count))) (order.below (r + slice_index s (i - r)) (omega (arith, small)))))
          (cases_lt i r);
      onto = λ j below.
          let found = order.onto j below in
          ⊎_elim
          (λ (first : found.0 < r). (found.0, found.1, at-step_order_first r (r + k) p s order.count room found.0 first ∙ found.2))
          (λ (second : r ≤ found.0).
          let most = found.1 in
          let inner = rest.onto (found.0 - r) (omega (arith, second, most)) in
          let within = inner.1 in
          let same = inner.2 in
          let place : r + slice_index s inner.0 ≡ found.0 = omega (arith, same, second) in (
            r + inner.0,
            omega (arith, within),
            at-step_order_second r (r + k) p s order.count room inner.0 (omega (arith, within, count)) ∙ ap (slice_index p) place ∙ found.2,
          ))
          (cases_lt found.0 r);
    }

pub at-step_pivots_first : (left : ℕ) (q s : List ℕ) (i : ℕ) → i < length q → slice_index (step_pivots left q s) i ≡ slice_index q i
at-step_pivots_first left q s i before = get_or_append_left q (map (λ j. j + left) s) 0 i before

pub at-step_pivots_second : (left : ℕ) (q s : List ℕ) (i : ℕ) → i < length s → slice_index (step_pivots left q s) (length q + i) ≡ slice_index s i + left
at-step_pivots_second left q s i within =
    let back : length q + i - length q ≡ i = omega arith in
    get_or-append_right q (map (λ j. j + left) s) (length q) (length q + i) 0 refl (omega arith)
    ∙ ap (slice_index (map (λ j. j + left) s)) back
    ∙ get_or-map (λ j. j + left) s i 0 0 within

pub length-step_pivots : (left : ℕ) (q s : List ℕ) → length (step_pivots left q s) ≡ length q + length s
length-step_pivots left q s = length-append q (map (λ j. j + left) s) ∙ ap (λ (n : ℕ). length q + n) (length-map s (λ j. j + left))

-- what holds of the first pivots and of the others holds of all
by_pivots : (left : ℕ) (q s : List ℕ) (P : ℕ → ℕ → Type 0) → ((i : ℕ) → i < length q → P i (slice_index q i))
    → ((i : ℕ) → i < length s → P (length q + i) (slice_index s i + left)) → (i : ℕ) → i < length q + length s → P i (slice_index (step_pivots left q s) i)
by_pivots left q s P first second i below = ⊎_elim
    (λ (before : i < length q). rw (at-step_pivots_first left q s i before) (first i before))
    (λ (after : length q ≤ i).
    let place : length q + (i - length q) ≡ i = omega (arith, after) in
    let within : i - length q < length s = omega (arith, after, below) in
    subst (λ (i : ℕ). P i (slice_index (step_pivots left q s) i)) place
    (rw (at-step_pivots_second left q s (i - length q) within) (second (i - length q) within)))
    (cases_lt i (length q))

-- zeros of a matrix's field
HasShape-zero_like : {F G : Field} {m n k : ℕ} → IsField F → G ≡ F → k ≡ n → HasShape F m n (zero_matrix G m k)
HasShape-zero_like {F} {G} {m} {n} {k} field over cols =
    subst (λ (k : ℕ). HasShape F m n (zero_matrix G m k)) (sym cols)
    (subst (λ (G : Field). HasShape F m n (zero_matrix G m n)) (sym over) (HasShape-zero_matrix F m n field))

HasShape-zero_rows : {F G : Field} {m n k l : ℕ} → IsField F → G ≡ F → l ≡ m → k ≡ n → HasShape F m n (zero_matrix G l k)
HasShape-zero_rows {F} {G} {m} {n} {k} {l} field over rows cols =
    subst (λ (l : ℕ). HasShape F m n (zero_matrix G l k)) (sym rows) (HasShape-zero_like field over cols)

module _ (A1 A2 X : Matrix) (p1 q1 p2 q2 : List ℕ) (r1 r2 : ℕ) (L1 E1 L2 E2 : Matrix) (laws : FieldLaws A1.field) (is_matrix : IsMatrix A1)
    (a2 : HasShape A1.field A1.rows A2.cols A2) (x : HasShape A1.field r1 A2.cols X) (first : IsPle A1 p1 q1 r1 L1 E1)
    (solves : product (upper_triangle r1 L1) X ≡ cut (reordered p1 A2) 0 0 r1 A2.cols)
    (second : IsPle (remaining r1 L1 (reordered p1 A2) X) p2 q2 r2 L2 E2) where
  -- ---- the parts

  k : ℕ
  k = A1.rows - r1

  room : r1 + k ≡ A1.rows
  unfolding k
  room =
      let within = first.e_form.within in
      let rows = first.e_shape.rows in
      let rank = first.rank in
      omega arith

  triangle : HasShape A1.field r1 r1 (upper_triangle r1 L1)
  triangle = HasShape-cut first.l_shape 0 0 r1 r1 r1 r1 (omega arith) (omega arith) (omega (arith, room)) (omega (arith, room))

  lower : HasShape A1.field k r1 (lower_rows r1 L1)
  lower =
      let rows = first.l_shape.rows in
      HasShape-cut first.l_shape r1 0 L1.rows r1 k r1 (omega (arith, room, rows)) (omega arith) (omega (arith, rows)) (omega (arith, room))

  right : HasShape A1.field A1.rows A2.cols (reordered p1 A2)
  right = HasShape-picked_rows a2 (slice_index p1) first.order.below

  right_low : HasShape A1.field k A2.cols (cut (reordered p1 A2) r1 0 A2.rows A2.cols)
  right_low =
      let rows = a2.rows in
      HasShape-cut right r1 0 A2.rows A2.cols k A2.cols (omega (arith, room, rows)) (omega arith) (omega (arith, rows)) (omega arith)

  rest : HasShape A1.field k A2.cols (remaining r1 L1 (reordered p1 A2) X)
  rest = HasShape-added right_low (HasShape-product lower x laws)

  order2 : IsOrder k p2
  order2 = at_shape rest (λ F k n. IsOrder k p2) second.order

  l2 : HasShape A1.field k k L2
  l2 = at_shape rest (λ F k n. HasShape F k k L2) second.l_shape

  e2 : HasShape A1.field k A2.cols E2
  e2 = at_shape rest (λ F k n. HasShape F k n E2) second.e_shape

  rows2 : (i j : ℕ) → i < k → j < A2.cols → at (remaining r1 L1 (reordered p1 A2) X) (slice_index p2 i) j ≡ at (product L2 E2) i j
  rows2 = at_shape rest (λ F k n. (i j : ℕ) → i < k → j < n → at (remaining r1 L1 (reordered p1 A2) X) (slice_index p2 i) j ≡ at (product L2 E2) i j) second.rows

  moved : HasShape A1.field k r1 (reordered p2 (lower_rows r1 L1))
  moved = HasShape-picked_rows lower (slice_index p2) order2.below

  l_zero : HasShape A1.field r1 k (zero_matrix L1.field r1 (L1.rows - r1))
  l_zero =
      let rows = first.l_shape.rows in
      HasShape-zero_like (IsField-shape a2) first.l_shape.over (omega (arith, room, rows))

  e_top : HasShape A1.field r1 A1.cols (cut E1 0 0 r1 E1.cols)
  e_top =
      let cols = first.e_shape.cols in
      HasShape-cut first.e_shape 0 0 r1 E1.cols r1 A1.cols (omega arith) (omega (arith, cols)) (omega (arith, room)) (omega (arith, cols))

  e_zero : HasShape A1.field k A1.cols (zero_matrix E1.field (E1.rows - r1) E1.cols)
  e_zero =
      let rows = first.e_shape.rows in
      HasShape-zero_rows (IsField-shape a2) first.e_shape.over (omega (arith, room, rows)) first.e_shape.cols

  l_quarters : HasShape A1.field (r1 + k) (r1 + k) (step_lower r1 L1 p2 L2)
  l_quarters = HasShape-quarters triangle l_zero moved l2

  e_quarters : HasShape A1.field (r1 + k) (A1.cols + A2.cols) (step_echelon r1 E1 X E2)
  e_quarters = HasShape-quarters e_top x e_zero e2

  l_shape : HasShape A1.field A1.rows A1.rows (step_lower r1 L1 p2 L2)
  l_shape = subst (λ (m : ℕ). HasShape A1.field m m (step_lower r1 L1 p2 L2)) room l_quarters

  e_shape : HasShape A1.field A1.rows (A1.cols + A2.cols) (step_echelon r1 E1 X E2)
  e_shape = subst (λ (m : ℕ). HasShape A1.field m (A1.cols + A2.cols) (step_echelon r1 E1 X E2)) room e_quarters

  order : IsOrder A1.rows (step_order r1 p1 p2)
  order =
      subst (λ (m : ℕ). IsOrder m (step_order r1 p1 p2)) room
      (IsOrder-step r1 k p1 p2 (subst (λ (m : ℕ). IsOrder m p1) (sym room) first.order) order2)

  -- ---- the entries of the parts

  at-triangle : (i j : ℕ) → i < r1 → j < r1 → at (upper_triangle r1 L1) i j ≡ at L1 i j
  at-triangle i j below within =
      let row : 0 + i ≡ i = omega arith in
      let col : 0 + j ≡ j = omega arith in
      at-cut L1 0 0 r1 r1 r1 r1 (omega arith) (omega arith) i j below within ∙ ap₂ (at L1) row col

  at-lower : (i j : ℕ) → i < k → j < r1 → at (lower_rows r1 L1) i j ≡ at L1 (r1 + i) j
  at-lower i j below within =
      let rows = first.l_shape.rows in
      let col : 0 + j ≡ j = omega arith in
      at-cut L1 r1 0 L1.rows r1 k r1 (omega (arith, room, rows)) (omega arith) i j below within ∙ ap (at L1 (r1 + i)) col

  at-moved : (i j : ℕ) → i < k → j < r1 → at (reordered p2 (lower_rows r1 L1)) i j ≡ at L1 (r1 + slice_index p2 i) j
  at-moved i j below within =
      at-picked_rows lower (slice_index p2) i j below within ∙ at-lower (slice_index p2 i) j (order2.below i below) within

  at-e_top : (i j : ℕ) → i < r1 → j < A1.cols → at (cut E1 0 0 r1 E1.cols) i j ≡ at E1 i j
  at-e_top i j below within =
      let cols = first.e_shape.cols in
      let row : 0 + i ≡ i = omega arith in
      let col : 0 + j ≡ j = omega arith in
      at-cut E1 0 0 r1 E1.cols r1 A1.cols (omega arith) (omega (arith, cols)) i j below within ∙ ap₂ (at E1) row col

  at-l_zero : (i j : ℕ) → i < r1 → j < k → at (zero_matrix L1.field r1 (L1.rows - r1)) i j ≡ 0
  at-l_zero i j below within =
      let rows = first.l_shape.rows in
      at-zero_matrix L1.field r1 (L1.rows - r1) i j below (omega (arith, within, room, rows))

  at-e_zero : (i j : ℕ) → i < k → j < A1.cols → at (zero_matrix E1.field (E1.rows - r1) E1.cols) i j ≡ 0
  at-e_zero i j below within =
      let rows = first.e_shape.rows in
      let cols = first.e_shape.cols in
      at-zero_matrix E1.field (E1.rows - r1) E1.cols i j (omega (arith, below, room, rows)) (omega (arith, within, cols))

  -- row t of L1 E1 needs the first r1 columns of L1 alone
  left_part : (t j : ℕ) → t < A1.rows → j < A1.cols → times A1.field r1 (at L1) (at E1) t j ≡ at A1 (slice_index p1 t) j
  left_part t j below within =
      let rank = first.rank in
      let rows = first.e_shape.rows in
      let cols = first.e_shape.cols in
      sym (first.rows t j below within
      ∙ at-product first.l_shape first.e_shape t j below within
      ∙ sum_below-short r1 A1.rows (λ s. mul A1.field (at L1 t s) (at E1 s j)) (omega (arith, room)) (λ s from inside.
      ap (mul A1.field (at L1 t s)) (first.e_form.below s j (omega (arith, from, rank)) (omega (arith, inside, rows)) (omega (arith, within, cols)))
      ∙ laws.annihilates (at L1 t s)))

  -- ---- the quarters of the product

  corner : (i j : ℕ) → i < r1 → j < A1.cols
      → at (added (product (upper_triangle r1 L1) (cut E1 0 0 r1 E1.cols)) (product (zero_matrix L1.field r1 (L1.rows - r1)) (zero_matrix E1.field (E1.rows - r1) E1.cols))) i j
      ≡ at A1 (slice_index p1 i) j
  corner i j below within =
      let row : i < A1.rows = omega (arith, below, room) in
      at-added (HasShape-product triangle e_top laws) (HasShape-product l_zero e_zero laws) i j below within
      ∙ ap₂ bit_xor
      (at-product triangle e_top i j below within
      ∙ times-same A1.field r1 (at (upper_triangle r1 L1)) (at (cut E1 0 0 r1 E1.cols)) (at L1) (at E1) i j i j
      (λ t inside. at-triangle i t below inside) (λ t inside. at-e_top t j inside within)
      ∙ left_part i j row within)
      (at-product l_zero e_zero i j below within
      ∙ times-zero_row A1.field laws k (at (zero_matrix L1.field r1 (L1.rows - r1))) (at (zero_matrix E1.field (E1.rows - r1) E1.cols)) i j
      (λ t inside. at-l_zero i t below inside))
      ∙ xor_zero_r (at A1 (slice_index p1 i) j)

  top_right : (i j : ℕ) → i < r1 → j < A2.cols
      → at (added (product (upper_triangle r1 L1) X) (product (zero_matrix L1.field r1 (L1.rows - r1)) E2)) i j ≡ at A2 (slice_index p1 i) j
  top_right i j below within =
      let row : 0 + i ≡ i = omega arith in
      let col : 0 + j ≡ j = omega arith in
      at-added (HasShape-product triangle x laws) (HasShape-product l_zero e2 laws) i j below within
      ∙ ap₂ bit_xor
      (ap (λ (C : Matrix). at C i j) solves
      ∙ at-cut (reordered p1 A2) 0 0 r1 A2.cols r1 A2.cols (omega arith) (omega arith) i j below within
      ∙ ap₂ (at (reordered p1 A2)) row col
      ∙ at-picked_rows a2 (slice_index p1) i j (omega (arith, below, room)) within)
      (at-product l_zero e2 i j below within
      ∙ times-zero_row A1.field laws k (at (zero_matrix L1.field r1 (L1.rows - r1))) (at E2) i j (λ t inside. at-l_zero i t below inside))
      ∙ xor_zero_r (at A2 (slice_index p1 i) j)

  bottom_left : (i j : ℕ) → i < k → j < A1.cols
      → at (added (product (reordered p2 (lower_rows r1 L1)) (cut E1 0 0 r1 E1.cols)) (product L2 (zero_matrix E1.field (E1.rows - r1) E1.cols))) i j
      ≡ at A1 (slice_index p1 (r1 + slice_index p2 i)) j
  bottom_left i j below within =
      let inside2 = order2.below i below in
      at-added (HasShape-product moved e_top laws) (HasShape-product l2 e_zero laws) i j below within
      ∙ ap₂ bit_xor
      (at-product moved e_top i j below within
      ∙ times-same A1.field r1 (at (reordered p2 (lower_rows r1 L1))) (at (cut E1 0 0 r1 E1.cols)) (at L1) (at E1) i j (r1 + slice_index p2 i) j
      (λ t inside. at-moved i t below inside) (λ t inside. at-e_top t j inside within)
      ∙ left_part (r1 + slice_index p2 i) j (omega (arith, room, inside2)) within)
      (at-product l2 e_zero i j below within
      ∙ times-zero_col A1.field laws k (at L2) (at (zero_matrix E1.field (E1.rows - r1) E1.cols)) i j (λ t inside. at-e_zero t j inside within))
      ∙ xor_zero_r (at A1 (slice_index p1 (r1 + slice_index p2 i)) j)

  -- an entry of what remains
  at-rest : (i j : ℕ) → i < k → j < A2.cols
      → at (remaining r1 L1 (reordered p1 A2) X) i j ≡ bit_xor (at A2 (slice_index p1 (r1 + i)) j) (times A1.field r1 (at (lower_rows r1 L1)) (at X) i j)
  at-rest i j below within =
      let rows = a2.rows in
      let col : 0 + j ≡ j = omega arith in
      at-added right_low (HasShape-product lower x laws) i j below within
      ∙ ap₂ bit_xor
      (at-cut (reordered p1 A2) r1 0 A2.rows A2.cols k A2.cols (omega (arith, room, rows)) (omega arith) i j below within
      ∙ ap (at (reordered p1 A2) (r1 + i)) col
      ∙ at-picked_rows a2 (slice_index p1) (r1 + i) j (omega (arith, below, room)) within)
      (at-product lower x i j below within)

  bottom_right : (i j : ℕ) → i < k → j < A2.cols
      → at (added (product (reordered p2 (lower_rows r1 L1)) X) (product L2 E2)) i j ≡ at A2 (slice_index p1 (r1 + slice_index p2 i)) j
  bottom_right i j below within =
      let inside2 = order2.below i below in
      let image : ℕ = times A1.field r1 (at (lower_rows r1 L1)) (at X) (slice_index p2 i) j in
      at-added (HasShape-product moved x laws) (HasShape-product l2 e2 laws) i j below within
      ∙ ap₂ bit_xor
      (at-product moved x i j below within
      ∙ times-same A1.field r1 (at (reordered p2 (lower_rows r1 L1))) (at X) (at (lower_rows r1 L1)) (at X) i j (slice_index p2 i) j
      (λ t inside. at-picked_rows lower (slice_index p2) i t below inside) (λ t inside. refl))
      (sym (rows2 i j below within) ∙ at-rest (slice_index p2 i) j inside2 within)
      ∙ xor_comm image (bit_xor (at A2 (slice_index p1 (r1 + slice_index p2 i)) j) image)
      ∙ xor_off (at A2 (slice_index p1 (r1 + slice_index p2 i)) j) image

  -- ---- the rows of both halves

  rows : (i j : ℕ) → i < A1.rows → j < A1.cols + A2.cols
      → at (beside A1 A2) (slice_index (step_order r1 p1 p2) i) j ≡ at (product (step_lower r1 L1 p2 L2) (step_echelon r1 E1 X E2)) i j
  rows i j below within =
      let own = HasShape-own A1 is_matrix in
      let high : r1 ≤ A1.rows = omega (arith, room) in
      let first_at : (i : ℕ) → i < r1 → slice_index (step_order r1 p1 p2) i ≡ slice_index p1 i
      = at-step_order_first r1 A1.rows p1 p2 first.order.count high in
      let second_at : (i : ℕ) → i < k → slice_index (step_order r1 p1 p2) (r1 + i) ≡ slice_index p1 (r1 + slice_index p2 i)
      = λ i inside. let count = order2.count in
      at-step_order_second r1 A1.rows p1 p2 first.order.count high i (omega (arith, inside, count)) in
      let first_in : (i : ℕ) → i < r1 → slice_index p1 i < A1.rows = λ i inside. first.order.below i (omega (arith, inside, high)) in
      let second_in : (i : ℕ) → i < k → slice_index p1 (r1 + slice_index p2 i) < A1.rows
      = λ i inside. let low = order2.below i inside in first.order.below (r1 + slice_index p2 i) (omega (arith, low, room)) in
      let left_top = HasShape-added (HasShape-product triangle e_top laws) (HasShape-product l_zero e_zero laws) in
      let right_top = HasShape-added (HasShape-product triangle x laws) (HasShape-product l_zero e2 laws) in
      let left_bottom = HasShape-added (HasShape-product moved e_top laws) (HasShape-product l2 e_zero laws) in
      let right_bottom = HasShape-added (HasShape-product moved x laws) (HasShape-product l2 e2 laws) in
      let whole = product-quarters laws triangle l_zero moved l2 e_top x e_zero e2 in
      by_quarters r1 k A1.cols A2.cols
      (λ i j. at (beside A1 A2) (slice_index (step_order r1 p1 p2) i) j ≡ at (product (step_lower r1 L1 p2 L2) (step_echelon r1 E1 X E2)) i j)
      (λ i j top left.
      ap (λ (i : ℕ). at (beside A1 A2) i j) (first_at i top)
      ∙ at-beside_left own a2 (slice_index p1 i) j (first_in i top) left
      ∙ sym (ap (λ (C : Matrix). at C i j) whole ∙ at-quarters_11 left_top right_top left_bottom right_bottom i j top left ∙ corner i j top left))
      (λ i j top right_in.
      ap (λ (i : ℕ). at (beside A1 A2) i (A1.cols + j)) (first_at i top)
      ∙ at-beside_right own a2 (slice_index p1 i) j (first_in i top) right_in
      ∙ sym (ap (λ (C : Matrix). at C i (A1.cols + j)) whole ∙ at-quarters_12 left_top right_top left_bottom right_bottom i j top right_in ∙ top_right i j top right_in))
      (λ i j bottom left.
      ap (λ (i : ℕ). at (beside A1 A2) i j) (second_at i bottom)
      ∙ at-beside_left own a2 (slice_index p1 (r1 + slice_index p2 i)) j (second_in i bottom) left
      ∙ sym (ap (λ (C : Matrix). at C (r1 + i) j) whole ∙ at-quarters_21 left_top right_top left_bottom right_bottom i j bottom left ∙ bottom_left i j bottom left))
      (λ i j bottom right_in.
      ap (λ (i : ℕ). at (beside A1 A2) i (A1.cols + j)) (second_at i bottom)
      ∙ at-beside_right own a2 (slice_index p1 (r1 + slice_index p2 i)) j (second_in i bottom) right_in
      ∙ sym (ap (λ (C : Matrix). at C (r1 + i) (A1.cols + j)) whole ∙ at-quarters_22 left_top right_top left_bottom right_bottom i j bottom right_in
      ∙ bottom_right i j bottom right_in))
      i j (omega (arith, below, room)) within

  -- ---- the forms

  l_form : IsUnitLower (r1 + r2) (step_lower r1 L1 p2 L2)
  l_form =
      let size = l_quarters.rows in
      let width = l_quarters.cols in
      let l1_rows = first.l_shape.rows in
      let l1_cols = first.l_shape.cols in
      let l2_rows = l2.rows in
      let l2_cols = l2.cols in
      let one = at-quarters_11 triangle l_zero moved l2 in
      let two = at-quarters_12 triangle l_zero moved l2 in
      let four = at-quarters_22 triangle l_zero moved l2 in
      let entry : ℕ → ℕ → ℕ = at (step_lower r1 L1 p2 L2) in
      let diagonal : (i j : ℕ) → i < r1 + k → j < r1 + k → i ≡ j → entry i j ≡ 1
      = by_quarters r1 k r1 k (λ i j. i ≡ j → entry i j ≡ 1)
      (λ i j top left same.
      one i j top left ∙ at-triangle i j top left
      ∙ subst (λ (j : ℕ). at L1 i j ≡ 1) same (first.l_form.diagonal i (omega (arith, top, l1_rows, room))))
      (λ i j top right_in same. absurd (omega (arith, same, top)))
      (λ i j bottom left same. absurd (omega (arith, same, left)))
      (λ i j bottom right_in same.
      let here : i ≡ j = omega (arith, same) in
      four i j bottom right_in ∙ subst (λ (j : ℕ). at L2 i j ≡ 1) here (second.l_form.diagonal i (omega (arith, bottom, l2_rows)))) in
      let over : (i j : ℕ) → i < r1 + k → j < r1 + k → i < j → entry i j ≡ 0
      = by_quarters r1 k r1 k (λ i j. i < j → entry i j ≡ 0)
      (λ i j top left later. one i j top left ∙ at-triangle i j top left ∙ first.l_form.above i j later (omega (arith, left, l1_cols, room)))
      (λ i j top right_in later. two i j top right_in ∙ at-l_zero i j top right_in)
      (λ i j bottom left later. absurd (omega (arith, later, left)))
      (λ i j bottom right_in later. four i j bottom right_in ∙ second.l_form.above i j (omega (arith, later)) (omega (arith, right_in, l2_cols))) in
      let under : (i j : ℕ) → i < r1 + k → j < r1 + k → r1 + r2 ≤ j → j < i → entry i j ≡ 0
      = by_quarters r1 k r1 k (λ i j. r1 + r2 ≤ j → j < i → entry i j ≡ 0)
      (λ i j top left from before. absurd (omega (arith, from, left)))
      (λ i j top right_in from before. absurd (omega (arith, before, top)))
      (λ i j bottom left from before. absurd (omega (arith, from, left)))
      (λ i j bottom right_in from before.
      four i j bottom right_in ∙ second.l_form.rest i j (omega (arith, from)) (omega (arith, before)) (omega (arith, bottom, l2_rows))) in
      record {
        diagonal = λ i below. diagonal i i (omega (arith, below, size)) (omega (arith, below, size)) refl;
        above = λ i j later within. over i j (omega (arith, later, within, width)) (omega (arith, within, width)) later;
        rest = λ i j from before below. under i j (omega (arith, below, size)) (omega (arith, before, below, size)) from before;
      }

  e_form : Echelon (step_echelon r1 E1 X E2) (step_pivots A1.cols q1 q2)
  e_form =
      let rank1 = first.rank in
      let rank2 = second.rank in
      let count = length-step_pivots A1.cols q1 q2 in
      let high = e_quarters.rows in
      let wide = e_quarters.cols in
      let e1_cols = first.e_shape.cols in
      let e1_rows = first.e_shape.rows in
      let e2_rows = e2.rows in
      let e2_cols = e2.cols in
      let within2 = second.e_form.within in
      let one = at-quarters_11 e_top x e_zero e2 in
      let three = at-quarters_21 e_top x e_zero e2 in
      let four = at-quarters_22 e_top x e_zero e2 in
      let E : Matrix = step_echelon r1 E1 X E2 in
      let col2 : (i : ℕ) → i < length q2 → slice_index q2 i < A2.cols = λ i inside. let in_cols = second.e_form.columns i inside in omega (arith, in_cols, e2_cols) in
      let col1 : (i : ℕ) → i < length q1 → slice_index q1 i < A1.cols = λ i inside. let in_cols = first.e_form.columns i inside in omega (arith, in_cols, e1_cols) in
      let swapped : (s : ℕ) → A1.cols + s ≡ s + A1.cols = λ s. omega arith in
      record {
        rising = λ i j before within.
            by_pivots A1.cols q1 q2 (λ j b. i < j → slice_index (step_pivots A1.cols q1 q2) i < b)
            (λ j inside sooner.
            rw (at-step_pivots_first A1.cols q1 q2 i (omega (arith, sooner, inside))) (first.e_form.rising i j sooner inside))
            (λ j inside sooner.
            by_pivots A1.cols q1 q2 (λ i a. i < length q1 + j → a < slice_index q2 j + A1.cols)
            (λ i inner earlier. let low = col1 i inner in omega (arith, low))
            (λ i inner earlier. let rises = second.e_form.rising i j (omega (arith, earlier)) inside in omega (arith, rises))
            i (omega (arith, sooner, inside)) sooner)
            j (omega (arith, within, count)) before;
        columns = λ i within. by_pivots A1.cols q1 q2 (λ i a. a < E.cols)
            (λ i inside. let low = col1 i inside in omega (arith, low, wide))
            (λ i inside. let low = col2 i inside in omega (arith, low, wide))
            i (omega (arith, within, count));
        within = omega (arith, count, rank1, rank2, within2, e2_rows, high);
        nonzero = λ i within. by_pivots A1.cols q1 q2 (λ i a. at E i a ≢ 0)
            (λ i inside same. first.e_form.nonzero i inside
            (sym (one i (slice_index q1 i) (omega (arith, inside, rank1)) (col1 i inside) ∙ at-e_top i (slice_index q1 i) (omega (arith, inside, rank1)) (col1 i inside)) ∙ same))
            (λ i inside same. second.e_form.nonzero i inside
            (sym (four i (slice_index q2 i) (omega (arith, inside, within2, e2_rows)) (col2 i inside))
            ∙ ap₂ (at E) (ap (λ (r : ℕ). r + i) (sym first.rank)) (swapped (slice_index q2 i)) ∙ same))
            i (omega (arith, within, count));
        before = λ i j within before.
            by_pivots A1.cols q1 q2 (λ i a. j < a → at E i j ≡ 0)
            (λ i inside sooner.
            let low = col1 i inside in
            let top : i < r1 = omega (arith, inside, rank1) in
            let left : j < A1.cols = omega (arith, sooner, low) in
            one i j top left ∙ at-e_top i j top left ∙ first.e_form.before i j inside sooner)
            (λ i inside sooner.
            let bottom : i < k = omega (arith, inside, within2, e2_rows) in
            let place : length q1 + i ≡ r1 + i = omega (arith, rank1) in
            ap (λ (i : ℕ). at E i j) place ∙ ⊎_elim
            (λ (left : j < A1.cols). three i j bottom left ∙ at-e_zero i j bottom left)
            (λ (past : A1.cols ≤ j).
            let low = col2 i inside in
            let right_in : j - A1.cols < A2.cols = omega (arith, sooner, past, low) in
            let col : j ≡ A1.cols + (j - A1.cols) = omega (arith, past) in
            ap (at E (r1 + i)) col ∙ four i (j - A1.cols) bottom right_in ∙ second.e_form.before i (j - A1.cols) inside (omega (arith, sooner, past)))
            (cases_lt j A1.cols))
            i (omega (arith, within, count)) before;
        below = λ i j from in_rows in_cols.
            by_quarters r1 k A1.cols A2.cols (λ i j. length q1 + length q2 ≤ i → at E i j ≡ 0)
            (λ i j top left past. absurd (omega (arith, top, past, rank1)))
            (λ i j top right_in past. absurd (omega (arith, top, past, rank1)))
            (λ i j bottom left past. three i j bottom left ∙ at-e_zero i j bottom left)
            (λ i j bottom right_in past.
            four i j bottom right_in
            ∙ second.e_form.below i j (omega (arith, past, rank1)) (omega (arith, bottom, e2_rows)) (omega (arith, right_in, e2_cols)))
            i j (omega (arith, in_rows, high)) (omega (arith, in_cols, wide)) (omega (arith, from, count));
      }

  -- the step makes a PLE of both halves
  pub ple_of_step : IsPle (beside A1 A2) (step_order r1 p1 p2) (step_pivots A1.cols q1 q2) (r1 + r2) (step_lower r1 L1 p2 L2) (step_echelon r1 E1 X E2)
  ple_of_step = record {
    order = order;
    rank = length-step_pivots A1.cols q1 q2 ∙ ap₂ ◌+◌ first.rank second.rank;
    l_shape = l_shape;
    l_form = l_form;
    e_shape = e_shape;
    e_form = e_form;
    rows = rows;
  }
