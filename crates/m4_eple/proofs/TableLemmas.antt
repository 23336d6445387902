-- The table that the step of a PLE leaves, once L's entries of the lower right are moved, stores the factors of both halves.
use Rattle.std.proofs.Common.{◌≡◌, ℕ, ◌+◌, ◌-◌, ◌<◌, ◌≤◌, ◌⊎◌, Bool, true, false, cond, inl, inr, List, length, slice_index, refl, sym, ◌∙◌, ap, ap₂, subst, arith}
use Rattle.std.specs.Prelude.{nat_lt, nat_le, ◌&&◌, if◌then◌else◌}
use Rattle.std.proofs.lemmas.Bool.{cases_lt, cond-false, lt-ltb, le-ltb, le-leb, lt-leb}
use Rattle.m4_model.specs.Field.{Field}
use Rattle.m4_model.specs.Matrix.{Matrix, HasShape, at, zero_matrix}
use Rattle.m4_model.specs.Shapes.{cut}
use Rattle.m4_model.specs.Factors.{stored}
use Rattle.m4_model.specs.Step.{reordered, step_pivots, step_lower, step_echelon}
use Rattle.m4_model.proofs.MatrixLemmas.{at-table}
use Rattle.m4_model.proofs.ShapeLemmas.{at_shape, IsField-shape, HasShape-zero_matrix}
use Rattle.m4_model.proofs.CutLemmas.{at-cut, HasShape-cut}
use Rattle.m4_model.proofs.BlockLemmas.{at-picked_rows, HasShape-picked_rows, quarters, by_quarters, HasShape-quarters, at-quarters_11, at-quarters_12, at-quarters_21, at-quarters_22}
use Rattle.m4_model.proofs.StepLemmas.{at-step_pivots_first, at-step_pivots_second, length-step_pivots}
use Rattle.m4_eple.specs.Halves.{moved_entry}

-- not both hold
pub not_both : (j a b : ℕ) → (a ≤ j) ⊎ (b ≤ j) → (nat_lt j a && nat_lt j b) ≡ false
not_both j a b (inl over) = rw (le-ltb j a over) refl
not_both j a b (inr past) = elim (cases_lt j a) [
  | inl under ↦ rw (lt-ltb j a under, le-ltb j b past) refl
  | inr over ↦ rw (le-ltb j a over) refl
]

pub both_or_not : (j a b : ℕ) → ((j < a) × (j < b)) ⊎ ((a ≤ j) ⊎ (b ≤ j))
both_or_not j a b = elim (cases_lt j a) [
  | inl under ↦ elim (cases_lt j b) [
    | inl within ↦ inl (under, within)
    | inr past ↦ inr (inr past)
  ]
  | inr over ↦ inr (inl over)
]

same_cond : (b : Bool) (x y : ℕ) → x ≡ y → cond b x y ≡ y
same_cond true x y same = same
same_cond false x y same = refl

-- the entries of a table
module _ {F : Field} {m n : ℕ} {E : Matrix} (e : HasShape F m n E) (q : List ℕ) (L : Matrix) where
  stored_entry : (i j : ℕ) → i < m → j < n → at (stored q L E) i j
      ≡ (if nat_lt j i && nat_lt j (length q) then at L i j else if nat_lt i (length q) && nat_le (slice_index q i) j then at E i j else 0)
  stored_entry = at_shape e (λ F m n. (i j : ℕ) → i < m → j < n → at (stored q L E) i j
      ≡ (if nat_lt j i && nat_lt j (length q) then at L i j else if nat_lt i (length q) && nat_le (slice_index q i) j then at E i j else 0))
      (at-table E.rows E.cols (λ i j. if nat_lt j i && nat_lt j (length q) then at L i j else if nat_lt i (length q) && nat_le (slice_index q i) j then at E i j else 0))

  stored_low : (i j : ℕ) → i < m → j < n → j < i → j < length q → at (stored q L E) i j ≡ at L i j
  stored_low i j below right under within = stored_entry i j below right ∙ rw (lt-ltb j i under, lt-ltb j (length q) within) refl

  stored_high : (i j : ℕ) → i < m → j < n → (i ≤ j) ⊎ (length q ≤ j) → i < length q → slice_index q i ≤ j → at (stored q L E) i j ≡ at E i j
  stored_high i j below right over within from =
      stored_entry i j below right ∙ rw (not_both j i (length q) over, lt-ltb i (length q) within, le-leb (slice_index q i) j from) refl

  stored_zero : (i j : ℕ) → i < m → j < n → (i ≤ j) ⊎ (length q ≤ j) → (length q ≤ i) ⊎ (j < slice_index q i) → at (stored q L E) i j ≡ 0
  stored_zero i j below right over (inl past) =
      stored_entry i j below right ∙ rw (not_both j i (length q) over, le-ltb i (length q) past) refl
  stored_zero i j below right over (inr before) =
      stored_entry i j below right ∙ rw (not_both j i (length q) over) (elim (cases_lt i (length q)) [
        | inl within ↦ rw (lt-ltb i (length q) within, lt-leb (slice_index q i) j before) refl
        | inr past ↦ rw (le-ltb i (length q) past) refl
      ])

-- where an entry comes from
module _ (r left s : ℕ) (M : Matrix) (i j : ℕ) where
  pub moved_above : i < r → moved_entry r left s M i j ≡ at M i j
  moved_above top = rw (lt-ltb i r top) refl

  pub moved_front : r ≤ i → j < r → moved_entry r left s M i j ≡ at M i j
  moved_front bottom front = rw (le-ltb i r bottom, lt-ltb j r front) refl

  pub moved_here : r ≤ i → r ≤ j → j < i → j < r + s → moved_entry r left s M i j ≡ at M i (left + (j - r))
  moved_here bottom behind under within = rw (le-ltb i r bottom, le-ltb j r behind, lt-ltb j i under, lt-ltb j (r + s) within) refl

  pub moved_away : r ≤ i → r ≤ j → (i ≤ j) ⊎ (r + s ≤ j) → moved_entry r left s M i j ≡ cond (nat_lt (j + r) (left + i) && nat_lt j (left + s)) 0 (at M i j)
  moved_away bottom behind over = rw (le-ltb i r bottom, le-ltb j r behind, not_both j i (r + s) over) refl

module _ {K : Field} (r k n1 n2 : ℕ) (q1 q2 s : List ℕ) {W X R L1 L2 E1 E2 : Matrix}
    (w : HasShape K (r + k) n1 W) (x : HasShape K r n2 X) (z : HasShape K k n2 R)
    (l1 : HasShape K (r + k) (r + k) L1) (l2 : HasShape K k k L2) (e1 : HasShape K (r + k) n1 E1) (e2 : HasShape K k n2 E2)
    (first : W ≡ stored q1 L1 E1) (rest : R ≡ stored q2 L2 E2) (count : length q1 ≡ r) (fits : r ≤ n1) (room : length q2 ≤ n2)
    (cols : (i : ℕ) → i < length q1 → slice_index q1 i < n1) (least : (i : ℕ) → i < length q2 → i ≤ slice_index q2 i)
    (order : (i : ℕ) → i < k → slice_index s i < k) where
  top_left : HasShape K r n1 (cut W 0 0 r n1)
  top_left = HasShape-cut w 0 0 r n1 r n1 (omega arith) (omega arith) (omega arith) (omega arith)

  low_left : HasShape K k n1 (cut W r 0 (r + k) n1)
  low_left = HasShape-cut w r 0 (r + k) n1 k n1 refl (omega arith) (omega arith) (omega arith)

  low_moved : HasShape K k n1 (reordered s (cut W r 0 (r + k) n1))
  low_moved = HasShape-picked_rows low_left (slice_index s) order

  -- what the calls leave: the left window with its lower rows exchanged, beside the right one
  abbrev pub left_over : Matrix
  left_over = quarters (cut W 0 0 r n1) X (reordered s (cut W r 0 (r + k) n1)) R

  pub HasShape-left_over : HasShape K (r + k) (n1 + n2) left_over
  HasShape-left_over = HasShape-quarters top_left x low_moved z

  abbrev the_lower : Matrix
  the_lower = step_lower r L1 s L2

  abbrev the_echelon : Matrix
  the_echelon = step_echelon r E1 X E2

  abbrev the_pivots : List ℕ
  the_pivots = step_pivots n1 q1 q2

  l_rows : L1.rows - r ≡ k
  l_rows = let h = l1.rows in omega (arith, h)

  triangle : HasShape K r r (cut L1 0 0 r r)
  triangle = HasShape-cut l1 0 0 r r r r (omega arith) (omega arith) (omega arith) (omega arith)

  l_zeros : HasShape K r k (zero_matrix L1.field r (L1.rows - r))
  l_zeros = subst (HasShape K r k) (ap₂ (λ (F : Field) (m : ℕ). zero_matrix F r m) (sym l1.over) (sym l_rows)) (HasShape-zero_matrix K r k (IsField-shape l1))

  l_low : HasShape K k r (cut L1 r 0 L1.rows r)
  l_low = HasShape-cut l1 r 0 L1.rows r k r (sym l1.rows) (omega arith) (let h = l1.rows in omega (arith, h)) (omega arith)

  l_moved : HasShape K k r (reordered s (cut L1 r 0 L1.rows r))
  l_moved = HasShape-picked_rows l_low (slice_index s) order

  e_rows : E1.rows - r ≡ k
  e_rows = let h = e1.rows in omega (arith, h)

  e_top : HasShape K r n1 (cut E1 0 0 r E1.cols)
  e_top = HasShape-cut e1 0 0 r E1.cols r n1 (omega arith) (let h = e1.cols in omega (arith, h)) (omega arith) (let h = e1.cols in omega (arith, h))

  e_zeros : HasShape K k n1 (zero_matrix E1.field (E1.rows - r) E1.cols)
  e_zeros = subst (HasShape K k n1) (λ t. zero_matrix (sym e1.over t) (sym e_rows t) (sym e1.cols t)) (HasShape-zero_matrix K k n1 (IsField-shape e1))

  pub e_shape : HasShape K (r + k) (n1 + n2) the_echelon
  e_shape = HasShape-quarters e_top x e_zeros e2

  total : length the_pivots ≡ r + length q2
  total = length-step_pivots n1 q1 q2 ∙ ap (λ a. a + length q2) count

  pivot_first : (i : ℕ) → i < r → slice_index the_pivots i ≡ slice_index q1 i
  pivot_first i top = at-step_pivots_first n1 q1 q2 i (omega (arith, top, count))

  pivot_second : (i : ℕ) → i < length q2 → slice_index the_pivots (r + i) ≡ slice_index q2 i + n1
  pivot_second i within = ap (λ a. slice_index the_pivots (a + i)) (sym count) ∙ at-step_pivots_second n1 q1 q2 i within

  -- the entries of the left window, from the top and from below
  top_entry : (i j : ℕ) → i < r → j < n1 → at left_over i j ≡ at (stored q1 L1 E1) i j
  top_entry i j top left =
      let ip : 0 + i ≡ i = omega arith in
      let jp : 0 + j ≡ j = omega arith in
      at-quarters_11 top_left x low_moved z i j top left ∙ at-cut W 0 0 r n1 r n1 (omega arith) (omega arith) i j top left
      ∙ ap₂ (at W) ip jp ∙ ap (λ (A : Matrix). at A i j) first

  low_entry : (i j : ℕ) → i < k → j < n1 → at left_over (r + i) j ≡ at (stored q1 L1 E1) (r + slice_index s i) j
  low_entry i j bottom left =
      let jp : 0 + j ≡ j = omega arith in
      at-quarters_21 top_left x low_moved z i j bottom left ∙ at-picked_rows low_left (slice_index s) i j bottom left
      ∙ at-cut W r 0 (r + k) n1 k n1 refl (omega arith) (slice_index s i) j (order i bottom) left
      ∙ ap (at W (r + slice_index s i)) jp ∙ ap (λ (A : Matrix). at A (r + slice_index s i) j) first

  right_entry : (i j : ℕ) → i < k → j < n2 → at left_over (r + i) (n1 + j) ≡ at (stored q2 L2 E2) i j
  right_entry i j bottom right = at-quarters_22 top_left x low_moved z i j bottom right ∙ ap (λ (A : Matrix). at A i j) rest

  -- the entries of the factors
  lower_top : (i j : ℕ) → i < r → j < r → at the_lower i j ≡ at L1 i j
  lower_top i j top left =
      let ip : 0 + i ≡ i = omega arith in
      let jp : 0 + j ≡ j = omega arith in
      at-quarters_11 triangle l_zeros l_moved l2 i j top left ∙ at-cut L1 0 0 r r r r (omega arith) (omega arith) i j top left ∙ ap₂ (at L1) ip jp

  lower_low : (i j : ℕ) → i < k → j < r → at the_lower (r + i) j ≡ at L1 (r + slice_index s i) j
  lower_low i j bottom left =
      let jp : 0 + j ≡ j = omega arith in
      at-quarters_21 triangle l_zeros l_moved l2 i j bottom left ∙ at-picked_rows l_low (slice_index s) i j bottom left
      ∙ at-cut L1 r 0 L1.rows r k r (sym l1.rows) (omega arith) (slice_index s i) j (order i bottom) left ∙ ap (at L1 (r + slice_index s i)) jp

  lower_right : (i j : ℕ) → i < k → j < k → at the_lower (r + i) (r + j) ≡ at L2 i j
  lower_right i j bottom right = at-quarters_22 triangle l_zeros l_moved l2 i j bottom right

  echelon_top : (i j : ℕ) → i < r → j < n1 → at the_echelon i j ≡ at E1 i j
  echelon_top i j top left =
      let ip : 0 + i ≡ i = omega arith in
      let jp : 0 + j ≡ j = omega arith in
      at-quarters_11 e_top x e_zeros e2 i j top left ∙ at-cut E1 0 0 r E1.cols r n1 (omega arith) (let h = e1.cols in omega (arith, h)) i j top left ∙ ap₂ (at E1) ip jp

  abbrev Same : ℕ → ℕ → Type 0
  Same i j = moved_entry r n1 (length q2) left_over i j ≡ at (stored the_pivots the_lower the_echelon) i j

  one : (i j : ℕ) → i < r → j < n1 → Same i j
  one i j top left =
      let below : i < r + k = omega arith in
      let right : j < n1 + n2 = omega arith in
      moved_above r n1 (length q2) left_over i j top ∙ top_entry i j top left ∙ elim (cases_lt j i) [
        | inl under ↦
            stored_low e1 q1 L1 i j below left under (omega (arith, under, top, count))
            ∙ sym (stored_low e_shape the_pivots the_lower i j below right under (omega (arith, under, top, total)) ∙ lower_top i j top (omega (arith, under, top)))
        | inr over ↦ elim (cases_lt j (slice_index q1 i)) [
          | inl before ↦
              stored_zero e1 q1 L1 i j below left (inl over) (inr before)
              ∙ sym (stored_zero e_shape the_pivots the_lower i j below right (inl over) (inr (omega (arith, before, pivot_first i top))))
          | inr from ↦
              stored_high e1 q1 L1 i j below left (inl over) (omega (arith, top, count)) from
              ∙ sym (stored_high e_shape the_pivots the_lower i j below right (inl over) (omega (arith, top, total)) (omega (arith, from, pivot_first i top)) ∙ echelon_top i j top left)
        ]
      ]

  two : (i j : ℕ) → i < r → j < n2 → Same i (n1 + j)
  two i j top right =
      moved_above r n1 (length q2) left_over i (n1 + j) top ∙ at-quarters_12 top_left x low_moved z i j top right
      ∙ sym (stored_high e_shape the_pivots the_lower i (n1 + j) (omega arith) (omega arith) (inl (omega (arith, top, fits))) (omega (arith, top, total))
      (omega (arith, pivot_first i top, cols i (omega (arith, top, count)))) ∙ at-quarters_12 e_top x e_zeros e2 i j top right)

  over_total : (j a : ℕ) → (a ≤ j) ⊎ (r + length q2 ≤ j) → (a ≤ j) ⊎ (length the_pivots ≤ j)
  over_total j a (inl over) = inl over
  over_total j a (inr past) = inr (omega (arith, past, total))

  before_pivot : (i j : ℕ) → (i < length q2 → j < slice_index q2 i + n1) → (length the_pivots ≤ r + i) ⊎ (j < slice_index the_pivots (r + i))
  before_pivot i j sooner = elim (cases_lt i (length q2)) [
    | inl within ↦ inr (let early = sooner within in omega (arith, early, pivot_second i within))
    | inr past ↦ inl (omega (arith, past, total))
  ]

  -- an entry of L's lower right, which was moved
  moved_lower : (i j : ℕ) → i < k → r ≤ j → j < n1 + n2 → j < r + i → j < r + length q2 → Same (r + i) j
  moved_lower i j bottom behind right under within =
      let column : r + (j - r) ≡ j = omega (arith, behind) in
      let inside : j - r < n2 = omega (arith, within, behind, room) in
      moved_here r n1 (length q2) left_over (r + i) j (omega arith) behind under within ∙ right_entry i (j - r) bottom inside
      ∙ stored_low e2 q2 L2 i (j - r) bottom inside (omega (arith, under, behind)) (omega (arith, within, behind))
      ∙ sym (stored_low e_shape the_pivots the_lower (r + i) j (omega (arith, bottom)) right under (omega (arith, within, total))
      ∙ ap (at the_lower (r + i)) (sym column) ∙ lower_right i (j - r) bottom (omega (arith, under, behind, bottom)))

  three : (i j : ℕ) → i < k → j < n1 → Same (r + i) j
  three i j bottom left =
      let below : r + i < r + k = omega (arith, bottom) in
      let right : j < n1 + n2 = omega (arith, left) in
      let place = order i bottom in
      elim (cases_lt j r) [
        | inl front ↦
            moved_front r n1 (length q2) left_over (r + i) j (omega arith) front ∙ low_entry i j bottom left
            ∙ stored_low e1 q1 L1 (r + slice_index s i) j (omega (arith, place)) left (omega (arith, front)) (omega (arith, front, count))
            ∙ sym (stored_low e_shape the_pivots the_lower (r + i) j below right (omega (arith, front)) (omega (arith, front, total)) ∙ lower_low i j bottom front)
        | inr behind ↦ elim (both_or_not j (r + i) (r + length q2)) [
          | inl here ↦ moved_lower i j bottom behind right here.0 here.1
          | inr over ↦
              let none : at left_over (r + i) j ≡ 0 =
              low_entry i j bottom left
              ∙ stored_zero e1 q1 L1 (r + slice_index s i) j (omega (arith, place)) left (inr (omega (arith, behind, count))) (inl (omega (arith, count))) in
              moved_away r n1 (length q2) left_over (r + i) j (omega arith) behind over
              ∙ same_cond (nat_lt (j + r) (n1 + (r + i)) && nat_lt j (n1 + length q2)) 0 (at left_over (r + i) j) (sym none) ∙ none
              ∙ sym (stored_zero e_shape the_pivots the_lower (r + i) j below right (over_total j (r + i) over) (before_pivot i j (λ within. omega (arith, left))))
        ]
      ]

  -- the lower right itself
  four : (i j : ℕ) → i < k → j < n2 → Same (r + i) (n1 + j)
  four i j bottom inside =
      let below : r + i < r + k = omega (arith, bottom) in
      let right : n1 + j < n1 + n2 = omega (arith, inside) in
      let behind : r ≤ n1 + j = omega (arith, fits) in
      elim (both_or_not (n1 + j) (r + i) (r + length q2)) [
        | inl here ↦ moved_lower i (n1 + j) bottom behind right here.0 here.1
        | inr over ↦
            moved_away r n1 (length q2) left_over (r + i) (n1 + j) (omega arith) behind over ∙ elim (both_or_not j i (length q2)) [
              | inl away ↦
                  let under : n1 + j + r < n1 + (r + i) = let a = away.0 in omega (arith, a) in
                  let within : n1 + j < n1 + length q2 = let a = away.1 in omega (arith, a) in
                  rw (lt-ltb (n1 + j + r) (n1 + (r + i)) under, lt-ltb (n1 + j) (n1 + length q2) within) refl
                  ∙ sym (stored_zero e_shape the_pivots the_lower (r + i) (n1 + j) below right (over_total (n1 + j) (r + i) over)
                  (before_pivot i (n1 + j) (λ pivoted. let low = least i pivoted in let a = away.0 in omega (arith, low, a))))
              | inr stays ↦
                  cond-false (nat_lt (n1 + j + r) (n1 + (r + i)) && nat_lt (n1 + j) (n1 + length q2)) 0 (at left_over (r + i) (n1 + j)) (not_moved i j stays)
                  ∙ right_entry i j bottom inside ∙ stayed i j bottom inside over stays
            ]
      ]
    where
      not_moved : (i j : ℕ) → (i ≤ j) ⊎ (length q2 ≤ j) → (nat_lt (n1 + j + r) (n1 + (r + i)) && nat_lt (n1 + j) (n1 + length q2)) ≡ false
      not_moved i j (inl over) = rw (le-ltb (n1 + j + r) (n1 + (r + i)) (omega (arith, over))) refl
      not_moved i j (inr past) = elim (cases_lt (n1 + j + r) (n1 + (r + i))) [
        | inl under ↦ rw (lt-ltb (n1 + j + r) (n1 + (r + i)) under, le-ltb (n1 + j) (n1 + length q2) (omega (arith, past))) refl
        | inr over ↦ rw (le-ltb (n1 + j + r) (n1 + (r + i)) over) refl
      ]

      stayed : (i j : ℕ) → i < k → j < n2 → (r + i ≤ n1 + j) ⊎ (r + length q2 ≤ n1 + j) → (i ≤ j) ⊎ (length q2 ≤ j)
          → at (stored q2 L2 E2) i j ≡ at (stored the_pivots the_lower the_echelon) (r + i) (n1 + j)
      stayed i j bottom inside over stays =
          let below : r + i < r + k = omega (arith, bottom) in
          let right : n1 + j < n1 + n2 = omega (arith, inside) in
          let above_it = over_total (n1 + j) (r + i) over in
          elim (cases_lt i (length q2)) [
            | inl within ↦ elim (cases_lt j (slice_index q2 i)) [
              | inl before ↦
                  stored_zero e2 q2 L2 i j bottom inside stays (inr before)
                  ∙ sym (stored_zero e_shape the_pivots the_lower (r + i) (n1 + j) below right above_it (before_pivot i (n1 + j) (λ pivoted. omega (arith, before))))
              | inr from ↦
                  stored_high e2 q2 L2 i j bottom inside stays within from
                  ∙ sym (stored_high e_shape the_pivots the_lower (r + i) (n1 + j) below right above_it (omega (arith, within, total)) (omega (arith, from, pivot_second i within))
                  ∙ at-quarters_22 e_top x e_zeros e2 i j bottom inside)
            ]
            | inr past ↦
                stored_zero e2 q2 L2 i j bottom inside stays (inl past)
                ∙ sym (stored_zero e_shape the_pivots the_lower (r + i) (n1 + j) below right above_it (before_pivot i (n1 + j) (λ pivoted. absurd (omega (arith, past, pivoted)))))
          ]

  pub same_entries_moved : (i j : ℕ) → i < r + k → j < n1 + n2 → moved_entry r n1 (length q2) left_over i j ≡ at (stored the_pivots the_lower the_echelon) i j
  same_entries_moved = by_quarters r k n1 n2 Same one two three four
