-- The factors that stand in place of a matrix, put together row by row.
use Rattle.std.proofs.Common.{Bool, true, false, ◌≡◌, ◌≢◌, ℕ, ◌+◌, ◌-◌, ◌<◌, ◌≤◌, ◌⊎◌, inl, inr, ⊎_elim, refl, sym, ◌∙◌, ap, arith, List, length, slice_index, get_or, set, drop, nat_lt, ◌&&◌, if◌then◌else◌, ◌==◌, get_or-take, get_or-drop}
use Rattle.std.proofs.lemmas.Bool.{cases_lt, cases_eq, eq-eqb, ne_eqb, lt-ltb, le-ltb, le-leb, lt-leb}
use Rattle.std.proofs.lemmas.List.{length-set, get_or-set_same, get_or-set_other}
use Rattle.m4_model.specs.Field.{Field}
use Rattle.m4_model.specs.Matrix.{Matrix, IsMatrix, HasShape, row, at, matrix_of, with_row, zero_matrix}
use Rattle.m4_model.specs.Factors.{IsUnitLower, Stored, StoredPluq}
use Rattle.m4_model.specs.Rank.{IsRising}
use Rattle.m4_model.proofs.MatrixLemmas.{at-table}
use Rattle.m4_model.proofs.ProductLemmas.{unit_at, unit_at-other}
use Rattle.m4_model.proofs.ShapeLemmas.{same_from_entries}
use Rattle.m4_model.proofs.FactorLemmas.{at-stored_lower, at-stored_pluq_lower, at-stored_pluq_upper}
use Rattle.m4_model.proofs.ExchangeLemmas.{rising_room}
use Rattle.m4_mzd.specs.Parts.{part, with_part}
use Rattle.m4_mzd.proofs.PlaceLemmas.{length-part, length-with_part, get_or-with_part_before, get_or-with_part_within, get_or-with_part_past}
use Rattle.m4_ple.specs.Elimination.{lower_part}
use Rattle.m4_ple.specs.Parts.{tail_entry, triangle_entry, triangle_part}
use Rattle.m4_ple.proofs.RowByRow.{same_made_entries, done_to, done_to-more, row-done_later}

no_lower : (a b : Bool) (i j x : ℕ) → b ≡ false → unit_at i j ≡ (if i == j then 1 else if a && b then x else 0)
no_lower true b i j x none = rw none refl
no_lower false b i j x none = refl

-- entry (i, j) of the unit lower factor whose first r columns stand below W's diagonal
abbrev pub lower_entry : ℕ → Matrix → ℕ → ℕ → ℕ
lower_entry r W i j = if i == j then 1 else if nat_lt j i && nat_lt j r then at W i j else 0

-- a row's entries from column c on, in place of another's
module _ (c : ℕ) (xs zs : List ℕ) (same : length zs ≡ length xs) (within : c ≤ length xs) where
  some : List ℕ
  some = part c (length xs - c) xs

  some_long : length some ≡ length xs - c
  unfolding some
  some_long = length-part c (length xs - c) xs (omega (arith, within))

  room : c + length some ≤ length zs
  room = omega (arith, some_long, same, within)

  pub length-tail_put : length (with_part c (part c (length xs - c) xs) zs) ≡ length zs
  unfolding some
  length-tail_put = length-with_part c some zs room

  pub tail_put-before : (j : ℕ) → j < c → get_or (with_part c (part c (length xs - c) xs) zs) j 0 ≡ get_or zs j 0
  unfolding some
  tail_put-before j before = get_or-with_part_before c some zs room j before

  pub tail_put-behind : (j : ℕ) → c ≤ j → j < length xs → get_or (with_part c (part c (length xs - c) xs) zs) j 0 ≡ get_or xs j 0
  unfolding some
  tail_put-behind j from inside =
      let place : c + (j - c) ≡ j = omega (arith, from) in
      get_or-with_part_within c some zs room j from (omega (arith, some_long, inside, from))
      ∙ get_or-take (length xs - c) (drop c xs) (j - c) 0 (omega (arith, inside, from)) ∙ get_or-drop c xs (j - c) 0 ∙ ap (λ (k : ℕ). get_or xs k 0) place

-- the first c entries of a row in place of another's, and a one
module _ (c i : ℕ) (xs zs : List ℕ) (within : c ≤ length xs) (before : c ≤ i) (inside : i < length zs) where
  made : List ℕ
  made = with_part 0 (part 0 c xs) zs

  front_long : length (part 0 c xs) ≡ c
  front_long = length-part 0 c xs (omega (arith, within))

  front_room : 0 + length (part 0 c xs) ≤ length zs
  front_room = omega (arith, front_long, before, inside)

  made_long : length made ≡ length zs
  unfolding made
  made_long = length-with_part 0 (part 0 c xs) zs front_room

  pub length-front_put : length (set (with_part 0 (part 0 c xs) zs) i 1) ≡ length zs
  unfolding made
  length-front_put = length-set made i 1 ∙ made_long

  pub front_put-one : (j : ℕ) → i ≡ j → get_or (set (with_part 0 (part 0 c xs) zs) i 1) j 0 ≡ 1
  unfolding made
  front_put-one j here = ap (λ (k : ℕ). get_or (set made i 1) k 0) (sym here) ∙ get_or-set_same made i 1 0 (omega (arith, made_long, inside))

  pub front_put-before : (j : ℕ) → j < c → get_or (set (with_part 0 (part 0 c xs) zs) i 1) j 0 ≡ get_or xs j 0
  unfolding made
  front_put-before j front =
      let place : j - 0 ≡ j = omega arith in
      get_or-set_other made i j 1 0 (λ here. absurd (omega (arith, here, front, before)))
      ∙ get_or-with_part_within 0 (part 0 c xs) zs front_room j (omega arith) (omega (arith, front_long, front))
      ∙ ap (λ (k : ℕ). get_or (part 0 c xs) k 0) place
      ∙ get_or-take c (drop 0 xs) j 0 front
      ∙ get_or-drop 0 xs j 0 ∙ ap (λ (k : ℕ). get_or xs k 0) (let e : 0 + j ≡ j = omega arith in e)

  pub front_put-rest : (j : ℕ) → c ≤ j → i ≢ j → get_or (set (with_part 0 (part 0 c xs) zs) i 1) j 0 ≡ get_or zs j 0
  unfolding made
  front_put-rest j rest other =
      get_or-set_other made i j 1 0 (λ here. other (sym here))
      ∙ get_or-with_part_past 0 (part 0 c xs) zs front_room j (omega (arith, front_long, rest))

no_entry : (r : ℕ) (W : Matrix) (i j c : ℕ) → i ≢ j → c ≤ j → (c ≡ i) ⊎ (c ≡ r) → lower_entry r W i j ≡ 0
no_entry r W i j c other rest (inl at_row) = rw (ne_eqb i j other, le-ltb j i (omega (arith, at_row, rest))) refl
no_entry r W i j c other rest (inr at_rank) =
    sym (no_lower (nat_lt j i) (nat_lt j r) i j (at W i j) (le-ltb j r (omega (arith, at_rank, rest)))) ∙ unit_at-other i j other

-- the unit lower factor, put into zeros
module _ (F : Field) (r : ℕ) (W Z : Matrix) (zeros : Z ≡ zero_matrix F W.rows W.rows) where
  -- one row more
  pub lower_put : (i c : ℕ) → IsMatrix Z → IsMatrix W → i < W.rows → c ≤ i → c ≤ r → c ≤ W.cols → (c ≡ i) ⊎ (c ≡ r)
      → with_row (done_to (lower_entry r W) Z i) i (set (with_part 0 (part 0 c (row W i)) (row (done_to (lower_entry r W) Z i) i)) i 1)
      ≡ done_to (lower_entry r W) Z (i + 1)
  lower_put i c z w inside before small within side =
      let g = lower_entry r W in
      let rows = ap (λ (M : Matrix). M.rows) zeros in
      let cols = ap (λ (M : Matrix). M.cols) zeros in
      let here : i < Z.rows = omega (arith, inside, rows) in
      let wide = z.width i here in
      let wide_w = w.width i inside in
      let xs = row W i in
      let zs = row Z i in
      let fits : c ≤ length xs = omega (arith, within, wide_w) in
      let on_diagonal : i < length zs = omega (arith, wide, cols, inside) in
      let none : (j : ℕ) → j < Z.cols → get_or (row Z i) j 0 ≡ 0
      = λ j in_row. ap (λ (M : Matrix). at M i j) zeros ∙ at-table W.rows W.rows (λ i j. 0) i j inside (omega (arith, in_row, cols)) in
      ap (λ (ys : List ℕ). with_row (done_to g Z i) i (set (with_part 0 (part 0 c xs) ys) i 1)) (row-done_later g Z z i i here (omega arith))
      ∙ done_to-more g Z i (set (with_part 0 (part 0 c xs) zs) i 1) here (length-front_put c i xs zs fits before on_diagonal ∙ wide)
      (λ j in_row. ⊎_elim
      (λ (same : i ≡ j). front_put-one c i xs zs fits before on_diagonal j same ∙ sym (rw (eq-eqb i j same) refl))
      (λ (other : i ≢ j). ⊎_elim
      (λ (front : j < c). front_put-before c i xs zs fits before on_diagonal j front
      ∙ sym (rw (ne_eqb i j other, lt-ltb j i (omega (arith, front, before)), lt-ltb j r (omega (arith, front, small))) refl))
      (λ (rest : c ≤ j). front_put-rest c i xs zs fits before on_diagonal j rest other ∙ none j in_row ∙ sym (no_entry r W i j c other rest side))
      (cases_lt j c))
      (cases_eq i j))

  -- all of them
  pub lowers_put : (k : ℕ) → W.rows ≤ k → done_to (lower_entry r W) Z k ≡ lower_part F W.rows r W
  lowers_put k all =
      ap (λ (M : Matrix). done_to (lower_entry r W) M k) zeros
      ∙ same_made_entries F W.rows W.rows (λ i j. if nat_lt i k then lower_entry r W i j else at (zero_matrix F W.rows W.rows) i j) (lower_entry r W)
      (λ i j below within. rw (lt-ltb i k (omega (arith, below, all))) refl)

-- rows that are kept from a column of each on
module _ (n : ℕ) (c : ℕ → ℕ) (W : Matrix) where
  pub tail_entry-before : (i j : ℕ) → i < n → j < c i → tail_entry n c W i j ≡ 0
  tail_entry-before i j inside before = rw (lt-ltb i n inside, lt-leb (c i) j before) refl

  pub tail_entry-behind : (i j : ℕ) → i < n → c i ≤ j → tail_entry n c W i j ≡ at W i j
  tail_entry-behind i j inside behind = rw (lt-ltb i n inside, le-leb (c i) j behind) refl

  pub tail_entry-past : (i j : ℕ) → n ≤ i → tail_entry n c W i j ≡ 0
  tail_entry-past i j past = rw (le-ltb i n past) refl

  -- put into zeros
  module _ (Z : Matrix) (zeros : Z ≡ zero_matrix W.field W.rows W.cols) where
    -- one row more
    pub tail_put : (i : ℕ) → IsMatrix Z → IsMatrix W → i < n → i < W.rows → c i ≤ W.cols
        → with_row (done_to (tail_entry n c W) Z i) i (with_part (c i) (part (c i) (W.cols - c i) (row W i)) (row (done_to (tail_entry n c W) Z i) i))
        ≡ done_to (tail_entry n c W) Z (i + 1)
    tail_put i z w inside below within =
        let g = tail_entry n c W in
        let rows = ap (λ (M : Matrix). M.rows) zeros in
        let cols = ap (λ (M : Matrix). M.cols) zeros in
        let here : i < Z.rows = omega (arith, below, rows) in
        let wide = z.width i here in
        let wide_w = w.width i below in
        let xs = row W i in
        let zs = row Z i in
        let same : length zs ≡ length xs = omega (arith, wide, wide_w, cols) in
        let fits : c i ≤ length xs = omega (arith, within, wide_w) in
        let none : (j : ℕ) → j < Z.cols → get_or (row Z i) j 0 ≡ 0
        = λ j in_row. ap (λ (M : Matrix). at M i j) zeros ∙ at-table W.rows W.cols (λ i j. 0) i j below (omega (arith, in_row, cols)) in
        ap (λ (ys : List ℕ). with_row (done_to g Z i) i (with_part (c i) (part (c i) (W.cols - c i) xs) ys)) (row-done_later g Z z i i here (omega arith))
        ∙ ap (λ (m : ℕ). with_row (done_to g Z i) i (with_part (c i) (part (c i) (m - c i) xs) zs)) (sym wide_w)
        ∙ done_to-more g Z i (with_part (c i) (part (c i) (length xs - c i) xs) zs) here (length-tail_put (c i) xs zs same fits ∙ wide)
        (λ j in_row. ⊎_elim
        (λ (front : j < c i). tail_put-before (c i) xs zs same fits j front ∙ none j in_row ∙ sym (tail_entry-before i j inside front))
        (λ (rest : c i ≤ j). tail_put-behind (c i) xs zs same fits j rest (omega (arith, in_row, wide, same)) ∙ sym (tail_entry-behind i j inside rest))
        (cases_lt j (c i)))

    -- all of them
    pub tails_put : (k : ℕ) → n ≤ k → done_to (tail_entry n c W) Z k ≡ matrix_of W.field W.rows W.cols (tail_entry n c W)
    tails_put k all =
        let g = tail_entry n c W in
        ap (λ (M : Matrix). done_to g M k) zeros
        ∙ same_made_entries W.field W.rows W.cols (λ i j. if nat_lt i k then g i j else at (zero_matrix W.field W.rows W.cols) i j) g (λ i j below within. ⊎_elim
        (λ (before : i < k). rw (lt-ltb i k before) refl)
        (λ (later : k ≤ i). rw (le-ltb i k later) (at-table W.rows W.cols (λ i j. 0) i j below within ∙ sym (tail_entry-past i j (omega (arith, later, all)))))
        (cases_lt i k))

-- a unit lower factor is told by what stands below its diagonal in its first columns
lower_form : {F : Field} {m : ℕ} {L : Matrix} (W : Matrix) → HasShape F m m L → (r : ℕ) → IsUnitLower r L → ((i j : ℕ) → i < m → j < i → j < r → at L i j ≡ at W i j)
    → lower_part F m r W ≡ L
lower_form {F} {m} {L} W l r form below_diagonal =
    let rows = l.rows in
    let cols = l.cols in
    sym (same_from_entries l (λ i j. if i == j then 1 else if nat_lt j i && nat_lt j r then at W i j else 0) (λ i j below within. ⊎_elim
    (λ (same : i ≡ j). rw (eq-eqb i j same) (ap (at L i) (sym same) ∙ form.diagonal i (omega (arith, below, rows))))
    (λ (other : i ≢ j). rw (ne_eqb i j other) (⊎_elim
    (λ (under : j < i). ⊎_elim
    (λ (left : j < r). rw (lt-ltb j i under, lt-ltb j r left) (below_diagonal i j below under left))
    (λ (right : r ≤ j). rw (lt-ltb j i under, le-ltb j r right) (form.rest i j right under (omega (arith, below, rows))))
    (cases_lt j r))
    (λ (over : i ≤ j). rw (le-ltb j i over) (form.above i j (omega (arith, over, other)) (omega (arith, within, cols))))
    (cases_lt j i)))
    (cases_eq i j)))

module _ {F : Field} {m n : ℕ} (W : Matrix) {L : Matrix} (l : HasShape F m m L) where
  -- the stored lower factor of a PLE
  pub lower_stored : {E : Matrix} (q : List ℕ) → HasShape F m n E → IsRising q → ((k : ℕ) → k < length q → slice_index q k < n) → Stored W q L E
      → lower_part F m (length q) W ≡ L
  lower_stored {E} q e rising columns held =
      let room = rising_room q n rising columns in
      lower_form W l (length q) held.l_form (λ i j below under left. sym (at-stored_lower e q L W held i j below (omega (arith, left, room)) under left))

  -- and of a PLUQ
  pub lower_stored_pluq : {U : Matrix} (r : ℕ) → HasShape F m n U → r ≤ n → StoredPluq W r L U → lower_part F m r W ≡ L
  lower_stored_pluq {U} r u room held =
      lower_form W l r held.l_form (λ i j below under left. sym (at-stored_pluq_lower u r L W held i j below (omega (arith, left, room)) under left))

-- the stored upper factor of a PLUQ
pub upper_stored : {F : Field} {m n : ℕ} (r : ℕ) (L U W : Matrix) → HasShape F m n U → W.field ≡ F → W.rows ≡ m → W.cols ≡ n → StoredPluq W r L U → triangle_part r W ≡ U
upper_stored {F} {m} {n} r L U W u field rows cols held =
    let u_rows = u.rows in
    let u_cols = u.cols in
    sym (same_from_entries u (triangle_entry r W) (λ i j below within. ⊎_elim
    (λ (inside : i < r). ⊎_elim
    (λ (before : j < i). held.u_zeros i j (omega (arith, below, u_rows)) (omega (arith, within, u_cols)) (inl before) ∙ sym (tail_entry-before r (λ i. i) W i j inside before))
    (λ (behind : i ≤ j). sym (at-stored_pluq_upper u r L W held i j below within inside behind) ∙ sym (tail_entry-behind r (λ i. i) W i j inside behind))
    (cases_lt j i))
    (λ (past : r ≤ i). held.u_zeros i j (omega (arith, below, u_rows)) (omega (arith, within, u_cols)) (inr past) ∙ sym (tail_entry-past r (λ i. i) W i j past))
    (cases_lt i r))
    ∙ sym (λ k. matrix_of (field k) (rows k) (cols k) (triangle_entry r W)))
