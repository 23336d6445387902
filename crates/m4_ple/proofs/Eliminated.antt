-- The state of an elimination in place: at the start, past a column without a pivot, past one with a pivot, and at the end.
use Rattle.std.proofs.Common.{Bool, true, false, ◌≡◌, ◌≢◌, ℕ, ◌+◌, ◌<◌, ◌≤◌, ◌⊎◌, inl, inr, ⊎_elim, refl, sym, ◌∙◌, ap, ap₂, subst, arith, bit_xor, List, [], ◌∷◌, ◌++◌, length, slice_index, get_or, take, set, nat_lt, nat_le, ◌&&◌, ◌==◌, if◌then◌else◌}
use Rattle.std.specs.List.{range_with_len, swap}
use Rattle.std.specs.Int.Bits.{xor_lt, xor_self, xor_zero_r}
use Rattle.std.proofs.Math.Pow.{pow_pos}
use Rattle.std.proofs.lemmas.Bool.{cases_lt, cases_eq, eq-eqb, ne_eqb, lt-ltb, le-ltb, le-leb, lt-leb}
use Rattle.std.proofs.lemmas.List.{take_more_set, get_or-set_other, length-set}
use Rattle.std.proofs.lemmas.List.FromFn.{length-range_with_len, get_or-range_with_len}
use Rattle.std.proofs.lemmas.List.Edits.{length-swap, swapped_from_swap}
use Rattle.m4_model.specs.Field.{Field, IsElement, mul}
use Rattle.m4_model.specs.Matrix.{Matrix, IsMatrix, HasShape, at, identity}
use Rattle.m4_model.specs.Shapes.{swaps}
use Rattle.m4_model.specs.Factors.{IsUnitLower, IsPle, stored}
use Rattle.m4_model.proofs.FieldLaws.{FieldLaws}
use Rattle.m4_model.proofs.FieldProofs.{field_laws}
use Rattle.m4_model.proofs.MatrixLemmas.{at-table}
use Rattle.m4_model.proofs.ProductLemmas.{unit_at, unit_at-same, unit_at-other}
use Rattle.m4_model.proofs.ShapeLemmas.{at_shape, HasShape-own, HasShape-matrix_of, IsField-shape, IsElement-shape, same_from_entries}
use Rattle.m4_model.proofs.SumLemmas.{mul-zero_left}
use Rattle.m4_model.proofs.RingLemmas.{HasShape-one, IsElement-unit_at}
use Rattle.m4_model.proofs.ExchangeLemmas.{rising_room}
use Rattle.m4_model.proofs.EliminationLemmas.{IsPartial, ple_from_partial, partial_start, partial_skip, partial_swap, partial_pivot, exchange, exchange-first, exchange-other, exchange_elim}
use Rattle.m4_ple.specs.Elimination.{IsEliminated, lower_part, upper_part, cleared, cleared_entry, factor_of, with_swapped}
use Rattle.m4_ple.specs.Held.{HoldsPle}
use Rattle.m4_ple.proofs.Clearing.{cleared-none, cleared-factor, cleared-column, cleared-before, cleared-after, at-cleared_other, at-cleared_row}
use Rattle.m4_ple.proofs.Exchanges.{swaps-more, swaps-range, AreSwaps-range, AreSwaps-more}

module _ (F : Field) (m n r : ℕ) (W : Matrix) where
  lower_at : ℕ → ℕ → ℕ
  lower_at i j = if i == j then 1 else if nat_lt j i && nat_lt j r then at W i j else 0

  upper_at : ℕ → ℕ → ℕ
  upper_at i j = if nat_lt j i && nat_lt j r then 0 else at W i j

  -- the entries of the two parts
  at-lower : (i j : ℕ) → i < m → j < m → at (lower_part F m r W) i j ≡ lower_at i j
  unfolding lower_at
  at-lower = at-table m m lower_at

  at-upper : (i j : ℕ) → i < m → j < n → at (upper_part F m n r W) i j ≡ upper_at i j
  unfolding upper_at
  at-upper = at-table m n upper_at

  lower_at-diagonal : (i j : ℕ) → i ≡ j → lower_at i j ≡ 1
  unfolding lower_at
  lower_at-diagonal i j same = rw (eq-eqb i j same) refl

  lower_at-held : (i j : ℕ) → j < i → j < r → lower_at i j ≡ at W i j
  unfolding lower_at
  lower_at-held i j under within = rw (ne_eqb i j (λ same. absurd (omega (arith, same, under))), lt-ltb j i under, lt-ltb j r within) refl

  lower_at-zero : (i j : ℕ) → (i < j) ⊎ ((i ≢ j) × (r ≤ j)) → lower_at i j ≡ 0
  unfolding lower_at
  lower_at-zero i j (inl over) = rw (ne_eqb i j (λ same. absurd (omega (arith, same, over))), le-ltb j i (omega (arith, over))) refl
  lower_at-zero i j (inr past) = rw (ne_eqb i j past.0) (from_test (nat_lt j i) (nat_lt j r) (le-ltb j r past.1))
    where
      from_test : (a b : Bool) → b ≡ false → (if a && b then at W i j else 0) ≡ 0
      from_test true b none = rw none refl
      from_test false b none = refl

  upper_at-zero : (i j : ℕ) → j < i → j < r → upper_at i j ≡ 0
  unfolding upper_at
  upper_at-zero i j under within = rw (lt-ltb j i under, lt-ltb j r within) refl

  upper_at-held : (i j : ℕ) → (i ≤ j) ⊎ (r ≤ j) → upper_at i j ≡ at W i j
  unfolding upper_at
  upper_at-held i j (inl over) = rw (le-ltb j i over) refl
  upper_at-held i j (inr past) = from_test (nat_lt j i) (nat_lt j r) (le-ltb j r past)
    where
      from_test : (a b : Bool) → b ≡ false → (if a && b then 0 else at W i j) ≡ at W i j
      from_test true b none = rw none refl
      from_test false b none = refl

  -- their shapes
  module _ (w : HasShape F m n W) where
    HasShape-upper : HasShape F m n (upper_part F m n r W)
    unfolding upper_at
    HasShape-upper = HasShape-matrix_of F m n upper_at (IsField-shape w) (λ i j in_rows in_cols. ⊎_elim
        (λ (under : j < i). ⊎_elim
        (λ (within : j < r). rw (upper_at-zero i j under within) (pow_pos F.degree))
        (λ (past : r ≤ j). rw (upper_at-held i j (inr past)) (IsElement-shape w i j in_rows in_cols))
        (cases_lt j r))
        (λ (over : i ≤ j). rw (upper_at-held i j (inl over)) (IsElement-shape w i j in_rows in_cols))
        (cases_lt j i))

    HasShape-lower : r ≤ n → HasShape F m m (lower_part F m r W)
    unfolding lower_at
    HasShape-lower room = HasShape-matrix_of F m m lower_at (IsField-shape w) (λ i j in_rows in_cols. ⊎_elim
        (λ (same : i ≡ j). rw (lower_at-diagonal i j same ∙ sym (unit_at-same i i refl)) (IsElement-unit_at F (IsField-shape w) i i))
        (λ (other : i ≢ j). ⊎_elim
        (λ (under : j < i). ⊎_elim
        (λ (within : j < r). rw (lower_at-held i j under within) (IsElement-shape w i j in_rows (omega (arith, within, room))))
        (λ (past : r ≤ j). rw (lower_at-zero i j (inr (other, past))) (pow_pos F.degree))
        (cases_lt j r))
        (λ (over : i ≤ j). rw (lower_at-zero i j (inl (omega (arith, over, other)))) (pow_pos F.degree))
        (cases_lt j i))
        (cases_eq i j))

-- at the start nothing is eliminated
pub eliminated_start : (A : Matrix) (q : List ℕ) → IsMatrix A → IsEliminated A (range_with_len 0 A.rows) q 0 0 A
unfolding lower_at upper_at
eliminated_start A q matrix =
    let laws = field_laws A.field matrix.over_field in
    let own = HasShape-own A matrix in
    let lower : identity A.field A.rows ≡ lower_part A.field A.rows 0 A
    = same_from_entries (HasShape-one A.field A.rows matrix.over_field) (lower_at A.field A.rows A.cols 0 A) (λ i j in_rows in_cols.
    at-table A.rows A.rows unit_at i j in_rows in_cols ∙ ⊎_elim
    (λ (same : i ≡ j). unit_at-same i j same ∙ sym (lower_at-diagonal A.field A.rows A.cols 0 A i j same))
    (λ (other : i ≢ j). unit_at-other i j other ∙ sym (lower_at-zero A.field A.rows A.cols 0 A i j (inr (other, omega arith))))
    (cases_eq i j)) in
    let upper : A ≡ upper_part A.field A.rows A.cols 0 A
    = same_from_entries own (upper_at A.field A.rows A.cols 0 A) (λ i j in_rows in_cols. sym (upper_at-held A.field A.rows A.cols 0 A i j (inr (omega arith)))) in
    record {
      shape = own;
      partial = subst (λ (L : Matrix). IsPartial A (swaps A.rows (range_with_len 0 A.rows)) (take 0 q) 0 0 L (upper_part A.field A.rows A.cols 0 A)) lower
          (subst (λ (S : Matrix). IsPartial A (swaps A.rows (range_with_len 0 A.rows)) (take 0 q) 0 0 (identity A.field A.rows) S) upper
          (subst (λ (order : List ℕ). IsPartial A order (take 0 q) 0 0 (identity A.field A.rows) A) (sym (swaps-range A.rows))
          (partial_start A laws matrix)));
      exchanges = AreSwaps-range A.rows;
      all = length-range_with_len 0 A.rows;
      stay = λ i from below. let e : 0 + i ≡ i = omega arith in get_or-range_with_len 0 A.rows i 0 below ∙ e;
    }

module _ {A W : Matrix} {p q : List ℕ} {r c : ℕ} (old : IsEliminated A p q r c W) where
  laws_of : FieldLaws A.field
  laws_of = field_laws A.field (IsField-shape old.shape)

  -- there are no more pivots than columns
  pub rank_reached : r ≤ c
  rank_reached = let room = rising_room (take r q) c old.partial.rising (λ k below. let rank = old.partial.rank in old.partial.columns k (omega (arith, below, rank))) in
      let rank = old.partial.rank in omega (arith, room, rank)

  -- the columns before are cleared from the row of the next pivot on
  pub eliminated_before : (i j : ℕ) → r ≤ i → i < A.rows → r ≤ j → j < c → at W i j ≡ 0
  eliminated_before i j from in_rows right left =
      let reach = old.partial.reach in
      sym (at-upper A.field A.rows A.cols r W i j in_rows (omega (arith, left, reach)) ∙ upper_at-held A.field A.rows A.cols r W i j (inr right))
      ∙ old.partial.below i j from in_rows left

  -- a column without a pivot
  pub eliminated_skip : c < A.cols → ((i : ℕ) → r ≤ i → i < A.rows → at W i c ≡ 0) → IsEliminated A p q r (c + 1) W
  eliminated_skip inside none = record {
    shape = old.shape;
    partial = partial_skip A (swaps A.rows p) (take r q) r c (lower_part A.field A.rows r W) (upper_part A.field A.rows A.cols r W) old.partial inside
        (λ i from below.
        at-upper A.field A.rows A.cols r W i c below inside
        ∙ upper_at-held A.field A.rows A.cols r W i c (inr rank_reached) ∙ none i from below);
    exchanges = old.exchanges;
    all = old.all;
    stay = old.stay;
  }

-- a row of the matrix with two rows exchanged
row_swap : (xs : List (List ℕ)) (r s i : ℕ) → r < length xs → s < length xs → get_or (swap xs r s) i [] ≡ get_or xs (exchange r s i) []
row_swap xs r s i first second =
    let swapped = swapped_from_swap xs (swap xs r s) r s [] first second refl in
    exchange_elim (λ i k. get_or (swap xs r s) i [] ≡ get_or xs k []) r s i swapped.0 swapped.1 (swapped.2 i)

-- an exchange of rows stays within the matrix
pub exchange-within : (r s i n : ℕ) → r < n → s < n → i < n → exchange r s i < n
exchange-within r s i n first second below = exchange_elim (λ _ k. k < n) r s i second first (λ _ _. below)

-- a number above both stays, and one between stays between
exchange-side : (r s i : ℕ) → r ≤ s → (i < r) ⊎ (r ≤ i) → ((i < r) × (exchange r s i ≡ i)) ⊎ ((r ≤ i) × (r ≤ exchange r s i))
exchange-side r s i order (inl above) =
    inl (above, exchange-other r s i (λ same. absurd (omega (arith, same, above))) (λ same. absurd (omega (arith, same, above, order))))
exchange-side r s i order (inr from) = inr (from, exchange_elim (λ _ k. r ≤ k) r s i order (let e : r ≤ r = omega arith in e) (λ _ _. from))

-- a column that is zero from row r on is so after the exchange
pub swapped_blank : (W : Matrix) (r s j : ℕ) → length W.entries ≡ W.rows → r ≤ s → s < W.rows → ((i : ℕ) → r ≤ i → i < W.rows → at W i j ≡ 0)
    → (i : ℕ) → r ≤ i → i < W.rows → at (with_swapped W r s) i j ≡ 0
swapped_blank W r s j height order below blank i from in_rows =
    let first : r < W.rows = omega (arith, order, below) in
    ap (λ (xs : List ℕ). get_or xs j 0) (row_swap W.entries r s i (omega (arith, first, height)) (omega (arith, below, height)))
    ∙ exchange_elim (λ _ k. at W k j ≡ 0) r s i (blank s order below) (blank r (omega arith) first) (λ _ _. blank i from in_rows)

module _ {F : Field} {m n : ℕ} (W : Matrix) (w : HasShape F m n W) (r s : ℕ) (first : r < m) (second : s < m) where
  -- the entries after the exchange
  pub at-swapped : (i j : ℕ) → at (with_swapped W r s) i j ≡ at W (exchange r s i) j
  at-swapped i j =
      let height = w.is_matrix.height in
      let rows = w.rows in
      ap (λ (xs : List ℕ). get_or xs j 0) (row_swap W.entries r s i (omega (arith, first, height, rows)) (omega (arith, second, height, rows)))

  pub HasShape-swapped : HasShape F m n (with_swapped W r s)
  HasShape-swapped =
      let height = w.is_matrix.height in
      let rows = w.rows in
      record {
        is_matrix = record {
          over_field = w.is_matrix.over_field;
          height = length-swap W.entries r s ∙ height;
          width = λ i below.
              rw (row_swap W.entries r s i (omega (arith, first, height, rows)) (omega (arith, second, height, rows)))
              (w.is_matrix.width (exchange r s i) (exchange-within r s i W.rows (omega (arith, first, rows)) (omega (arith, second, rows)) below));
          elements = λ i j below within.
              rw (at-swapped i j)
              (w.is_matrix.elements (exchange r s i) j (exchange-within r s i W.rows (omega (arith, first, rows)) (omega (arith, second, rows)) below) within);
        };
        over = w.over;
        rows = w.rows;
        cols = w.cols;
      }

module _ {A W : Matrix} {p q : List ℕ} {r c : ℕ} (old : IsEliminated A p q r c W) (s : ℕ) (order : r ≤ s) (below : s < A.rows) where
  Moved : Matrix
  Moved = with_swapped W r s

  moved_shape : HasShape A.field A.rows A.cols Moved
  unfolding Moved
  moved_shape = HasShape-swapped W old.shape r s (omega (arith, order, below)) below

  at_moved : (i j : ℕ) → at Moved i j ≡ at W (exchange r s i) j
  unfolding Moved
  at_moved = at-swapped W old.shape r s (omega (arith, order, below)) below

  narrow : r ≤ A.cols
  narrow = let reach = old.partial.reach in let reached = rank_reached old in omega (arith, reach, reached)

  -- rows r and s are exchanged
  swapped_partial : IsPartial A (swap (swaps A.rows p) r s) (take r q) r c (lower_part A.field A.rows r Moved) (upper_part A.field A.rows A.cols r Moved)
  swapped_partial =
      let m = A.rows in
      let n = A.cols in
      let F = A.field in
      let first : r < m = omega (arith, order, below) in
      partial_swap A (swaps A.rows p) (take r q) r c s (lower_part F m r W) (upper_part F m n r W) (lower_part F m r Moved) (upper_part F m n r Moved)
      (laws_of old) old.partial order below (HasShape-lower F m n r Moved moved_shape narrow) (HasShape-upper F m n r Moved moved_shape)
      (λ i j in_rows left.
      let in_cols : j < m = omega (arith, left, first) in
      at-lower F m n r Moved i j in_rows in_cols
      ∙ elim (exchange-side r s i order (cases_lt i r)) [
        | inl above ↦
            (⊎_elim
            (λ (same : i ≡ j). lower_at-diagonal F m n r Moved i j same ∙ sym (lower_at-diagonal F m n r W i j same))
            (λ (other : i ≢ j). ⊎_elim
            (λ (under : j < i). lower_at-held F m n r Moved i j under left ∙ at_moved i j ∙ ap (λ (i : ℕ). at W i j) above.1 ∙ sym (lower_at-held F m n r W i j under left))
            (λ (over : i ≤ j). lower_at-zero F m n r Moved i j (inl (omega (arith, over, other))) ∙ sym (lower_at-zero F m n r W i j (inl (omega (arith, over, other)))))
            (cases_lt j i))
            (cases_eq i j))
            ∙ sym (at-lower F m n r W i j in_rows in_cols) ∙ ap (λ (i : ℕ). at (lower_part F m r W) i j) (sym above.1)
        | inr from ↦
            let under : j < i = let low = from.0 in omega (arith, left, low) in
            let under_too : j < exchange r s i = let low = from.1 in omega (arith, left, low) in
            lower_at-held F m n r Moved i j under left ∙ at_moved i j ∙ sym (lower_at-held F m n r W (exchange r s i) j under_too left)
            ∙ sym (at-lower F m n r W (exchange r s i) j (exchange-within r s i m first below in_rows) in_cols)
      ])
      (λ i j in_rows right in_cols.
      at-lower F m n r Moved i j in_rows in_cols
      ∙ ⊎_elim
      (λ (same : i ≡ j). lower_at-diagonal F m n r Moved i j same ∙ sym (lower_at-diagonal F m n r W i j same))
      (λ (other : i ≢ j). lower_at-zero F m n r Moved i j (inr (other, right)) ∙ sym (lower_at-zero F m n r W i j (inr (other, right))))
      (cases_eq i j)
      ∙ sym (at-lower F m n r W i j in_rows in_cols))
      (λ i j in_rows in_cols.
      at-upper F m n r Moved i j in_rows in_cols
      ∙ elim (exchange-side r s i order (cases_lt i r)) [
        | inl above ↦
            (⊎_elim
            (λ (under : j < i).
            let left : j < r = let high = above.0 in omega (arith, under, high) in
            upper_at-zero F m n r Moved i j under left ∙ sym (upper_at-zero F m n r W i j under left))
            (λ (over : i ≤ j). upper_at-held F m n r Moved i j (inl over) ∙ at_moved i j ∙ ap (λ (i : ℕ). at W i j) above.1 ∙ sym (upper_at-held F m n r W i j (inl over)))
            (cases_lt j i))
            ∙ sym (at-upper F m n r W i j in_rows in_cols) ∙ ap (λ (i : ℕ). at (upper_part F m n r W) i j) (sym above.1)
        | inr from ↦
            (⊎_elim
            (λ (left : j < r).
            let low = from.0 in
            let low_too = from.1 in
            upper_at-zero F m n r Moved i j (omega (arith, left, low)) left ∙ sym (upper_at-zero F m n r W (exchange r s i) j (omega (arith, left, low_too)) left))
            (λ (right : r ≤ j). upper_at-held F m n r Moved i j (inr right) ∙ at_moved i j ∙ sym (upper_at-held F m n r W (exchange r s i) j (inr right)))
            (cases_lt j r))
            ∙ sym (at-upper F m n r W (exchange r s i) j (exchange-within r s i m first below in_rows) in_cols)
      ])

-- a cleared entry is an element
IsElement-cleared : {F : Field} {m n : ℕ} (V : Matrix) → HasShape F m n V → (inverse r c i j : ℕ) → IsElement F inverse → r < m → i < m → c < n → j < n
    → IsElement F (cleared_entry inverse r c V i j)
IsElement-cleared {F} {m} {n} V v inverse r c i j element first below column within =
    let laws = field_laws F (IsField-shape v) in
    let own = IsElement-shape v i j below within in
    let factor : IsElement F (factor_of inverse c V i)
    = subst (λ (G : Field). IsElement F (mul G (at V i c) inverse)) (sym v.over) (laws.closed (at V i c) inverse (IsElement-shape v i c below column) element) in
    let multiple : IsElement F (mul V.field (at V r j) (factor_of inverse c V i))
    = subst (λ (G : Field). IsElement F (mul G (at V r j) (factor_of inverse c V i))) (sym v.over) (laws.closed (at V r j) (factor_of inverse c V i) (IsElement-shape v r j first within) factor) in
    from_tests (at V i c == 0) (j == r) (j == c) (nat_lt j c) own factor
    (pow_pos F.degree) (xor_lt F.degree (at V i j) (mul V.field (at V r j) (factor_of inverse c V i)) own multiple)
  where
    from_tests : (a b d e : Bool) {x y z : ℕ} → IsElement F x → IsElement F y → IsElement F 0 → IsElement F z
        → IsElement F (if a then x else if b then y else if d then 0 else if e then x else z)
    from_tests true b d e own one none sum = own
    from_tests false true d e own one none sum = one
    from_tests false false true e own one none sum = none
    from_tests false false false true own one none sum = own
    from_tests false false false false own one none sum = sum

pub HasShape-cleared : {F : Field} {m n : ℕ} (V : Matrix) → HasShape F m n V → (inverse r c k : ℕ) → IsElement F inverse → r < m → c < n
    → HasShape F m n (cleared inverse r c k V)
HasShape-cleared {F} {m} {n} V v inverse r c k element first column =
    let rows = v.rows in
    let cols = v.cols in
    at_shape v (λ F m n. HasShape F m n (cleared inverse r c k V))
    (HasShape-matrix_of V.field V.rows V.cols (λ i j. if nat_lt r i && nat_lt i k then cleared_entry inverse r c V i j else at V i j) v.is_matrix.over_field
    (λ i j below within.
    from_test (nat_lt r i && nat_lt i k)
    (IsElement-cleared V (HasShape-own V v.is_matrix) inverse r c i j (subst (λ (G : Field). IsElement G inverse) (sym v.over) element) (omega (arith, first, rows)) below (omega (arith, column, cols)) within)
    (v.is_matrix.elements i j below within)))
  where
    from_test : (a : Bool) {x y : ℕ} → IsElement V.field x → IsElement V.field y → IsElement V.field (if a then x else y)
    from_test true first second = first
    from_test false first second = second

module _ {A W : Matrix} {p q : List ℕ} {r c : ℕ} (old : IsEliminated A p q r c W) (s : ℕ) (order : r ≤ s) (below : s < A.rows) (inside : c < A.cols)
    (inverse : ℕ) (element : IsElement A.field inverse) (inverts : mul A.field (at W s c) inverse ≡ 1) where
  V : Matrix
  V = with_swapped W r s

  C : Matrix
  unfolding V
  C = cleared inverse r c W.rows V

  v : HasShape A.field A.rows A.cols V
  unfolding V Moved
  v = moved_shape old s order below

  first : r < A.rows
  first = omega (arith, order, below)

  reached : r ≤ c
  reached = rank_reached old

  partial : IsPartial A (swap (swaps A.rows p) r s) (take r q) r c (lower_part A.field A.rows r V) (upper_part A.field A.rows A.cols r V)
  unfolding V Moved
  partial = swapped_partial old s order below

  -- the pivot and its inverse
  pivot_inverted : mul A.field (at V r c) inverse ≡ 1
  unfolding V Moved
  pivot_inverted =
      ap (λ (x : ℕ). mul A.field x inverse) (at_moved old s order below r c ∙ ap (λ (i : ℕ). at W i c) (exchange-first r s)) ∙ inverts

  pivot_some : at V r c ≢ 0
  pivot_some none =
      let one : 0 ≡ 1 = sym (ap (λ (x : ℕ). mul A.field x inverse) none ∙ mul-zero_left A.field (laws_of old) inverse) ∙ pivot_inverted in
      absurd (omega (arith, one))

  -- what is cleared already
  blank : (i j : ℕ) → r ≤ i → i < A.rows → r ≤ j → j < c → at V i j ≡ 0
  blank i j from in_rows right left =
      sym (at-upper A.field A.rows A.cols r V i j in_rows (omega (arith, left, inside)) ∙ upper_at-held A.field A.rows A.cols r V i j (inr right))
      ∙ partial.below i j from in_rows left

  -- the factors, which times the pivot are the entries to be cleared
  factor : ℕ → ℕ
  factor i = mul A.field (at V i c) inverse

  factor-of : (i : ℕ) → factor_of inverse c V i ≡ factor i
  unfolding factor V
  factor-of i = ap (λ (F : Field). mul F (at V i c) inverse) v.over

  factor-none : (i : ℕ) → at V i c ≡ 0 → factor i ≡ 0
  unfolding factor
  factor-none i none = ap (λ (x : ℕ). mul A.field x inverse) none ∙ mul-zero_left A.field (laws_of old) inverse

  factor-pivot : (i : ℕ) → i < A.rows → mul A.field (factor i) (at V r c) ≡ at V i c
  unfolding factor
  factor-pivot i in_rows =
      let laws = laws_of old in
      let x = at V i c in
      laws.assoc x inverse (at V r c)
      ∙ ap (mul A.field x) (laws.comm inverse (at V r c) ∙ pivot_inverted)
      ∙ laws.comm x 1 ∙ laws.unit x (IsElement-shape v i c in_rows inside)

  c_upper : (i j : ℕ) → i ≤ r → j < A.cols → at C i j ≡ at V i j
  unfolding C
  c_upper i j high within =
      let rows = v.rows in
      let cols = v.cols in
      at-cleared_other inverse r c V W.rows i j (omega (arith, high, first, rows)) (omega (arith, within, cols)) (inl high)

  c_below : (i j : ℕ) → r < i → i < A.rows → j < A.cols → at C i j ≡ cleared_entry inverse r c V i j
  unfolding C V
  c_below i j low in_rows within =
      let rows = v.rows in
      let cols = v.cols in
      at-cleared_row inverse r c V W.rows i j (omega (arith, in_rows, rows)) (omega (arith, within, cols)) low (omega (arith, in_rows, rows))

  -- L's columns stay
  c_left : (i j : ℕ) → i < A.rows → j < r → at C i j ≡ at V i j
  c_left i j in_rows left = ⊎_elim
      (λ (low : r < i). c_below i j low in_rows (omega (arith, left, reached, inside)) ∙ ⊎_elim
      (λ (none : at V i c ≡ 0). cleared-none inverse r c V i j none)
      (λ (some : at V i c ≢ 0). cleared-before inverse r c V i some j (λ same. absurd (omega (arith, same, left))) (omega (arith, left, reached)))
      (cases_eq (at V i c) 0))
      (λ (high : i ≤ r). c_upper i j high (omega (arith, left, reached, inside)))
      (cases_lt r i)

  c_shape : HasShape A.field A.rows A.cols C
  unfolding C V
  c_shape = HasShape-cleared V v inverse r c W.rows element first inside

  -- the factors stand in column r
  c_factor : (i : ℕ) → r < i → i < A.rows → at C i r ≡ factor i
  c_factor i low in_rows = c_below i r low in_rows (omega (arith, reached, inside)) ∙ ⊎_elim
      (λ (none : at V i c ≡ 0). cleared-none inverse r c V i r none ∙ ⊎_elim
      (λ (left : r < c). blank i r (omega (arith, low)) in_rows (let e : r ≤ r = omega arith in e) left)
      (λ (here : c ≤ r). let same : r ≡ c = omega (arith, here, reached) in ap (at V i) same ∙ none)
      (cases_lt r c) ∙ sym (factor-none i none))
      (λ (some : at V i c ≢ 0). cleared-factor inverse r c V i some r refl ∙ factor-of i)
      (cases_eq (at V i c) 0)

  -- the rows below, where a multiple of row r is added
  upper_below : (i j : ℕ) → r < i → i < A.rows → j < A.cols
      → upper_at A.field A.rows A.cols (r + 1) C i j ≡ bit_xor (upper_at A.field A.rows A.cols r V i j) (mul A.field (factor i) (upper_at A.field A.rows A.cols r V r j))
  upper_below i j low in_rows within =
      let F = A.field in
      let m = A.rows in
      let n = A.cols in
      let laws = laws_of old in
      let here_first : r ≤ r = omega arith in
      let held : (k : ℕ) → r ≤ k → upper_at F m n r V i k ≡ at V i k = λ k right. upper_at-held F m n r V i k (inr right) in
      let held_first : (k : ℕ) → r ≤ k → upper_at F m n r V r k ≡ at V r k = λ k right. upper_at-held F m n r V r k (inr right) in
      let blank_sum : (k : ℕ) → r ≤ k → k < c → bit_xor (at V i k) (mul F (factor i) (at V r k)) ≡ 0
      = λ k right left.
      ap₂ bit_xor (blank i k (omega (arith, low)) in_rows right left)
      (ap (mul F (factor i)) (blank r k here_first first right left) ∙ laws.annihilates (factor i)) ∙ xor_zero_r 0 in
      let pivot_sum : bit_xor (at V i c) (mul F (factor i) (at V r c)) ≡ 0
      = ap (bit_xor (at V i c)) (factor-pivot i in_rows) ∙ xor_self (at V i c) in
      ⊎_elim
      (λ (left : j < r).
      upper_at-zero F m n (r + 1) C i j (omega (arith, left, low)) (omega (arith, left))
      ∙ sym (ap₂ bit_xor (upper_at-zero F m n r V i j (omega (arith, left, low)) left)
      (ap (mul F (factor i)) (upper_at-zero F m n r V r j left left) ∙ laws.annihilates (factor i)) ∙ xor_zero_r 0))
      (λ (right : r ≤ j). ⊎_elim
      (λ (here : j ≡ r).
      upper_at-zero F m n (r + 1) C i j (omega (arith, here, low)) (omega (arith, here))
      ∙ sym (rw (held j right, held_first j right) (⊎_elim
      (λ (left : r < c). blank_sum j right (omega (arith, here, left)))
      (λ (at_pivot : c ≤ r). let same : j ≡ c = omega (arith, here, at_pivot, reached) in rw same pivot_sum)
      (cases_lt r c))))
      (λ (away : j ≢ r).
      upper_at-held F m n (r + 1) C i j (inr (omega (arith, right, away)))
      ∙ c_below i j low in_rows within
      ∙ sym (rw (held j right, held_first j right) (⊎_elim
      (λ (none : at V i c ≡ 0).
      ap (bit_xor (at V i j)) (ap (λ (x : ℕ). mul F x (at V r j)) (factor-none i none) ∙ mul-zero_left F laws (at V r j))
      ∙ xor_zero_r (at V i j) ∙ sym (cleared-none inverse r c V i j none))
      (λ (some : at V i c ≢ 0). ⊎_elim
      (λ (column : j ≡ c). rw column pivot_sum ∙ sym (cleared-column inverse r c V i some j away column))
      (λ (not_column : j ≢ c). ⊎_elim
      (λ (before : j < c). blank_sum j right before
      ∙ sym (cleared-before inverse r c V i some j away before ∙ blank i j (omega (arith, low)) in_rows right before))
      (λ (from : c ≤ j).
      ap (bit_xor (at V i j)) (laws.comm (factor i) (at V r j) ∙ ap₂ (λ (G : Field) (x : ℕ). mul G (at V r j) x) (sym v.over) (sym (factor-of i)))
      ∙ sym (cleared-after inverse r c V i some j away (omega (arith, from, not_column))))
      (cases_lt j c))
      (cases_eq j c))
      (cases_eq (at V i c) 0))))
      (cases_eq j r))
      (cases_lt j r)

  -- past a column with a pivot
  pivot_partial : IsPartial A (swap (swaps A.rows p) r s) (take r q ++ c ∷ []) (r + 1) (c + 1) (lower_part A.field A.rows (r + 1) C) (upper_part A.field A.rows A.cols (r + 1) C)
  pivot_partial =
      let F = A.field in
      let m = A.rows in
      let n = A.cols in
      partial_pivot A (swap (swaps A.rows p) r s) (take r q) r c (lower_part F m r V) (upper_part F m n r V) (lower_part F m (r + 1) C) (upper_part F m n (r + 1) C)
      factor (laws_of old) partial first inside
      (λ none. pivot_some (sym (at-upper F m n r V r c first inside ∙ upper_at-held F m n r V r c (inl reached)) ∙ none))
      (HasShape-lower F m n (r + 1) C c_shape (omega (arith, reached, inside))) (HasShape-upper F m n (r + 1) C c_shape)
      (λ i j in_rows in_cols other.
      at-lower F m n (r + 1) C i j in_rows in_cols
      ∙ ⊎_elim
      (λ (same : i ≡ j). lower_at-diagonal F m n (r + 1) C i j same ∙ sym (lower_at-diagonal F m n r V i j same))
      (λ (apart : i ≢ j). ⊎_elim
      (λ (under : j < i). ⊎_elim
      (λ (left : j < r). lower_at-held F m n (r + 1) C i j under (omega (arith, left)) ∙ c_left i j in_rows left ∙ sym (lower_at-held F m n r V i j under left))
      (λ (right : r ≤ j). lower_at-zero F m n (r + 1) C i j (inr (apart, omega (arith, right, other))) ∙ sym (lower_at-zero F m n r V i j (inr (apart, right))))
      (cases_lt j r))
      (λ (over : i ≤ j). lower_at-zero F m n (r + 1) C i j (inl (omega (arith, over, apart))) ∙ sym (lower_at-zero F m n r V i j (inl (omega (arith, over, apart)))))
      (cases_lt j i))
      (cases_eq i j)
      ∙ sym (at-lower F m n r V i j in_rows in_cols))
      (λ i high.
      at-lower F m n (r + 1) C i r (omega (arith, high, first)) first
      ∙ ⊎_elim
      (λ (same : i ≡ r). lower_at-diagonal F m n (r + 1) C i r same ∙ sym (lower_at-diagonal F m n r V i r same))
      (λ (apart : i ≢ r). lower_at-zero F m n (r + 1) C i r (inl (omega (arith, high, apart))) ∙ sym (lower_at-zero F m n r V i r (inl (omega (arith, high, apart)))))
      (cases_eq i r)
      ∙ sym (at-lower F m n r V i r (omega (arith, high, first)) first))
      (λ i low in_rows. at-lower F m n (r + 1) C i r in_rows first ∙ lower_at-held F m n (r + 1) C i r low (omega arith) ∙ c_factor i low in_rows)
      (λ i j high within.
      let in_rows : i < m = omega (arith, high, first) in
      at-upper F m n (r + 1) C i j in_rows within
      ∙ ⊎_elim
      (λ (under : j < i). upper_at-zero F m n (r + 1) C i j under (omega (arith, under, high)) ∙ sym (upper_at-zero F m n r V i j under (omega (arith, under, high))))
      (λ (over : i ≤ j). upper_at-held F m n (r + 1) C i j (inl over) ∙ c_upper i j high within ∙ sym (upper_at-held F m n r V i j (inl over)))
      (cases_lt j i)
      ∙ sym (at-upper F m n r V i j in_rows within))
      (λ i j low in_rows within.
      at-upper F m n (r + 1) C i j in_rows within
      ∙ upper_below i j low in_rows within
      ∙ sym (ap₂ bit_xor (at-upper F m n r V i j in_rows within) (ap (mul F (factor i)) (at-upper F m n r V r j first within))))
      (λ i low in_rows.
      at-upper F m n (r + 1) C i c in_rows inside
      ∙ ⊎_elim
      (λ (left : r < c).
      upper_at-held F m n (r + 1) C i c (inr (omega (arith, left)))
      ∙ c_below i c low in_rows inside
      ∙ ⊎_elim
      (λ (none : at V i c ≡ 0). cleared-none inverse r c V i c none ∙ none)
      (λ (some : at V i c ≢ 0). cleared-column inverse r c V i some c (λ same. absurd (omega (arith, same, left))) refl)
      (cases_eq (at V i c) 0))
      (λ (here : c ≤ r). upper_at-zero F m n (r + 1) C i c (omega (arith, here, low)) (omega (arith, here)))
      (cases_lt r c))

  pub eliminated_pivot : r < length q → IsEliminated A (set p r s) (set q r c) (r + 1) (c + 1) (cleared inverse r c W.rows (with_swapped W r s))
  unfolding C V
  eliminated_pivot room = record {
    shape = c_shape;
    partial = subst (λ (found : List ℕ). IsPartial A (swaps A.rows (set p r s)) found (r + 1) (c + 1) (lower_part A.field A.rows (r + 1) C) (upper_part A.field A.rows A.cols (r + 1) C))
        (sym (take_more_set q r c room))
        (subst (λ (rows : List ℕ). IsPartial A rows (take r q ++ c ∷ []) (r + 1) (c + 1) (lower_part A.field A.rows (r + 1) C) (upper_part A.field A.rows A.cols (r + 1) C))
        (sym (swaps-more A.rows r s p old.all first below old.stay)) pivot_partial);
    exchanges = AreSwaps-more A.rows r s p old.exchanges order below (let all = old.all in let f = first in omega (arith, f, all));
    all = length-set p r s ∙ old.all;
    stay = λ i from in_rows. get_or-set_other p r i s 0 (λ same. absurd (omega (arith, same, from))) ∙ old.stay i (omega (arith, from)) in_rows;
  }

module _ {A W : Matrix} {p q : List ℕ} {r c : ℕ} (old : IsEliminated A p q r c W) (done : A.cols ≤ c) where
  E : Matrix
  E = upper_part A.field A.rows A.cols r W

  L : Matrix
  L = lower_part A.field A.rows r W

  whole : IsPartial A (swaps A.rows p) (take r q) r A.cols L E
  unfolding L E
  whole = let reach = old.partial.reach in
      let same : c ≡ A.cols = omega (arith, reach, done) in
      subst (λ (c : ℕ). IsPartial A (swaps A.rows p) (take r q) r c (lower_part A.field A.rows r W) (upper_part A.field A.rows A.cols r W)) same old.partial

  zeros : (i j : ℕ) → i < A.rows → j < A.cols → (length (take r q) ≤ i) ⊎ (j < slice_index (take r q) i) → at E i j ≡ 0
  zeros i j below within side =
      let rank = whole.rank in
      ⊎_elim
      (λ (pivoted : i < r). whole.before i j pivoted (⊎_elim (λ (past : length (take r q) ≤ i). absurd (omega (arith, past, rank, pivoted))) (λ (before : j < slice_index (take r q) i). before) side))
      (λ (rest : r ≤ i). whole.below i j rest below within)
      (cases_lt i r)

  -- what is left in the place of A
  kept : W ≡ stored (take r q) L E
  unfolding L E
  kept =
      let F = A.field in
      let m = A.rows in
      let n = A.cols in
      let rank = whole.rank in
      same_from_entries old.shape (λ i j.
      if nat_lt j i && nat_lt j (length (take r q)) then at L i j
      else if nat_lt i (length (take r q)) && nat_le (slice_index (take r q) i) j then at E i j else 0)
      (λ i j below within. ⊎_elim
      (λ (under : j < i). ⊎_elim
      (λ (left : j < r).
      rw (lt-ltb j i under, lt-ltb j (length (take r q)) (omega (arith, left, rank)))
      (sym (at-lower F m n r W i j below (omega (arith, under, below)) ∙ lower_at-held F m n r W i j under left)))
      (λ (right : r ≤ j).
      rw (lt-ltb j i under, le-ltb j (length (take r q)) (omega (arith, right, rank)), le-ltb i (length (take r q)) (omega (arith, right, under, rank)))
      (sym (at-upper F m n r W i j below within ∙ upper_at-held F m n r W i j (inr right)) ∙ zeros i j below within (inl (omega (arith, right, under, rank)))))
      (cases_lt j r))
      (λ (over : i ≤ j).
      rw (le-ltb j i over) (sym (at-upper F m n r W i j below within ∙ upper_at-held F m n r W i j (inl over)) ∙ ⊎_elim
      (λ (pivoted : i < r). ⊎_elim
      (λ (before : j < slice_index (take r q) i).
      rw (lt-ltb i (length (take r q)) (omega (arith, pivoted, rank)), lt-leb (slice_index (take r q) i) j before) (zeros i j below within (inr before)))
      (λ (from : slice_index (take r q) i ≤ j).
      rw (lt-ltb i (length (take r q)) (omega (arith, pivoted, rank)), le-leb (slice_index (take r q) i) j from) refl)
      (cases_lt j (slice_index (take r q) i)))
      (λ (rest : r ≤ i). rw (le-ltb i (length (take r q)) (omega (arith, rest, rank))) (zeros i j below within (inl (omega (arith, rest, rank)))))
      (cases_lt i r)))
      (cases_lt j i))

  -- at the last column a PLE is held
  pub eliminated_done : HoldsPle A (swaps A.rows p) (take r q) W
  unfolding L E
  eliminated_done = record {
    l = L;
    e = E;
    factors = subst (λ (k : ℕ). IsPle A (swaps A.rows p) (take r q) k L E) (sym whole.rank) (ple_from_partial A (swaps A.rows p) (take r q) r L E whole);
    stored = record {
      table = kept;
      l_form = subst (λ (k : ℕ). IsUnitLower k L) (sym whole.rank) whole.l_form;
      e_zeros = zeros;
    };
  }
