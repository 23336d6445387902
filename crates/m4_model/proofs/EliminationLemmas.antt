-- Elimination column by column: a factorization of which the first c columns are in echelon form, from the start
-- through each exchange, each pivot and each column without one to a PLE.
use Rattle.std.proofs.Common.{◌≡◌, ◌≢◌, ℕ, ◌+◌, ◌-◌, ◌<◌, ◌≤◌, ◌⊎◌, inl, inr, ⊎_elim, refl, sym, ◌∙◌, ap, ap₂, subst, arith, bit_xor, List, [], ◌∷◌, ◌++◌, length, slice_index, swap, length-append, le_refl, if◌then◌else◌, ◌==◌}
use Rattle.std.specs.List.{range_with_len}
use Rattle.std.specs.Int.Bits.{xor_self, xor_zero_r}
use Rattle.std.proofs.lemmas.List.{get_or_append_left, get_or-append_right}
use Rattle.std.proofs.lemmas.List.FromFn.{get_or-range_with_len}
use Rattle.std.proofs.lemmas.Bool.{cases_lt, cases_eq, eq-eqb, ne_eqb}
use Rattle.m4_model.specs.Field.{Field, mul}
use Rattle.m4_model.specs.Matrix.{Matrix, IsMatrix, HasShape, at, identity}
use Rattle.m4_model.specs.Rank.{IsRising}
use Rattle.m4_model.specs.Factors.{IsOrder, IsUnitLower, IsPle}
use Rattle.m4_model.proofs.FieldLaws.{FieldLaws}
use Rattle.m4_model.proofs.FieldLemmas.{sum_below-more}
use Rattle.m4_model.proofs.Polynomials.{xor_exchange}
use Rattle.m4_model.proofs.SumLemmas.{sum_below-short, sum_below-split, sum_below-single, mul-zero_left}
use Rattle.m4_model.proofs.ProductLemmas.{times, times-same, unit_at-same, unit_at-other}
use Rattle.m4_model.proofs.ShapeLemmas.{IsElement-shape, HasShape-own, at-product, at-identity}
use Rattle.m4_model.proofs.RingLemmas.{HasShape-one, product-identity_left}
use Rattle.m4_model.proofs.ExchangeLemmas.{IsOrder-swap, IsOrder-range, at-swap_first, at-swap_second, at-swap_other}

-- Row p_i of A is row i of L S, the first r rows of S are in echelon form, and its other rows are zero before column c.
pub record IsPartial (A : Matrix) (p q : List ℕ) (r c : ℕ) (L S : Matrix) : Type 0 where
  pub order : IsOrder A.rows p
  pub rank : length q ≡ r
  pub room : r ≤ A.rows
  pub reach : c ≤ A.cols
  pub rising : IsRising q
  pub columns : (k : ℕ) → k < r → slice_index q k < c
  pub l_shape : HasShape A.field A.rows A.rows L
  pub l_form : IsUnitLower r L
  pub s_shape : HasShape A.field A.rows A.cols S
  pub nonzero : (i : ℕ) → i < r → at S i (slice_index q i) ≢ 0
  pub before : (i j : ℕ) → i < r → j < slice_index q i → at S i j ≡ 0
  pub below : (i j : ℕ) → r ≤ i → i < A.rows → j < c → at S i j ≡ 0
  pub rows : (i j : ℕ) → i < A.rows → j < A.cols → at A (slice_index p i) j ≡ times A.field A.rows (at L) (at S) i j

-- at the last column it is a PLE
pub ple_from_partial : (A : Matrix) (p q : List ℕ) (r : ℕ) (L S : Matrix) → IsPartial A p q r A.cols L S → IsPle A p q r L S
ple_from_partial A p q r L S partial =
    let rank = partial.rank in
    let rows = partial.s_shape.rows in
    let cols = partial.s_shape.cols in
    let room = partial.room in
    record {
      order = partial.order;
      rank = partial.rank;
      l_shape = partial.l_shape;
      l_form = partial.l_form;
      e_shape = partial.s_shape;
      e_form = record {
        rising = partial.rising;
        columns = λ k within. let low = partial.columns k (omega (arith, within, rank)) in omega (arith, low, cols);
        within = omega (arith, rank, room, rows);
        nonzero = λ i within. partial.nonzero i (omega (arith, within, rank));
        before = λ i j within. partial.before i j (omega (arith, within, rank));
        below = λ i j from in_rows in_cols. partial.below i j (omega (arith, from, rank)) (omega (arith, in_rows, rows)) (omega (arith, in_cols, cols));
      };
      rows = λ i j below within. partial.rows i j below within ∙ sym (at-product partial.l_shape partial.s_shape i j below within);
    }

-- the identity as a unit lower factor
IsUnitLower-identity : {F : Field} (m : ℕ) → IsUnitLower 0 (identity F m)
IsUnitLower-identity {F} m = record {
  diagonal = λ i below. at-identity F m i i below below ∙ unit_at-same i i refl;
  above = λ i j later within.
      at-identity F m i j (omega (arith, later, within)) within ∙ unit_at-other i j (λ same. absurd (omega (arith, same, later)));
  rest = λ i j from before below.
      at-identity F m i j below (omega (arith, before, below)) ∙ unit_at-other i j (λ same. absurd (omega (arith, same, before)));
}

-- at the start nothing is factored
pub partial_start : (A : Matrix) → FieldLaws A.field → IsMatrix A → IsPartial A (range_with_len 0 A.rows) [] 0 0 (identity A.field A.rows) A
partial_start A laws is_matrix =
    let own = HasShape-own A is_matrix in
    let one = HasShape-one A.field A.rows is_matrix.over_field in
    record {
      order = IsOrder-range A.rows;
      rank = refl;
      room = omega arith;
      reach = omega arith;
      rising = λ i j before within. absurd (omega (arith, within));
      columns = λ k within. absurd (omega (arith, within));
      l_shape = one;
      l_form = IsUnitLower-identity A.rows;
      s_shape = own;
      nonzero = λ i within. absurd (omega (arith, within));
      before = λ i j within. absurd (omega (arith, within));
      below = λ i j from in_rows in_cols. absurd (omega (arith, in_cols));
      rows = λ i j below within.
          let place : 0 + i ≡ i = omega arith in
          ap (λ (i : ℕ). at A i j) (get_or-range_with_len 0 A.rows i 0 below ∙ place)
          ∙ ap (λ (C : Matrix). at C i j) (sym (product-identity_left laws own))
          ∙ at-product one own i j below within;
    }

-- a column without a pivot
pub partial_skip : (A : Matrix) (p q : List ℕ) (r c : ℕ) (L S : Matrix) → IsPartial A p q r c L S → c < A.cols
    → ((i : ℕ) → r ≤ i → i < A.rows → at S i c ≡ 0) → IsPartial A p q r (c + 1) L S
partial_skip A p q r c L S partial inside none = record {
  order = partial.order;
  rank = partial.rank;
  room = partial.room;
  reach = omega (arith, inside);
  rising = partial.rising;
  columns = λ k within. let low = partial.columns k within in omega (arith, low);
  l_shape = partial.l_shape;
  l_form = partial.l_form;
  s_shape = partial.s_shape;
  nonzero = partial.nonzero;
  before = partial.before;
  below = λ i j from in_rows in_cols. ⊎_elim
      (λ (sooner : j < c). partial.below i j from in_rows sooner)
      (λ (here : c ≤ j). let same : c ≡ j = omega (arith, here, in_cols) in subst (λ (j : ℕ). at S i j ≡ 0) same (none i from in_rows))
      (cases_lt j c);
  rows = partial.rows;
}

-- the number in the place of i after r and s are exchanged
abbrev pub exchange : ℕ → ℕ → ℕ → ℕ
exchange r s i = if i == r then s else if i == s then r else i

pub exchange-first : (r s : ℕ) → exchange r s r ≡ s
exchange-first r s = rw (eq-eqb r r refl) refl

pub exchange-second : (r s : ℕ) → exchange r s s ≡ r
exchange-second r s = ⊎_elim
    (λ (same : s ≡ r). rw (eq-eqb s r same) same)
    (λ (other : s ≢ r). rw (ne_eqb s r other, eq-eqb s s refl) refl)
    (cases_eq s r)

pub exchange-other : (r s i : ℕ) → i ≢ r → i ≢ s → exchange r s i ≡ i
exchange-other r s i first second = rw (ne_eqb i r first, ne_eqb i s second) refl

-- what holds of a place and its exchanged place: of both that are exchanged, and of every other
pub exchange_elim : (P : ℕ → ℕ → Type 0) (r s i : ℕ) → P r s → P s r → (i ≢ r → i ≢ s → P i i) → P i (exchange r s i)
exchange_elim P r s i first second other = ⊎_elim
    (λ (here : i ≡ r). rw (here, exchange-first r s) first)
    (λ (not_first : i ≢ r). ⊎_elim
    (λ (here : i ≡ s). rw (here, exchange-second r s) second)
    (λ (not_second : i ≢ s). rw (exchange-other r s i not_first not_second) (other not_first not_second))
    (cases_eq i s))
    (cases_eq i r)

-- below both nothing moves
exchange-before : (r s i : ℕ) → r ≤ s → i < r → exchange r s i ≡ i
exchange-before r s i order before = exchange-other r s i (λ same. absurd (omega (arith, same, before))) (λ same. absurd (omega (arith, same, before, order)))

-- a number from r on stays so, and within n
exchange-after : (r s i n : ℕ) → r ≤ s → s < n → r ≤ i → i < n → (r ≤ exchange r s i) × (exchange r s i < n)
exchange-after r s i n order within from below =
    exchange_elim (λ _ k. (r ≤ k) × (k < n)) r s i (order, within) (le_refl r, (let high : r < n = omega (arith, order, within) in high)) (λ _ _. (from, below))

-- an exchange of a list's entries
pub at-swap : (p : List ℕ) (r s i : ℕ) → r < length p → s < length p → slice_index (swap p r s) i ≡ slice_index p (exchange r s i)
at-swap p r s i below within =
    exchange_elim (λ i k. slice_index (swap p r s) i ≡ slice_index p k) r s i (at-swap_first p r s below within) (at-swap_second p r s below within) (at-swap_other p r s i below within)

module _ {F : Field} {m n : ℕ} (laws : FieldLaws F) (r : ℕ) {L S : Matrix} (l : HasShape F m m L) (form : IsUnitLower r L) (s : HasShape F m n S) where
  -- an upper row of the product needs the upper rows of S alone
  pub upper_row : (i j : ℕ) → i < r → r ≤ m → times F m (at L) (at S) i j ≡ times F r (at L) (at S) i j
  upper_row i j before room =
      let cols = l.cols in
      sum_below-short r m (λ t. mul F (at L i t) (at S t j)) room (λ t from inside.
      ap (λ (x : ℕ). mul F x (at S t j)) (form.above i t (omega (arith, before, from)) (omega (arith, inside, cols))) ∙ mul-zero_left F laws (at S t j))

  -- a lower row of the product needs them, and its own row of S
  pub lower_row : (i j : ℕ) → r ≤ i → i < m → j < n → times F m (at L) (at S) i j ≡ bit_xor (times F r (at L) (at S) i j) (at S i j)
  lower_row i j from below within =
      let cols = l.cols in
      let rows = l.rows in
      let parts : r + (m - r) ≡ m = omega (arith, from, below) in
      let own : r + (i - r) ≡ i = omega (arith, from) in
      ap (λ (n : ℕ). times F n (at L) (at S) i j) (sym parts)
      ∙ sum_below-split r (m - r) (λ t. mul F (at L i t) (at S t j))
      ∙ ap (bit_xor (times F r (at L) (at S) i j))
      (sum_below-single (m - r) (i - r) (λ t. mul F (at L i (r + t)) (at S (r + t) j)) (omega (arith, from, below))
      (λ t inside other.
      ap (λ (x : ℕ). mul F x (at S (r + t) j)) (⊎_elim
      (λ (later : i < r + t). form.above i (r + t) later (omega (arith, inside, parts, cols)))
      (λ (sooner : r + t ≤ i). form.rest i (r + t) (omega arith) (omega (arith, sooner, other, from)) (omega (arith, below, rows)))
      (cases_lt i (r + t)))
      ∙ mul-zero_left F laws (at S (r + t) j))
      ∙ ap₂ (mul F) (ap (at L i) own) (ap (λ (i : ℕ). at S i j) own)
      ∙ ap (λ (x : ℕ). mul F x (at S i j)) (form.diagonal i (omega (arith, below, rows)))
      ∙ laws.unit (at S i j) (IsElement-shape s i j below within))

-- rows r and s are exchanged, in S and in the first r columns of L
pub partial_swap : (A : Matrix) (p q : List ℕ) (r c s : ℕ) (L S M R : Matrix) → FieldLaws A.field → IsPartial A p q r c L S → r ≤ s → s < A.rows
    → HasShape A.field A.rows A.rows M → HasShape A.field A.rows A.cols R
    → ((i j : ℕ) → i < A.rows → j < r → at M i j ≡ at L (exchange r s i) j)
    → ((i j : ℕ) → i < A.rows → r ≤ j → j < A.rows → at M i j ≡ at L i j)
    → ((i j : ℕ) → i < A.rows → j < A.cols → at R i j ≡ at S (exchange r s i) j)
    → IsPartial A (swap p r s) q r c M R
partial_swap A p q r c s L S M R laws partial order within m_shape r_shape first_columns other_columns moved =
    let l_rows = partial.l_shape.rows in
    let l_cols = partial.l_shape.cols in
    let m_rows = m_shape.rows in
    let m_cols = m_shape.cols in
    let room = partial.room in
    let reach = partial.reach in
    let count = partial.order.count in
    let stays : (i : ℕ) → i < r → exchange r s i ≡ i = λ i before. exchange-before r s i order before in
    let form : IsUnitLower r M = record {
      diagonal = λ i below. ⊎_elim
          (λ (before : i < r). first_columns i i (omega (arith, below, m_rows)) before ∙ ap (λ (k : ℕ). at L k i) (stays i before)
          ∙ partial.l_form.diagonal i (omega (arith, below, m_rows, l_rows)))
          (λ (from : r ≤ i). other_columns i i (omega (arith, below, m_rows)) from (omega (arith, below, m_rows))
          ∙ partial.l_form.diagonal i (omega (arith, below, m_rows, l_rows)))
          (cases_lt i r);
      above = λ i j later inside. ⊎_elim
          (λ (before : j < r). first_columns i j (omega (arith, later, inside, m_cols)) before ∙ ap (λ (k : ℕ). at L k j) (stays i (omega (arith, later, before)))
          ∙ partial.l_form.above i j later (omega (arith, inside, m_cols, l_cols)))
          (λ (from : r ≤ j). other_columns i j (omega (arith, later, inside, m_cols)) from (omega (arith, inside, m_cols))
          ∙ partial.l_form.above i j later (omega (arith, inside, m_cols, l_cols)))
          (cases_lt j r);
      rest = λ i j from before below.
          other_columns i j (omega (arith, below, m_rows)) from (omega (arith, before, below, m_rows))
          ∙ partial.l_form.rest i j from before (omega (arith, below, m_rows, l_rows));
    } in
    let upper_same : (i j : ℕ) → i < r → j < A.cols → at R i j ≡ at S i j
    = λ i j before inside. moved i j (omega (arith, before, room)) inside ∙ ap (λ (k : ℕ). at S k j) (stays i before) in
    record {
      order = IsOrder-swap A.rows p r s (omega (arith, order, within)) within partial.order;
      rank = partial.rank;
      room = partial.room;
      reach = partial.reach;
      rising = partial.rising;
      columns = partial.columns;
      l_shape = m_shape;
      l_form = form;
      s_shape = r_shape;
      nonzero = λ i before same.
          let low = partial.columns i before in
          partial.nonzero i before (sym (upper_same i (slice_index q i) before (omega (arith, low, reach))) ∙ same);
      before = λ i j before sooner.
          let low = partial.columns i before in
          upper_same i j before (omega (arith, sooner, low, reach)) ∙ partial.before i j before sooner;
      below = λ i j from in_rows in_cols.
          let place = exchange-after r s i A.rows order within from in_rows in
          moved i j in_rows (omega (arith, in_cols, reach)) ∙ partial.below (exchange r s i) j place.0 place.1 in_cols;
      rows = λ i j below inside.
          ap (λ (k : ℕ). at A k j) (at-swap p r s i (omega (arith, order, within, count)) (omega (arith, within, count)))
          ∙ ⊎_elim
          (λ (before : i < r).
          ap (λ (k : ℕ). at A (slice_index p k) j) (stays i before)
          ∙ partial.rows i j below inside
          ∙ upper_row laws r partial.l_shape partial.l_form partial.s_shape i j before room
          ∙ times-same A.field r (at L) (at S) (at M) (at R) i j i j
          (λ t sooner. sym (first_columns i t below sooner ∙ ap (λ (k : ℕ). at L k t) (stays i before)))
          (λ t sooner. sym (upper_same t j sooner inside))
          ∙ sym (upper_row laws r m_shape form r_shape i j before room))
          (λ (from : r ≤ i).
          let place = exchange-after r s i A.rows order within from below in
          partial.rows (exchange r s i) j place.1 inside
          ∙ lower_row laws r partial.l_shape partial.l_form partial.s_shape (exchange r s i) j place.0 place.1 inside
          ∙ ap₂ bit_xor
          (times-same A.field r (at L) (at S) (at M) (at R) (exchange r s i) j i j
          (λ t sooner. sym (first_columns i t below sooner)) (λ t sooner. sym (upper_same t j sooner inside)))
          (sym (moved i j below inside))
          ∙ sym (lower_row laws r m_shape form r_shape i j from below inside))
          (cases_lt i r);
    }

-- a term in both sums falls away
xor_common : (a b z : ℕ) → bit_xor (bit_xor a z) (bit_xor b z) ≡ bit_xor a b
xor_common a b z = xor_exchange a z b z ∙ ap (bit_xor (bit_xor a b)) (xor_self z) ∙ xor_zero_r (bit_xor a b)

-- row r has a pivot in column c, and multiples of it are added to the rows below, which clears the column there
pub partial_pivot : (A : Matrix) (p q : List ℕ) (r c : ℕ) (L S M R : Matrix) (l : ℕ → ℕ) → FieldLaws A.field → IsPartial A p q r c L S
    → r < A.rows → c < A.cols → at S r c ≢ 0
    → HasShape A.field A.rows A.rows M → HasShape A.field A.rows A.cols R
    → ((i j : ℕ) → i < A.rows → j < A.rows → j ≢ r → at M i j ≡ at L i j)
    → ((i : ℕ) → i ≤ r → at M i r ≡ at L i r)
    → ((i : ℕ) → r < i → i < A.rows → at M i r ≡ l i)
    → ((i j : ℕ) → i ≤ r → j < A.cols → at R i j ≡ at S i j)
    → ((i j : ℕ) → r < i → i < A.rows → j < A.cols → at R i j ≡ bit_xor (at S i j) (mul A.field (l i) (at S r j)))
    → ((i : ℕ) → r < i → i < A.rows → at R i c ≡ 0)
    → IsPartial A p (q ++ c ∷ []) (r + 1) (c + 1) M R
partial_pivot A p q r c L S M R l laws partial in_rows in_cols pivot m_shape r_shape other_columns upper_column lower_column upper_rows lower_rows cleared =
    let l_rows = partial.l_shape.rows in
    let l_cols = partial.l_shape.cols in
    let m_rows = m_shape.rows in
    let m_cols = m_shape.cols in
    let room = partial.room in
    let reach = partial.reach in
    let rank = partial.rank in
    let count : length (q ++ c ∷ []) ≡ length q + 1 = length-append q (c ∷ []) in
    let earlier : (k : ℕ) → k < r → slice_index (q ++ c ∷ []) k ≡ slice_index q k
    = λ k before. get_or_append_left q (c ∷ []) 0 k (omega (arith, before, rank)) in
    let last : (k : ℕ) → k ≡ r → slice_index (q ++ c ∷ []) k ≡ c
    = λ k same.
    let none : k - length q ≡ 0 = omega (arith, same, rank) in
    get_or-append_right q (c ∷ []) (length q) k 0 refl (omega (arith, same, rank)) ∙ ap (slice_index (c ∷ [])) none in
    let last_or : (k : ℕ) → k < r + 1 → (k < r) ⊎ (k ≡ r)
    = λ k below. ⊎_elim (λ (before : k < r). inl before) (λ (from : r ≤ k). inr (omega (arith, from, below))) (cases_lt k r) in
    let wider : IsUnitLower (r + 1) L = record {
      diagonal = partial.l_form.diagonal;
      above = partial.l_form.above;
      rest = λ i j from. partial.l_form.rest i j (omega (arith, from));
    } in
    let kept : (i j : ℕ) → i < A.rows → j < A.rows → (i ≤ r) ⊎ (j ≢ r) → at M i j ≡ at L i j
    = λ i j below inside side. ⊎_elim
    (λ (same : j ≡ r). ⊎_elim
    (λ (high : i ≤ r). subst (λ (j : ℕ). at M i j ≡ at L i j) (sym same) (upper_column i high))
    (λ (other : j ≢ r). absurd (other same))
    side)
    (λ (other : j ≢ r). other_columns i j below inside other)
    (cases_eq j r) in
    let form : IsUnitLower (r + 1) M = record {
      diagonal = λ i below.
          kept i i (omega (arith, below, m_rows)) (omega (arith, below, m_rows))
          (⊎_elim (λ (high : i < r + 1). inl (omega (arith, high))) (λ (low : r + 1 ≤ i). inr (λ same. absurd (omega (arith, same, low)))) (cases_lt i (r + 1)))
          ∙ partial.l_form.diagonal i (omega (arith, below, m_rows, l_rows));
      above = λ i j later inside.
          kept i j (omega (arith, later, inside, m_cols)) (omega (arith, inside, m_cols))
          (⊎_elim (λ (high : i < r + 1). inl (omega (arith, high))) (λ (low : r + 1 ≤ i). inr (λ same. absurd (omega (arith, same, low, later)))) (cases_lt i (r + 1)))
          ∙ partial.l_form.above i j later (omega (arith, inside, m_cols, l_cols));
      rest = λ i j from before below.
          kept i j (omega (arith, below, m_rows)) (omega (arith, before, below, m_rows)) (inr (λ same. absurd (omega (arith, same, from))))
          ∙ partial.l_form.rest i j (omega (arith, from)) before (omega (arith, below, m_rows, l_rows));
    } in
    record {
      order = partial.order;
      rank = count ∙ ap (λ (n : ℕ). n + 1) partial.rank;
      room = omega (arith, in_rows);
      reach = omega (arith, in_cols);
      rising = λ i j before within.
          let inside : i < r = omega (arith, before, within, count, rank) in
          rw (earlier i inside) (⊎_elim
          (λ (sooner : j < r). rw (earlier j sooner) (partial.rising i j before (omega (arith, sooner, rank))))
          (λ (here : j ≡ r). let low = partial.columns i inside in rw (last j here) (omega (arith, low)))
          (last_or j (omega (arith, within, count, rank))));
      columns = λ k within. ⊎_elim
          (λ (sooner : k < r). let low = partial.columns k sooner in rw (earlier k sooner) (omega (arith, low)))
          (λ (here : k ≡ r). rw (last k here) (omega arith))
          (last_or k within);
      l_shape = m_shape;
      l_form = form;
      s_shape = r_shape;
      nonzero = λ i within. ⊎_elim
          (λ (sooner : i < r). rw (earlier i sooner) (λ same.
          let low = partial.columns i sooner in
          partial.nonzero i sooner (sym (upper_rows i (slice_index q i) (omega (arith, sooner)) (omega (arith, low, reach))) ∙ same)))
          (λ (here : i ≡ r). rw (last i here) (λ same.
          pivot (sym (upper_rows r c (omega arith) in_cols) ∙ ap (λ (k : ℕ). at R k c) (sym here) ∙ same)))
          (last_or i within);
      before = λ i j within sooner_column. ⊎_elim
          (λ (sooner : i < r).
          let low = partial.columns i sooner in
          let left : j < slice_index q i = subst (λ (x : ℕ). j < x) (earlier i sooner) sooner_column in
          upper_rows i j (omega (arith, sooner)) (omega (arith, left, low, reach)) ∙ partial.before i j sooner left)
          (λ (here : i ≡ r).
          let left : j < c = subst (λ (x : ℕ). j < x) (last i here) sooner_column in
          upper_rows i j (omega (arith, here)) (omega (arith, left, in_cols)) ∙ partial.below i j (omega (arith, here)) (omega (arith, here, in_rows)) left)
          (last_or i within);
      below = λ i j from below left. ⊎_elim
          (λ (sooner : j < c).
          lower_rows i j (omega (arith, from)) below (omega (arith, sooner, in_cols))
          ∙ ap₂ bit_xor (partial.below i j (omega (arith, from)) below sooner)
          (ap (mul A.field (l i)) (partial.below r j (omega arith) in_rows sooner) ∙ laws.annihilates (l i))
          ∙ xor_zero_r 0)
          (λ (here : c ≤ j).
          let same : c ≡ j = omega (arith, here, left) in
          subst (λ (j : ℕ). at R i j ≡ 0) same (cleared i (omega (arith, from)) below))
          (cases_lt j c);
      rows = λ i j below inside. partial.rows i j below inside ∙ ⊎_elim
          (λ (high : i < r + 1).
          upper_row laws (r + 1) partial.l_shape wider partial.s_shape i j high (omega (arith, in_rows))
          ∙ times-same A.field (r + 1) (at L) (at S) (at M) (at R) i j i j
          (λ t sooner. sym (kept i t below (omega (arith, sooner, in_rows)) (inl (omega (arith, high)))))
          (λ t sooner. sym (upper_rows t j (omega (arith, sooner)) inside))
          ∙ sym (upper_row laws (r + 1) m_shape form r_shape i j high (omega (arith, in_rows))))
          (λ (low : r + 1 ≤ i).
          lower_row laws r partial.l_shape partial.l_form partial.s_shape i j (omega (arith, low)) below inside
          ∙ sym (xor_common (times A.field r (at L) (at S) i j) (at S i j) (mul A.field (l i) (at S r j)))
          ∙ ap₂ bit_xor
          (ap₂ bit_xor
          (times-same A.field r (at L) (at S) (at M) (at R) i j i j
          (λ t sooner. sym (kept i t below (omega (arith, sooner, in_rows)) (inr (λ same. absurd (omega (arith, same, sooner))))))
          (λ t sooner. sym (upper_rows t j (omega (arith, sooner)) inside)))
          (ap₂ (mul A.field) (sym (lower_column i (omega (arith, low)) below)) (sym (upper_rows r j (omega arith) inside)))
          ∙ sym (sum_below-more r (λ t. mul A.field (at M i t) (at R t j))))
          (sym (lower_rows i j (omega (arith, low)) below inside))
          ∙ sym (lower_row laws (r + 1) m_shape form r_shape i j low below inside))
          (cases_lt i (r + 1));
    }
