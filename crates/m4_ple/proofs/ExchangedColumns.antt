-- The columns of a PLE in place are exchanged row by row, and the factors of a PLUQ stand there.
use Rattle.std.proofs.Common.{◌≡◌, ℕ, zero, suc, ◌+◌, ◌<◌, ◌≤◌, ⊎_elim, refl, sym, ◌∙◌, ap, ap₂, arith, List, [], ◌∷◌, length, slice_index, get_or, drop, set, nat_lt, nat_le, ◌&&◌, if◌then◌else◌, length-drop, get_or-drop}
use Rattle.std.specs.List.{range_with_len, swap}
use Rattle.std.proofs.lemmas.Bool.{cases_lt, lt-ltb, le-ltb, le-leb, lt-leb}
use Rattle.std.proofs.lemmas.List.{ext_get_or, get_or-set_same, set-set}
use Rattle.std.proofs.lemmas.List.Edits.{length-swap, swap_is}
use Rattle.std.proofs.lemmas.List.FromFn.{length-range_with_len, get_or-range_with_len}
use Rattle.m4_model.specs.Matrix.{Matrix, IsMatrix, row, at, with_row, with_entry}
use Rattle.m4_model.specs.Shapes.{exchanged, swaps}
use Rattle.m4_model.specs.Factors.{IsPle, stored, stored_pluq}
use Rattle.m4_model.proofs.FieldLaws.{FieldLaws}
use Rattle.m4_model.proofs.MatrixLemmas.{length-row-table, at-table}
use Rattle.m4_model.proofs.ExchangeLemmas.{exchanged-before, rising-at_least, rising_room}
use Rattle.m4_model.proofs.EliminationLemmas.{exchange, exchange_elim, at-swap}
use Rattle.m4_model.proofs.BlockLemmas.{at-picked_cols}
use Rattle.m4_model.proofs.FactorLemmas.{upper_of_ple, pluq_of_ple}
use Rattle.m4_perm.proofs.OrderLemmas.{exchange_step}
use Rattle.m4_ple.proofs.RowByRow.{same_made_entries, row-done_later, done_to-more}
use Rattle.m4_ple.proofs.Eliminated.{exchange-within}
use Rattle.m4_ple.specs.Columns.{exchanged_row, with_exchanged}
use Rattle.m4_ple.specs.Held.{HoldsPle, HoldsPluq}

-- two entries of one row are written
pub written_swapped : (A : Matrix) (r i j x y : ℕ) → IsMatrix A → r < A.rows → i < A.cols → j < A.cols → at A r i ≡ x → at A r j ≡ y
    → with_entry (with_entry A r i y) r j x ≡ with_row A r (swap (row A r) i j)
written_swapped A r i j x y matrix below first second is_first is_second =
    let height = matrix.height in
    let wide = matrix.width r below in
    let inside : r < length A.entries = omega (arith, below, height) in
    ap (λ (xs : List ℕ). with_row (with_entry A r i y) r (set xs j x)) (get_or-set_same A.entries r (set (row A r) i y) [] inside)
    ∙ ap (λ (rows : List (List ℕ)). record A { entries = rows }) (set-set A.entries r (set (row A r) i y) (set (set (row A r) i y) j x))
    ∙ ap₂ (λ (y x : ℕ). with_row A r (set (set (row A r) i y) j x)) (sym is_second) (sym is_first)
    ∙ ap (with_row A r) (swap_is (row A r) i j 0 (omega (arith, wide, first)) (omega (arith, wide, second)))

-- a row written twice
pub with_row-again : (A : Matrix) (i : ℕ) (xs ys : List ℕ) → with_row (with_row A i xs) i ys ≡ with_row A i ys
with_row-again A i xs ys = ap (λ (rows : List (List ℕ)). record A { entries = rows }) (set-set A.entries i xs ys)

pub length-exchanged : (i : ℕ) (s xs : List ℕ) → length (exchanged i s xs) ≡ length xs
unfolding exchanged
length-exchanged i [] xs = refl
length-exchanged i (s ∷ rest) xs = length-exchanged (suc i) rest (swap xs i s) ∙ length-swap xs i s

-- the place that an exchange of two places from b on takes an entry from is from b on
exchange-from : (b r s i : ℕ) → b ≤ r → b ≤ s → b ≤ i → b ≤ exchange r s i
exchange-from b r s i first second from = exchange_elim (λ _ k. b ≤ k) r s i second first (λ _ _. from)

-- lists of which one is made of the other from place b on stay so under exchanges of places from b on
exchanged-made : (f : ℕ → ℕ) (b i : ℕ) (s xs ys : List ℕ) → length ys ≡ length xs → b ≤ i → i + length s ≤ length xs
    → ((k : ℕ) → k < length s → b ≤ slice_index s k) → ((k : ℕ) → k < length s → slice_index s k < length xs)
    → ((j : ℕ) → b ≤ j → j < length xs → slice_index ys j ≡ f (slice_index xs j))
    → (j : ℕ) → b ≤ j → j < length xs → slice_index (exchanged i s ys) j ≡ f (slice_index (exchanged i s xs) j)
unfolding exchanged
exchanged-made f b i [] xs ys long from room high within made j behind below = made j behind below
exchanged-made f b i (s ∷ rest) xs ys long from room high within made j behind below =
    let same_x = length-swap xs i s in
    let same_y = length-swap ys i s in
    let high_s : b ≤ s = high 0 (omega arith) in
    let low_s : s < length xs = within 0 (omega arith) in
    let low_i : i < length xs = omega (arith, room) in
    exchanged-made f b (suc i) rest (swap xs i s) (swap ys i s) (omega (arith, same_x, same_y, long)) (omega (arith, from)) (omega (arith, room, same_x))
    (λ k inside. high (suc k) (omega (arith, inside)))
    (λ k inside. let fits = within (suc k) (omega (arith, inside)) in omega (arith, fits, same_x))
    (λ j behind below.
    let inside : j < length xs = omega (arith, below, same_x) in
    at-swap ys i s j (omega (arith, low_i, long)) (omega (arith, low_s, long))
    ∙ made (exchange i s j) (exchange-from b i s j from high_s behind) (exchange-within i s j (length xs) low_i low_s inside)
    ∙ ap f (sym (at-swap xs i s j low_i low_s)))
    j behind (omega (arith, below, same_x))

-- an exchange of equal entries
swap_equal : (xs : List ℕ) (i s : ℕ) → i < length xs → s < length xs → get_or xs i 0 ≡ get_or xs s 0 → swap xs i s ≡ xs
swap_equal xs i s below within same =
    ext_get_or 0 _ _ (length-swap xs i s) (λ k inside.
    at-swap xs i s k below within
    ∙ exchange_elim (λ k j. get_or xs j 0 ≡ get_or xs k 0) i s k (sym same) same (λ _ _. refl))

-- exchanges of equal entries fall away
exchanged-skip : (d k i : ℕ) (q xs : List ℕ) → k + d ≡ i → i ≤ length q → length q ≤ length xs
    → ((t : ℕ) → t < i → slice_index q t < length xs) → ((t : ℕ) → t < i → get_or xs t 0 ≡ get_or xs (slice_index q t) 0)
    → exchanged k (drop k q) xs ≡ exchanged i (drop i q) xs
exchanged-skip zero k i q xs place room wide within same = let here : k ≡ i = omega (arith, place) in ap (λ (k : ℕ). exchanged k (drop k q) xs) here
exchanged-skip (suc d) k i q xs place room wide within same =
    exchange_step k q xs (omega (arith, place, room))
    ∙ ap (exchanged (k + 1) (drop (k + 1) q)) (swap_equal xs k (slice_index q k) (omega (arith, place, room, wide)) (within k (omega (arith, place))) (same k (omega (arith, place))))
    ∙ exchanged-skip d (k + 1) i q xs (omega (arith, place)) room wide within same

-- the entries once the first k rows are gone through
exchanged_to : List ℕ → Matrix → ℕ → ℕ → ℕ → ℕ
exchanged_to q W k i j = if nat_lt i k then slice_index (exchanged_row q W i) j else at W i j

-- one row more
pub exchanged-more : (q : List ℕ) (W : Matrix) (k : ℕ) → IsMatrix W → k < W.rows
    → with_row (with_exchanged q k W) k (exchanged_row q (with_exchanged q k W) k) ≡ with_exchanged q (k + 1) W
exchanged-more q W k matrix inside =
    let g : ℕ → ℕ → ℕ = λ i j. slice_index (exchanged_row q W i) j in
    let same : row (with_exchanged q k W) k ≡ row W k = row-done_later g W matrix k k inside (omega arith) in
    ap (λ (xs : List ℕ). with_row (with_exchanged q k W) k (exchanged k (drop k q) xs)) same
    ∙ done_to-more g W k (exchanged_row q W k) inside (length-exchanged k (drop k q) (row W k) ∙ matrix.width k inside) (λ j within. refl)

module _ (A W : Matrix) (p q : List ℕ) (laws : FieldLaws A.field) (is_matrix : IsMatrix A) (held : HoldsPle A p q W) where
  L : Matrix
  L = held.l

  E : Matrix
  E = held.e

  ple : IsPle A p q (length q) L E
  unfolding L E
  ple = held.factors

  -- E with its columns in the order of the exchanges
  U : Matrix
  U = upper_of_ple A p q (length q) L E laws is_matrix ple

  least : (k : ℕ) → k < length q → k ≤ slice_index q k
  least k below = rising-at_least q k ple.e_form.rising below

  room : length q ≤ E.cols
  room = rising_room q E.cols ple.e_form.rising ple.e_form.columns

  wide : (i : ℕ) → i < E.rows → length (row E i) ≡ E.cols
  wide i below = ple.e_shape.is_matrix.width i below

  S : Matrix
  S = stored q L E

  entry : (i j : ℕ) → i < E.rows → j < E.cols → at S i j
      ≡ (if nat_lt j i && nat_lt j (length q) then at L i j else if nat_lt i (length q) && nat_le (slice_index q i) j then at E i j else 0)
  unfolding S
  entry = at-table E.rows E.cols (λ i j. if nat_lt j i && nat_lt j (length q) then at L i j else if nat_lt i (length q) && nat_le (slice_index q i) j then at E i j else 0)

  wide_stored : (i : ℕ) → i < E.rows → length (row S i) ≡ E.cols
  unfolding S
  wide_stored i below =
      length-row-table E.rows E.cols (λ i j. if nat_lt j i && nat_lt j (length q) then at L i j else if nat_lt i (length q) && nat_le (slice_index q i) j then at E i j else 0) i below

  -- from the diagonal on a row of the first ones is E's
  from_diagonal : (i j : ℕ) → i < length q → i < E.rows → i ≤ j → j < E.cols → at S i j ≡ at E i j
  from_diagonal i j pivoted below from within = entry i j below within ∙ rw (le-ltb j i from, lt-ltb i (length q) pivoted) (⊎_elim
      (λ (before : j < slice_index q i). rw (lt-leb (slice_index q i) j before) (sym (ple.e_form.before i j pivoted before)))
      (λ (behind : slice_index q i ≤ j). rw (le-leb (slice_index q i) j behind) refl)
      (cases_lt j (slice_index q i)))

  at_rest : (i k : ℕ) → get_or (drop i q) k 0 ≡ slice_index q (i + k)
  at_rest i k = get_or-drop i q k 0

  rest_below : (i k : ℕ) → k < length (drop i q) → i + k < length q
  rest_below i k below = let short = length-drop i q in omega (arith, short, below)

  -- the exchanged row of E is U's
  row_of_upper : (i j : ℕ) → i < length q → i < E.rows → j < E.cols → slice_index (exchanged i (drop i q) (row E i)) j ≡ at U i j
  unfolding U
  row_of_upper i j pivoted below within =
      let rows = ple.e_shape.rows in
      let cols = ple.e_shape.cols in
      let long = wide i below in
      let space = room in
      let count = length-range_with_len 0 A.cols in
      let same : length (row E i) ≡ length (range_with_len 0 A.cols) = omega (arith, long, cols, count) in
      ap (λ (xs : List ℕ). slice_index xs j)
      (sym (exchanged-skip i 0 i q (row E i) (omega arith) (omega (arith, pivoted)) (omega (arith, space, long))
      (λ t before. let low = ple.e_form.columns t (omega (arith, before, pivoted)) in omega (arith, low, long))
      (λ t before.
      let rises = ple.e_form.rising t i before pivoted in
      let high = least t (omega (arith, before, pivoted)) in
      ple.e_form.before i t pivoted (omega (arith, high, rises)) ∙ sym (ple.e_form.before i (slice_index q t) pivoted rises))))
      ∙ exchanged-made (at E i) 0 0 q (range_with_len 0 A.cols) (row E i) same (omega arith) (omega (arith, space, count, cols)) (λ k inside. omega arith)
      (λ k inside. let low = ple.e_form.columns k inside in omega (arith, low, count, cols))
      (λ k behind inside. let e : 0 + k ≡ k = omega arith in ap (at E i) (sym (get_or-range_with_len 0 A.cols k 0 (omega (arith, inside, count)) ∙ e)))
      j (omega arith) (omega (arith, within, count, cols))
      ∙ sym (at-picked_cols ple.e_shape (slice_index (swaps A.cols q)) i j (omega (arith, below, rows)) (omega (arith, within, cols)))

  -- what stands in the place of A
  exchanged_entry : (i j : ℕ) → i < E.rows → j < E.cols → exchanged_to q S (length q) i j
      ≡ (if nat_lt j i && nat_lt j (length q) then at L i j else if nat_lt i (length q) && nat_le i j then at U i j else 0)
  unfolding exchanged_to
  exchanged_entry i j below within =
      let space = room in
      let long = wide i below in
      let long_stored = wide_stored i below in
      let short = length-drop i q in
      ⊎_elim
      (λ (pivoted : i < length q).
      rw (lt-ltb i (length q) pivoted) (⊎_elim
      (λ (under : j < i).
      rw (lt-ltb j i under, lt-ltb j (length q) (omega (arith, under, pivoted)))
      (exchanged-before i (drop i q) (row S i) j under (omega (arith, short, space, long_stored, pivoted))
      (λ k inside. let high = least (i + k) (rest_below i k inside) in rw (at_rest i k) high)
      (λ k inside. let low = ple.e_form.columns (i + k) (rest_below i k inside) in rw (at_rest i k) (omega (arith, low, long_stored)))
      ∙ entry i j below within ∙ rw (lt-ltb j i under, lt-ltb j (length q) (omega (arith, under, pivoted))) refl))
      (λ (over : i ≤ j).
      rw (le-ltb j i over, le-leb i j over)
      (exchanged-made (λ x. x) i i (drop i q) (row E i) (row S i) (omega (arith, long, long_stored)) (omega arith) (omega (arith, short, space, long, pivoted))
      (λ k inside. let high = least (i + k) (rest_below i k inside) in rw (at_rest i k) (omega (arith, high)))
      (λ k inside. let low = ple.e_form.columns (i + k) (rest_below i k inside) in rw (at_rest i k) (omega (arith, low, long)))
      (λ k behind inside. from_diagonal i k pivoted below behind (omega (arith, inside, long)))
      j over (omega (arith, within, long))
      ∙ row_of_upper i j pivoted below within))
      (cases_lt j i)))
      (λ (rest : length q ≤ i).
      rw (le-ltb i (length q) rest) (entry i j below within ∙ rw (le-ltb i (length q) rest) refl))
      (cases_lt i (length q))

  exchanged_table : with_exchanged q (length q) W ≡ stored_pluq (length q) L U
  unfolding exchanged_to S U L E
  exchanged_table =
      ap (with_exchanged q (length q)) held.stored.table
      ∙ same_made_entries E.field E.rows E.cols (exchanged_to q S (length q))
      (λ i j. if nat_lt j i && nat_lt j (length q) then at L i j else if nat_lt i (length q) && nat_le i j then at U i j else 0) exchanged_entry

  -- a PLE in place becomes a PLUQ in place
  pub pluq_held : HoldsPluq A p (swaps A.cols q) (length q) (with_exchanged q (length q) W)
  unfolding U L E
  pluq_held =
      let pluq = pluq_of_ple A p q (length q) L E laws is_matrix ple in
      record {
        l = L;
        u = U;
        factors = pluq;
        stored = record {
          table = exchanged_table;
          l_form = ple.l_form;
          u_zeros = pluq.u_form.zeros;
        };
      }
