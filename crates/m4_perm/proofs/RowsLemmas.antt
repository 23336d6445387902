-- Rows that are exchanged one after another, and back, and rows and columns in another order.
use Rattle.std.proofs.Common.{◌≡◌, ℕ, suc, ◌+◌, ◌-◌, ◌<◌, ◌≤◌, inl, inr, List, [], ◌∷◌, length, get_or, drop, set, map, refl, sym, ◌∙◌, ap, arith, add-one}
use Rattle.std.specs.List.{range_with_len, swap}
use Rattle.std.proofs.lemmas.Bool.{cases_eq}
use Rattle.std.proofs.lemmas.List.{length-map, get_or-map, map-set, drop_more, drop_all, ext_get_or}
use Rattle.std.proofs.lemmas.List.Edits.{swap_is, swapped_from_swap, length-swap}
use Rattle.std.proofs.lemmas.List.FromFn.{fill_by_all, length-range_with_len}
use Rattle.m4_model.specs.Matrix.{Matrix, IsMatrix, HasShape, row, at}
use Rattle.m4_model.specs.Shapes.{exchanged, swaps, transposed}
use Rattle.m4_model.specs.Step.{reordered}
use Rattle.m4_model.specs.Factors.{IsOrder}
use Rattle.m4_model.proofs.MatrixLemmas.{at-table, length-table, length-row-table, same_table, same_parts}
use Rattle.m4_model.proofs.ExchangeLemmas.{IsOrder-swaps}
use Rattle.m4_mzd.specs.Window.{Window}
use Rattle.m4_perm.specs.Perm.{AreSwaps, columns_reordered}

-- ---- one exchange
-- it moves what a function makes of the entries
swap-map : (f : ℕ → List ℕ) (xs : List ℕ) (i j : ℕ) → i < length xs → j < length xs → swap (map f xs) i j ≡ map f (swap xs i j)
swap-map f xs i j first second =
    let many : length (map f xs) ≡ length xs = length-map xs f in
    let high : get_or (map f xs) j [] ≡ f (get_or xs j 0) = get_or-map f xs j 0 [] second in
    let low : get_or (map f xs) i [] ≡ f (get_or xs i 0) = get_or-map f xs i 0 [] first in
    sym (swap_is (map f xs) i j [] (omega arith) (omega arith))
    ∙ (λ q. set (set (map f xs) i (high q)) j (low q))
    ∙ sym (map-set f (set xs i (get_or xs j 0)) j (get_or xs i 0) ∙ ap (λ l. set l j (f (get_or xs i 0))) (map-set f xs i (get_or xs j 0)))
    ∙ ap (map f) (swap_is xs i j 0 first second)

-- twice, it changes nothing
swap_twice : (rows : List (List ℕ)) (i j : ℕ) → i < length rows → j < length rows → swap (swap rows i j) i j ≡ rows
swap_twice rows i j first second =
    let once = swap rows i j in
    let many : length once ≡ length rows = length-swap rows i j in
    let one = swapped_from_swap rows once i j [] first second refl in
    let two = swapped_from_swap once (swap once i j) i j [] (omega arith) (omega arith) refl in
    ext_get_or [] (swap once i j) rows (length-swap once i j ∙ many) (λ k within.
    elim (cases_eq k i) [
      | inl here ↦ rw here (two.0 ∙ one.1)
      | inr away ↦ elim (cases_eq k j) [
        | inl there ↦ rw there (two.1 ∙ one.0)
        | inr off ↦ two.2 k away off ∙ one.2 k away off
      ]
    ])

-- ---- exchanges one after another, from row i on
unfoldable pub rows_after : ℕ → List ℕ → List (List ℕ) → List (List ℕ)
rows_after i [] rows = rows
rows_after i (s ∷ rest) rows = rows_after (suc i) rest (swap rows i s)

-- the same in the opposite order
unfoldable pub rows_back : ℕ → List ℕ → List (List ℕ) → List (List ℕ)
rows_back i [] rows = rows
rows_back i (s ∷ rest) rows = swap (rows_back (suc i) rest rows) i s

pub after_step : (i : ℕ) (exchanges : List ℕ) (rows : List (List ℕ)) → i < length exchanges
    → rows_after i (drop i exchanges) rows ≡ rows_after (i + 1) (drop (i + 1) exchanges) (swap rows i (get_or exchanges i 0))
unfolding rows_after
after_step i exchanges rows within = rw (drop_more exchanges i 0 within, add-one) refl

pub after_done : (i : ℕ) (exchanges : List ℕ) (rows : List (List ℕ)) → length exchanges ≤ i → rows_after i (drop i exchanges) rows ≡ rows
unfolding rows_after
after_done i exchanges rows past = rw (drop_all i exchanges past) refl

pub back_step : (i : ℕ) (exchanges : List ℕ) (rows : List (List ℕ)) → i < length exchanges
    → rows_back i (drop i exchanges) rows ≡ swap (rows_back (i + 1) (drop (i + 1) exchanges) rows) i (get_or exchanges i 0)
unfolding rows_back
back_step i exchanges rows within = rw (drop_more exchanges i 0 within, add-one) refl

pub back_none : (i : ℕ) (exchanges : List ℕ) (rows : List (List ℕ)) → length exchanges ≤ i → rows_back i (drop i exchanges) rows ≡ rows
unfolding rows_back
back_none i exchanges rows past = rw (drop_all i exchanges past) refl

length-rows_after : (i : ℕ) (s : List ℕ) (rows : List (List ℕ)) → length (rows_after i s rows) ≡ length rows
unfolding rows_after
length-rows_after i [] rows = refl
length-rows_after i (s ∷ rest) rows = length-rows_after (suc i) rest (swap rows i s) ∙ length-swap rows i s

pub length-rows_back : (i : ℕ) (s : List ℕ) (rows : List (List ℕ)) → length (rows_back i s rows) ≡ length rows
unfolding rows_back
length-rows_back i [] rows = refl
length-rows_back i (s ∷ rest) rows = length-swap (rows_back (suc i) rest rows) i s ∙ length-rows_back (suc i) rest rows

-- each undoes the other
after_back : (i : ℕ) (s : List ℕ) (rows : List (List ℕ)) → i + length s ≤ length rows → ((k : ℕ) → k < length s → get_or s k 0 < length rows)
    → rows_after i s (rows_back i s rows) ≡ rows
unfolding rows_after rows_back
after_back i [] rows room within = refl
after_back i (s ∷ rest) rows room within =
    let inner = rows_back (suc i) rest rows in
    let many : length inner ≡ length rows = length-rows_back (suc i) rest rows in
    let second : s < length rows = within 0 (omega arith) in
    ap (rows_after (suc i) rest) (swap_twice inner i s (omega (arith, room, many)) (omega (arith, second, many)))
    ∙ after_back (suc i) rest rows (omega (arith, room)) (λ k below. within (suc k) (omega (arith, below)))

back_after : (i : ℕ) (s : List ℕ) (rows : List (List ℕ)) → i + length s ≤ length rows → ((k : ℕ) → k < length s → get_or s k 0 < length rows)
    → rows_back i s (rows_after i s rows) ≡ rows
unfolding rows_after rows_back
back_after i [] rows room within = refl
back_after i (s ∷ rest) rows room within =
    let once = swap rows i s in
    let many : length once ≡ length rows = length-swap rows i s in
    let second : s < length rows = within 0 (omega arith) in
    ap (λ l. swap l i s) (back_after (suc i) rest once (omega (arith, room, many)) (λ k below. let more = within (suc k) (omega (arith, below)) in omega (arith, more, many)))
    ∙ swap_twice rows i s (omega (arith, room)) second

-- ---- the rows in the order of the exchanges
after-map : (f : ℕ → List ℕ) (i : ℕ) (s order : List ℕ) → i + length s ≤ length order → ((k : ℕ) → k < length s → get_or s k 0 < length order)
    → rows_after i s (map f order) ≡ map f (exchanged i s order)
unfolding rows_after exchanged
after-map f i [] order room within = refl
after-map f i (s ∷ rest) order room within =
    let many : length (swap order i s) ≡ length order = length-swap order i s in
    let second : s < length order = within 0 (omega arith) in
    ap (rows_after (suc i) rest) (swap-map f order i s (omega (arith, room)) second)
    ∙ after-map f (suc i) rest (swap order i s) (omega (arith, room, many)) (λ k below. let more = within (suc k) (omega (arith, below)) in omega (arith, more, many))

row_after : (n : ℕ) (exchanges : List ℕ) (rows : List (List ℕ)) (i : ℕ) → length rows ≡ n → AreSwaps n exchanges → i < n
    → get_or (rows_after 0 exchanges rows) i [] ≡ get_or rows (get_or (swaps n exchanges) i 0) []
row_after n exchanges rows i long are below =
    let f : ℕ → List ℕ = λ k. get_or rows k [] in
    let count : length (range_with_len 0 n) ≡ n = length-range_with_len 0 n in
    let room = are.count in
    let order = IsOrder-swaps n exchanges are.count are.below in
    let many = order.count in
    let listed : rows ≡ map f (range_with_len 0 n) = fill_by_all f rows n [] long (λ k within. refl) in
    ap (λ l. get_or (rows_after 0 exchanges l) i []) listed
    ∙ ap (λ l. get_or l i []) (after-map f 0 exchanges (range_with_len 0 n) (omega arith) (λ k within. let small = are.below k within in omega arith))
    ∙ get_or-map f (swaps n exchanges) i 0 [] (omega arith)

-- exchanged rows are those of the matrix in the order of the exchanges
pub rows_in_order : (A : Matrix) (exchanges : List ℕ) → IsMatrix A → AreSwaps A.rows exchanges
    → rows_after 0 exchanges A.entries ≡ (reordered (swaps A.rows exchanges) A).entries
rows_in_order A exchanges is are =
    let p = swaps A.rows exchanges in
    let order = IsOrder-swaps A.rows exchanges are.count are.below in
    same_table A.rows A.cols (λ i j. at A (get_or p i 0) j) (rows_after 0 exchanges A.entries) (length-rows_after 0 exchanges A.entries ∙ is.height)
    (λ i below. ap length (row_after A.rows exchanges A.entries i is.height are below) ∙ is.width (get_or p i 0) (order.below i below))
    (λ i j below within. ap (λ l. get_or l j 0) (row_after A.rows exchanges A.entries i is.height are below))

-- rows that were exchanged back
module _ (A : Matrix) (exchanges : List ℕ) (is : IsMatrix A) (are : AreSwaps A.rows exchanges) where
  bound : (k : ℕ) → k < length exchanges → get_or exchanges k 0 < length A.entries
  bound k below = let small = are.below k below in let high = is.height in omega arith

  pub undone_rows : (reordered (swaps A.rows exchanges) (record A { entries = rows_back 0 exchanges A.entries })).entries ≡ A.entries
  undone_rows =
      let rows = rows_back 0 exchanges A.entries in
      let long : length rows ≡ A.rows = length-rows_back 0 exchanges A.entries ∙ is.height in
      let high = is.height in
      let few = are.count in
      let forth : rows_after 0 exchanges rows ≡ A.entries = after_back 0 exchanges A.entries (omega arith) bound in
      sym (same_table A.rows A.cols (λ i j. get_or (get_or rows (get_or (swaps A.rows exchanges) i 0) []) j 0) A.entries is.height is.width
      (λ i j below within. ap (λ l. get_or l j 0) (ap (λ l. get_or l i []) (sym forth) ∙ row_after A.rows exchanges rows i long are below)))

  pub one_before : (B : Matrix) → HasShape A.field A.rows A.cols B → reordered (swaps A.rows exchanges) B ≡ A → record A { entries = rows_back 0 exchanges A.entries } ≡ B
  one_before B shape made =
      let rows : B.rows ≡ A.rows = shape.rows in
      let there : AreSwaps B.rows exchanges = record { count = let h = are.count in omega arith; behind = are.behind; below = λ k within. let h = are.below k within in omega arith } in
      let entries : rows_after 0 exchanges B.entries ≡ A.entries =
      rows_in_order B exchanges shape.is_matrix there ∙ ap (λ n. (reordered (swaps n exchanges) B).entries) rows ∙ ap (λ (M : Matrix). M.entries) made in
      let high = shape.is_matrix.height in
      let few = are.count in
      same_parts (record A { entries = rows_back 0 exchanges A.entries }) B (sym shape.over) (sym shape.rows) (sym shape.cols)
      (ap (rows_back 0 exchanges) (sym entries)
      ∙ back_after 0 exchanges B.entries (omega arith) (λ k within. let small = there.below k within in omega arith))

-- ---- rows that are copied in an order
pub row_reordered : (p : List ℕ) (A : Matrix) (r : ℕ) → IsMatrix A → r < A.rows → get_or p r 0 < A.rows → row A (get_or p r 0) ≡ get_or (reordered p A).entries r []
row_reordered p A r is below within =
    ext_get_or 0 (row A (get_or p r 0)) (get_or (reordered p A).entries r [])
    (is.width (get_or p r 0) within ∙ sym (length-row-table A.rows A.cols (λ i j. at A (get_or p i 0) j) r below))
    (λ j inside.
    let wide = is.width (get_or p r 0) within in
    sym (at-table A.rows A.cols (λ i j. at A (get_or p i 0) j) r j below (omega arith)))

-- columns are rows of the transpose
pub turned_columns : (p : List ℕ) (A : Matrix) → IsOrder A.cols p → transposed (reordered p (transposed A)) ≡ columns_reordered p A
turned_columns p A order =
    same_parts (transposed (reordered p (transposed A))) (columns_reordered p A) refl refl refl
    (same_table A.rows A.cols (λ i j. at A i (get_or p j 0)) (transposed (reordered p (transposed A))).entries
    (length-table A.rows A.cols (λ i j. at (reordered p (transposed A)) j i)) (λ i below. length-row-table A.rows A.cols (λ i j. at (reordered p (transposed A)) j i) i below)
    (λ i j below within.
    at-table A.rows A.cols (λ i j. at (reordered p (transposed A)) j i) i j below within
    ∙ at-table A.cols A.rows (λ j i. at (transposed A) (get_or p j 0) i) j i within below
    ∙ at-table A.cols A.rows (λ j i. at A i j) (get_or p j 0) i (order.below j within) below))

-- one exchange more on the way back
pub back_next : (first now next : Window) (exchanges : List ℕ) (done : ℕ) → done < length exchanges
    → now ≡ record first { bits = rows_back (length exchanges - done) (drop (length exchanges - done) exchanges) first.bits }
    → next ≡ record now { bits = swap now.bits (length exchanges - 1 - done) (get_or exchanges (length exchanges - 1 - done) 0) }
    → next ≡ record first { bits = rows_back (length exchanges - (done + 1)) (drop (length exchanges - (done + 1)) exchanges) first.bits }
back_next first now next exchanges done more is written =
    let i = length exchanges - 1 - done in
    let before : length exchanges - done ≡ i + 1 = omega arith in
    let here : i ≡ length exchanges - (done + 1) = omega arith in
    written
    ∙ ap (λ (w : Window). record w { bits = swap w.bits i (get_or exchanges i 0) })
    (is ∙ ap {B = Window} (λ k. record first { bits = rows_back k (drop k exchanges) first.bits }) before)
    ∙ ap {B = Window} (λ rows. record first { bits = rows }) (sym (back_step i exchanges first.bits (omega arith)))
    ∙ ap {B = Window} (λ k. record first { bits = rows_back k (drop k exchanges) first.bits }) here
