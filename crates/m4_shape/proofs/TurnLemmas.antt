-- A matrix that is turned over its diagonal, by halves and by blocks.
use Rattle.std.proofs.Common.{◌≡◌, ℕ, ◌+◌, ◌-◌, ◌*◌, ◌/◌, ◌%◌, ◌<◌, ◌≤◌, inl, inr, cond, List, [], ◌++◌, length, get_or, take, drop, map, refl, sym, ◌∙◌, ap, arith, eqb}
use Rattle.std.specs.Prelude.{nat_lt}
use Rattle.std.specs.Int.{bit_at}
use Rattle.std.specs.Simd.Lanes.{zip2}
use Rattle.std.proofs.lemmas.Bool.{cases_lt, cases_eq, cond-true, cond-false, lt-ltb, le-ltb, eq-eqb, ne_eqb}
use Rattle.std.proofs.lemmas.List.{length-append, get_or-take, get_or-drop, get_or-map, get_or_append_left, get_or-append_right}
use Rattle.std.proofs.lemmas.Simd.{length-zip2, get_or-zip2}
use Rattle.m4_model.specs.Matrix.{Matrix, IsMatrix, row, at, table, matrix_of}
use Rattle.m4_model.specs.Shapes.{transposed}
use Rattle.m4_model.proofs.MatrixLemmas.{length-table, length-row-table, at-table, same_table}
use Rattle.m4_bits.specs.Transpose.{IsTransposed}
use Rattle.m4_mzd.specs.Window.{Window, content, showing}
use Rattle.m4_mzd.specs.Parts.{with_words}
use Rattle.m4_mzd.proofs.PairLemmas.{upper, lower, stacked, rejoined}
use Rattle.m4_mzd.proofs.WindowLemmas.{same_window}
use Rattle.m4_shape.proofs.PlacedLemmas.{table_same}

-- ---- by halves
-- the parts of a matrix
abbrev pub first_rows : Matrix → ℕ → Matrix
first_rows A h = record A { rows = h; entries = take h A.entries }

abbrev pub other_rows : Matrix → ℕ → Matrix
other_rows A h = record A { rows = A.rows - h; entries = drop h A.entries }

abbrev pub first_cols : Matrix → ℕ → Matrix
first_cols A h = record A { cols = h; entries = map (take h) A.entries }

abbrev pub other_cols : Matrix → ℕ → Matrix
other_cols A h = record A { cols = A.cols - h; entries = map (drop h) A.entries }

at-first_cols : (A : Matrix) (h i j : ℕ) → IsMatrix A → i < A.rows → j < h → at (first_cols A h) i j ≡ at A i j
at-first_cols A h i j is below first =
    ap (λ l. get_or l j 0) (get_or-map (take h) A.entries i [] [] (omega (arith, is.height))) ∙ get_or-take h (row A i) j 0 first

at-other_cols : (A : Matrix) (h i j : ℕ) → IsMatrix A → i < A.rows → at (other_cols A h) i j ≡ at A i (h + j)
at-other_cols A h i j is below =
    ap (λ l. get_or l j 0) (get_or-map (drop h) A.entries i [] [] (omega (arith, is.height))) ∙ get_or-drop h (row A i) j 0

-- the turned columns, one part over the other
pub rows_turned : (A : Matrix) (h : ℕ) → IsMatrix A → h ≤ A.cols
    → (transposed (first_cols A h)).entries ++ (transposed (other_cols A h)).entries ≡ (transposed A).entries
rows_turned A h is within =
    let top = transposed (first_cols A h) in
    let bottom = transposed (other_cols A h) in
    let high : length top.entries ≡ h = length-table h A.rows (λ i j. at (first_cols A h) j i) in
    let low : length bottom.entries ≡ A.cols - h = length-table (A.cols - h) A.rows (λ i j. at (other_cols A h) j i) in
    let upper : (i : ℕ) → i < h → get_or (top.entries ++ bottom.entries) i [] ≡ row top i =
    λ i first. get_or_append_left top.entries bottom.entries [] i (omega (arith, high)) in
    let under : (i : ℕ) → h ≤ i → get_or (top.entries ++ bottom.entries) i [] ≡ row bottom (i - h) =
    λ i past. get_or-append_right top.entries bottom.entries h i [] high past in
    same_table A.cols A.rows (λ i j. at A j i) (top.entries ++ bottom.entries) (omega (arith, length-append top.entries bottom.entries, high, low))
    (λ i below. elim (cases_lt i h) [
      | inl first ↦ ap length (upper i first) ∙ length-row-table h A.rows (λ i j. at (first_cols A h) j i) i first
      | inr past ↦ ap length (under i past) ∙ length-row-table (A.cols - h) A.rows (λ i j. at (other_cols A h) j i) (i - h) (omega arith)
    ])
    (λ i j below within_row. elim (cases_lt i h) [
      | inl first ↦
          ap (λ l. get_or l j 0) (upper i first) ∙ at-table h A.rows (λ i j. at (first_cols A h) j i) i j first within_row
          ∙ at-first_cols A h j i is within_row first
      | inr past ↦
          ap (λ l. get_or l j 0) (under i past) ∙ at-table (A.cols - h) A.rows (λ i j. at (other_cols A h) j i) (i - h) j (omega arith) within_row
          ∙ at-other_cols A h j (i - h) is within_row ∙ (let e : h + (i - h) ≡ i = omega arith in ap (λ k. at A j k) e)
    ])

pub turned_by_cols : (w top bottom whole : Window) (A : Matrix) (h : ℕ) → IsMatrix A → w.rows ≡ A.cols → h ≤ A.cols
    → top ≡ showing (upper w h) (transposed (first_cols A h)) → bottom ≡ showing (lower w h) (transposed (other_cols A h)) → whole ≡ stacked top bottom
    → whole ≡ showing w (transposed A)
turned_by_cols w top bottom whole A h is rows within up down joined =
    joined ∙ (λ i. stacked (up i) (down i))
    ∙ rejoined w h ((transposed (first_cols A h)).entries ++ (transposed (other_cols A h)).entries) (transposed A).entries (omega arith) (rows_turned A h is within)

-- the turned rows, one part beside the other
pub cols_turned : (A : Matrix) (h : ℕ) → IsMatrix A → h ≤ A.rows
    → zip2 (λ l r. l ++ r) (transposed (first_rows A h)).entries (transposed (other_rows A h)).entries ≡ (transposed A).entries
cols_turned A h is within =
    let left = transposed (first_rows A h) in
    let right = transposed (other_rows A h) in
    let mine : length left.entries ≡ A.cols = length-table A.cols h (λ i j. at (first_rows A h) j i) in
    let theirs : length right.entries ≡ A.cols = length-table A.cols (A.rows - h) (λ i j. at (other_rows A h) j i) in
    let both : (i : ℕ) → i < A.cols → get_or (zip2 (λ l r. l ++ r) left.entries right.entries) i [] ≡ row left i ++ row right i =
    λ i below. get_or-zip2 (λ l r. l ++ r) left.entries right.entries i [] [] [] (omega (arith, mine)) (omega (arith, theirs)) in
    same_table A.cols A.rows (λ i j. at A j i) (zip2 (λ l r. l ++ r) left.entries right.entries)
    (length-zip2 (λ l r. l ++ r) left.entries right.entries (mine ∙ sym theirs) ∙ mine)
    (λ i below. ap length (both i below)
    ∙ omega (arith, length-append (row left i) (row right i), length-row-table A.cols h (λ i j. at (first_rows A h) j i) i below, length-row-table A.cols (A.rows - h) (λ i j. at (other_rows A h) j i) i below))
    (λ i j below within_row.
    let long : length (row left i) ≡ h = length-row-table A.cols h (λ i j. at (first_rows A h) j i) i below in
    ap (λ l. get_or l j 0) (both i below)
    ∙ elim (cases_lt j h) [
      | inl first ↦
          get_or_append_left (row left i) (row right i) 0 j (omega (arith, long)) ∙ at-table A.cols h (λ i j. at (first_rows A h) j i) i j below first
          ∙ ap (λ l. get_or l i 0) (get_or-take h A.entries j [] first)
      | inr past ↦
          get_or-append_right (row left i) (row right i) h j 0 long past
          ∙ at-table A.cols (A.rows - h) (λ i j. at (other_rows A h) j i) i (j - h) below (omega arith)
          ∙ ap (λ l. get_or l i 0) (get_or-drop h A.entries (j - h) []) ∙ (let e : h + (j - h) ≡ j = omega arith in ap (λ k. at A k i) e)
    ])

-- the parts of a window beside each other, and the window that they make
abbrev pub left_of : Window → ℕ → Window
left_of w h = record w { cols = h; bits = map (take h) w.bits; past = map (λ _. []) w.past }

abbrev pub right_of : Window → ℕ → Window
right_of w h = record w { skip = w.skip + h / 64; cols = w.cols - h; bits = map (drop h) w.bits }

abbrev pub side_by_side : Window → Window → Window
side_by_side a b = record a { cols = a.cols + b.cols; bits = zip2 (λ l r. l ++ r) a.bits b.bits; past = b.past }

pub turned_by_rows : (w left right whole : Window) (A : Matrix) (h : ℕ) → IsMatrix A → w.cols ≡ A.rows → h ≤ A.rows
    → left ≡ showing (left_of w h) (transposed (first_rows A h)) → right ≡ showing (right_of w h) (transposed (other_rows A h)) → whole ≡ side_by_side left right
    → whole ≡ showing w (transposed A)
turned_by_rows w left right whole A h is cols within one other joined =
    let wide : h + (w.cols - h) ≡ w.cols = omega arith in
    joined ∙ (λ i. side_by_side (one i) (other i)) ∙ same_window _ _ refl refl refl wide (cols_turned A h is within) refl

-- ---- by blocks
-- the first 64 k columns of a matrix are turned rows of another
abbrev pub turned_to : Matrix → Matrix → ℕ → ℕ → ℕ → ℕ
turned_to A B k i j = cond (nat_lt j (k * 64)) (at A j i) (at B i j)

abbrev pub turned_window : Window → Matrix → ℕ → Window
turned_window w A k = showing w (matrix_of (content w).field w.rows w.cols (turned_to A (content w) k))

pub turned_none : (w : Window) (A : Matrix) → IsMatrix (content w) → w ≡ turned_window w A 0
turned_none w A is =
    ap {B = Window} (λ l. record w { bits = l }) (same_table w.rows w.cols (turned_to A (content w) 0) w.bits is.height is.width (λ i j below within.
    sym (cond-false _ _ _ (le-ltb j (0 * 64) (omega arith)))))

pub turned_all : (w : Window) (A : Matrix) (k : ℕ) → w.rows ≡ A.cols → w.cols ≡ A.rows → A.rows ≤ k * 64 → turned_window w A k ≡ showing w (transposed A)
turned_all w A k rows cols all =
    ap {B = Window} (λ l. record w { bits = l })
    (table_same w.rows w.cols (turned_to A (content w) k) (λ i j. at A j i) (λ i j below within. cond-true _ _ _ (lt-ltb j (k * 64) (omega arith)))
    ∙ (λ i. table (rows i) (cols i) (λ i j. at A j i)))

-- a block that was read, turned and written
pub turned_more : (w now next : Window) (A : Matrix) (k : ℕ) (read block : List ℕ) → w.rows ≤ 64
    → ((i j : ℕ) → i < 64 → j < 64 → bit_at (get_or read i 0) j ≡ at A (k * 64 + i) (0 * 64 + j)) → IsTransposed read block
    → now ≡ turned_window w A k → next ≡ showing now (with_words k block (content now)) → next ≡ turned_window w A (k + 1)
turned_more w now next A k read block few in_read turned is written =
    let so_far = turned_to A (content w) k in
    written ∙ ap (λ (x : Window). showing x (with_words k block (content x))) is
    ∙ ap {B = Window} (λ l. record w { bits = l })
    (table_same w.rows w.cols (λ i j. cond (eqb (j / 64) k) (bit_at (get_or block i 0) (j % 64)) (at (content (turned_window w A k)) i j)) (turned_to A (content w) (k + 1)) (λ i j below within.
    elim (cases_eq (j / 64) k) [
      | inl here ↦
          let row : k * 64 + j % 64 ≡ j = omega arith in
          let col : 0 * 64 + i ≡ i = omega arith in
          cond-true _ _ _ (eq-eqb (j / 64) k here)
          ∙ turned i (j % 64) (omega arith) (omega arith) ∙ in_read (j % 64) i (omega arith) (omega arith) ∙ (λ q. at A (row q) (col q))
          ∙ sym (cond-true _ _ _ (lt-ltb j ((k + 1) * 64) (omega arith)))
      | inr away ↦
          cond-false _ _ _ (ne_eqb (j / 64) k away) ∙ at-table w.rows w.cols so_far i j below within
          ∙ elim (cases_lt j (k * 64)) [
            | inl before ↦
                cond-true _ _ _ (lt-ltb j (k * 64) before) ∙ sym (cond-true _ _ _ (lt-ltb j ((k + 1) * 64) (omega arith)))
            | inr after ↦
                cond-false _ _ _ (le-ltb j (k * 64) after) ∙ sym (cond-false _ _ _ (le-ltb j ((k + 1) * 64) (omega (arith, away))))
          ]
    ]))

-- a matrix of no columns
pub turned_empty : (w : Window) (A : Matrix) → IsMatrix (content w) → w.rows ≡ A.cols → A.cols ≡ 0 → w ≡ showing w (transposed A)
turned_empty w A is rows none =
    ap {B = Window} (λ l. record w { bits = l })
    (same_table A.cols A.rows (λ i j. at A j i) w.bits (is.height ∙ rows) (λ i below. absurd (omega arith)) (λ i j below within. absurd (omega arith)))
