-- A window for reading is a window of the words that it sees.
use Rattle.std.proofs.Common.{◌≡◌, ℕ, ◌-◌, ◌/◌, ◌%◌, ◌<◌, ◌≤◌, length, take, drop, map, refl, sym, ◌∙◌, ap, arith}
use Rattle.std.proofs.Math.Nat.{mul-le-mul_right}
use Rattle.std.proofs.lemmas.List.{length-map, length-take-le, length-drop, take-map, drop-map}
use Rattle.std.proofs.lemmas.List.Elements.{All-map, All-weaker, All-take, All-drop}
use Rattle.m4_model.specs.Matrix.{IsMatrix, at}
use Rattle.m4_model.specs.Text.{words_per_row}
use Rattle.m4_model.proofs.MatrixLemmas.{same_parts}
use Rattle.m4_bits.specs.Bits.{bit}
use Rattle.m4_area.specs.Rectangle.{Rectangle, HasShape}
use Rattle.m4_area.specs.Rows.{row_of}
use Rattle.m4_area.specs.View.{seen}
use Rattle.m4_area.specs.declared.view.View.{View}
use Rattle.m4_mzd.specs.Window.{Window, content}
use Rattle.m4_mzd.specs.Shown.{window, bits_within, IsFramed}
use Rattle.m4_mzd.specs.Seen.{shown, shown_rows}
use Rattle.m4_mzd.specs.declared.win.Win.{Win}
use Rattle.m4_mzd.proofs.PartLemmas.{map_across, left_within, right_within, narrow_within}
use Rattle.m4_mzd.proofs.WindowLemmas.{IsWindow_shown, at_window}

-- the words of a view, as a rectangle of their own
abbrev pub viewed : View → Rectangle
viewed v = record { place = v.words.now.place; skip = 0; rows = v.rows; width = v.width; words = seen v }

shape_viewed : (v : View) → HasShape (viewed v)
shape_viewed v =
    let s = v.whole in
    let ws = v.words.now.words in
    let part = take v.rows (drop v.first_row ws) in
    let rows : length part ≡ v.rows = length-take-le v.rows (drop v.first_row ws) (omega (arith, length-drop v.first_row ws, s.count, v.rows_within)) in
    record {
      strided = s.strided;
      count = length-map part (λ row. take v.width (drop v.first_word row)) ∙ rows;
      widths = All-map (λ row. length row ≡ v.width) (λ row. take v.width (drop v.first_word row)) part
          (All-weaker (λ row. length row ≡ v.words.now.width) (λ row. length (take v.width (drop v.first_word row)) ≡ v.width)
          (λ row wide. length-take-le v.width (drop v.first_word row) (omega (arith, length-drop v.first_word row, v.words_within)))
          part (All-take (λ row. length row ≡ v.words.now.width) v.rows (drop v.first_row ws) (All-drop (λ row. length row ≡ v.words.now.width) v.first_row ws s.widths)));
      small = omega (arith, s.small, v.words_within, mul-le-mul_right {m = v.rows} {n = v.words.now.rows} v.words.now.place.stride (omega (arith, v.rows_within)));
    }

-- the words of a window for reading
abbrev pub words_seen : Win → Rectangle
words_seen w = viewed w.view

pub framed_seen : (w : Win) → IsFramed (words_seen w) w.cols
framed_seen w = record { shape = shape_viewed w.view; wide = w.wide; few_rows = w.few_rows; few_cols = w.few_cols }

pub IsMatrix_shown : (w : Win) → IsMatrix (shown w)
unfolding shown_rows
IsMatrix_shown w = (IsWindow_shown (words_seen w) w.cols (window (words_seen w) w.cols) refl (framed_seen w)).matrix

pub at-shown : (w : Win) (r c : ℕ) → r < w.view.rows → c < w.cols → at (shown w) r c ≡ bit (row_of (seen w.view) r) c
unfolding shown_rows
at-shown w r c below within = at_window (words_seen w) w.cols r c (framed_seen w) below within

-- the parts of a window for reading
pub shown_above : (w x : Win) (r : ℕ) → x.cols ≡ w.cols → x.view.rows ≡ r → seen x.view ≡ take r (seen w.view)
    → shown x ≡ record (shown w) { rows = r; entries = take r (shown w).entries }
unfolding shown_rows
shown_above w x r cols rows words =
    same_parts (shown x) (record (shown w) { rows = r; entries = take r (shown w).entries }) refl rows cols
    (ap (λ n. map (bits_within n) (seen x.view)) cols ∙ ap (map (bits_within w.cols)) words ∙ sym (take-map (bits_within w.cols) r (seen w.view)))

pub shown_below : (w x : Win) (r : ℕ) → x.cols ≡ w.cols → x.view.rows ≡ w.view.rows - r → seen x.view ≡ drop r (seen w.view)
    → shown x ≡ record (shown w) { rows = w.view.rows - r; entries = drop r (shown w).entries }
unfolding shown_rows
shown_below w x r cols rows words =
    same_parts (shown x) (record (shown w) { rows = w.view.rows - r; entries = drop r (shown w).entries }) refl rows cols
    (ap (λ n. map (bits_within n) (seen x.view)) cols ∙ ap (map (bits_within w.cols)) words ∙ sym (drop-map (bits_within w.cols) r (seen w.view)))

pub shown_left : (w x : Win) (c : ℕ) → c ≤ w.cols → c % 64 ≡ 0 → x.cols ≡ c → x.view.rows ≡ w.view.rows → seen x.view ≡ map (take (c / 64)) (seen w.view)
    → shown x ≡ record (shown w) { cols = c; entries = map (take c) (shown w).entries }
unfolding shown_rows
shown_left w x c within whole cols rows words =
    same_parts (shown x) (record (shown w) { cols = c; entries = map (take c) (shown w).entries }) refl rows cols
    (ap (λ n. map (bits_within n) (seen x.view)) cols ∙ ap (map (bits_within c)) words
    ∙ map_across (take (c / 64)) (bits_within c) (bits_within w.cols) (take c) (λ ws. left_within c w.cols ws within whole) (seen w.view))

pub shown_right : (w x : Win) (c : ℕ) → c ≤ w.cols → c % 64 ≡ 0 → x.cols ≡ w.cols - c → x.view.rows ≡ w.view.rows → seen x.view ≡ map (drop (c / 64)) (seen w.view)
    → shown x ≡ record (shown w) { cols = w.cols - c; entries = map (drop c) (shown w).entries }
unfolding shown_rows
shown_right w x c within whole cols rows words =
    same_parts (shown x) (record (shown w) { cols = w.cols - c; entries = map (drop c) (shown w).entries }) refl rows cols
    (ap (λ n. map (bits_within n) (seen x.view)) cols ∙ ap (map (bits_within (w.cols - c))) words
    ∙ map_across (drop (c / 64)) (bits_within (w.cols - c)) (bits_within w.cols) (drop c) (λ ws. right_within c w.cols ws within whole) (seen w.view))

pub shown_narrow : (w x : Win) (n : ℕ) → n ≤ w.cols → x.cols ≡ n → x.view.rows ≡ w.view.rows → seen x.view ≡ map (take (words_per_row n)) (seen w.view)
    → shown x ≡ record (shown w) { cols = n; entries = map (take n) (shown w).entries }
unfolding shown_rows
shown_narrow w x n within cols rows words =
    same_parts (shown x) (record (shown w) { cols = n; entries = map (take n) (shown w).entries }) refl rows cols
    (ap (λ k. map (bits_within k) (seen x.view)) cols ∙ ap (map (bits_within n)) words
    ∙ map_across (take (words_per_row n)) (bits_within n) (bits_within w.cols) (take n) (λ ws. narrow_within n w.cols ws within) (seen w.view))

-- a window that is seen whole
pub shown_whole : (v : Rectangle) (cols : ℕ) (w : Window) (x : Win) → window v cols ≡ w → x.cols ≡ cols → x.view.rows ≡ v.rows → seen x.view ≡ v.words
    → shown x ≡ content w
unfolding shown_rows
shown_whole v cols w x is same rows words =
    rw (← is)
    (same_parts (shown x) (content (window v cols)) refl rows same
    (ap (λ n. map (bits_within n) (seen x.view)) same ∙ ap (map (bits_within cols)) words))
