-- A window in a rectangle of words: its shape, its entries, its parts, and what it is once a row of words is written.
use Rattle.std.proofs.Common.{◌≡◌, ℕ, ◌+◌, ◌-◌, ◌*◌, ◌<◌, ◌≤◌, List, [], length, get_or, take, drop, refl, sym, ◌∙◌, ap, subst, arith}
use Rattle.std.proofs.lemmas.List.{length-map, get_or-map, take-map, drop-map}
use Rattle.std.proofs.lemmas.List.Elements.{All-map, All-weaker}
use Rattle.m4_model.specs.Matrix.{at}
use Rattle.m4_model.specs.Text.{words_per_row}
use Rattle.m4_model.proofs.FieldLemmas.{gf2_field}
use Rattle.m4_bits.specs.Bits.{bit}
use Rattle.m4_bits.proofs.BitsLemmas.{bit-lt}
use Rattle.m4_area.specs.Rectangle.{Rectangle}
use Rattle.m4_area.specs.Rows.{row_of, with_row}
use Rattle.m4_area.proofs.ShapeLemmas.{row_width, shape_row}
use Rattle.m4_mzd.specs.Window.{Window, IsWindow, content}
use Rattle.m4_mzd.specs.Shown.{window, bits_within, bits_past, IsFramed}
use Rattle.m4_mzd.proofs.BitRows.{length-bits_within, get_or-bits_within, length-bits_past}

-- windows with the same parts are equal
pub same_window : (x y : Window) → x.place ≡ y.place → x.skip ≡ y.skip → x.rows ≡ y.rows → x.cols ≡ y.cols → x.bits ≡ y.bits → x.past ≡ y.past → x ≡ y
same_window x y place skip rows cols bits past =
    λ i. record { place = place i; skip = skip i; rows = rows i; cols = cols i; bits = bits i; past = past i }

-- the columns of a window have room in its words
pub cols_fit : (v : Rectangle) (cols : ℕ) → IsFramed v cols → cols ≤ v.width * 64
cols_fit v cols f = omega (arith, f.wide)

-- a row of a window's entries
pub row_of_bits : (v : Rectangle) (cols r : ℕ) → IsFramed v cols → r < v.rows → get_or (window v cols).bits r [] ≡ bits_within cols (row_of v.words r)
row_of_bits v cols r f below = get_or-map (bits_within cols) v.words r [] [] (omega (arith, f.shape.count))

pub length-row_of_bits : (v : Rectangle) (cols r : ℕ) → IsFramed v cols → r < v.rows → length (get_or (window v cols).bits r []) ≡ cols
length-row_of_bits v cols r f below =
    ap length (row_of_bits v cols r f below)
    ∙ length-bits_within cols (row_of v.words r) (omega (arith, cols_fit v cols f, row_width v r f.shape below))

-- an entry of a window is a bit of its words
pub at_window : (v : Rectangle) (cols r c : ℕ) → IsFramed v cols → r < v.rows → c < cols → at (content (window v cols)) r c ≡ bit (row_of v.words r) c
at_window v cols r c f below within =
    ap (λ row. get_or row c 0) (row_of_bits v cols r f below) ∙ get_or-bits_within cols (row_of v.words r) c within

-- the same of a value that is known to be the window
pub at_shown : (v : Rectangle) (cols r c : ℕ) (w : Window) → window v cols ≡ w → IsFramed v cols → r < w.rows → c < w.cols
    → at (content w) r c ≡ bit (row_of v.words r) c
at_shown v cols r c w is f =
    let P : Window → Type 0 = λ x. r < x.rows → c < x.cols → at (content x) r c ≡ bit (row_of v.words r) c in
    subst P is (at_window v cols r c f)

-- what is true of every window
IsWindow-window : (v : Rectangle) (cols : ℕ) → IsFramed v cols → IsWindow (window v cols)
IsWindow-window v cols f = record {
  matrix = record {
    over_field = gf2_field;
    height = length-map v.words (bits_within cols) ∙ f.shape.count;
    width = λ i below. length-row_of_bits v cols i f below;
    elements = λ i j below within. let small = bit-lt (row_of v.words i) j in omega (arith, at_window v cols i j f below within);
  };
  past_rows = length-map v.words (bits_past cols) ∙ f.shape.count;
  past_widths = All-map (λ row. length row ≡ words_per_row cols * 64 - cols) (bits_past cols) v.words
      (All-weaker (λ row. length row ≡ v.width) (λ row. length (bits_past cols row) ≡ words_per_row cols * 64 - cols)
      (λ row wide. omega (arith, length-bits_past cols row, f.wide)) v.words f.shape.widths);
  few_rows = f.few_rows;
  few_cols = f.few_cols;
}

pub IsWindow_shown : (v : Rectangle) (cols : ℕ) (w : Window) → window v cols ≡ w → IsFramed v cols → IsWindow w
IsWindow_shown v cols w is f = subst IsWindow is (IsWindow-window v cols f)

-- a window stays well framed when a row of its words is written
pub framed_row : (v : Rectangle) (cols r : ℕ) (new : List ℕ) (w : Window) → window v cols ≡ w → IsFramed v cols → r < w.rows
    → IsFramed (record v { words = with_row v.words r new }) cols
framed_row v cols r new w is f below =
    let rows : v.rows ≡ w.rows = ap (λ x. x.rows) is in
    record { shape = shape_row v r new f.shape (omega arith); wide = f.wide; few_rows = f.few_rows; few_cols = f.few_cols }

-- the parts of a window
pub window_above : (v : Rectangle) (cols r : ℕ) (w : Window) (a : Rectangle) → window v cols ≡ w → a ≡ record v { rows = r; words = take r v.words }
    → window a cols ≡ record w { rows = r; bits = take r w.bits; past = take r w.past }
window_above v cols r w a is e =
    rw (e, ← is)
    (same_window _ _ refl refl refl refl (sym (take-map (bits_within cols) r v.words)) (sym (take-map (bits_past cols) r v.words)))

pub window_below : (v : Rectangle) (cols r : ℕ) (w : Window) (a : Rectangle) → window v cols ≡ w
    → a ≡ record v { skip = v.skip + r * v.place.stride; rows = v.rows - r; words = drop r v.words }
    → window a cols ≡ record w { skip = w.skip + r * w.place.stride; rows = w.rows - r; bits = drop r w.bits; past = drop r w.past }
window_below v cols r w a is e =
    rw (e, ← is)
    (same_window _ _ refl refl refl refl (sym (drop-map (bits_within cols) r v.words)) (sym (drop-map (bits_past cols) r v.words)))
