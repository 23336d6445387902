-- A matrix that is turned over its diagonal, by halves and by blocks.
use Rattle.std.proofs.Common.{◌≡◌, ℕ, ◌+◌, ◌-◌, ◌*◌, ◌/◌, ◌%◌, ◌<◌, ◌≤◌, [], ◌++◌, take, drop, map, refl, sym, ◌∙◌, ap, ap₂, subst, arith, mod-eq_of_lt}
use Rattle.std.specs.Int.{bit_at}
use Rattle.std.specs.Simd.Lanes.{zip2}
use Rattle.std.proofs.Math.Nat.{mul-add-mod_self_right, zero-mod}
use Rattle.std.proofs.lemmas.Nat.{div-mul-add}
use Rattle.std.proofs.lemmas.List.{take-append-drop}
use Rattle.m4_model.specs.Field.{Field, IsElement, gf2, width}
use Rattle.m4_model.specs.Matrix.{Matrix, IsMatrix, at, matrix_of}
use Rattle.m4_model.specs.Shapes.{transposed}
use Rattle.m4_model.proofs.MatrixLemmas.{at-table}
use Rattle.m4_mzd.specs.Window.{Window, IsWindow}
use Rattle.m4_mzd.specs.Window.{content as bit_content, showing as bit_showing}
use Rattle.m4_field.proofs.WidthLemmas.{width_facts}
use Rattle.m4_mzed.specs.EWindow.{EWindow, showing}
use Rattle.m4_mzed.specs.Owned.{e_matrix}
use Rattle.m4_mzed.specs.Packed.{elements, IsPacked}
use Rattle.m4_mzed.specs.PackedIn.{IsPackedIn}
use Rattle.m4_mzed.proofs.EntryLemmas.{entry_element}
use Rattle.m4_mzed.proofs.PackedSums.{next_le}
use Rattle.m4_mzed.proofs.PairLemmas.{upper, lower, stacked}
use Rattle.m4_mzed.proofs.PartLemmas.{same_window}
use Rattle.m4_mzed.proofs.RectLemmas.{matrix_bit, made_packed, made_is}
use Rattle.m4_shape.proofs.TurnLemmas.{first_rows, other_rows, first_cols, other_cols, rows_turned, cols_turned}
use Rattle.m4_eshape.specs.Turned.{numbers_turned}
use Rattle.m4_eshape.proofs.NumberLemmas.{turned_rows}

-- ---- by halves
pub turned_by_cols : (w top bottom whole : EWindow) (A : Matrix) (h : ℕ) → IsMatrix A → w.rows ≡ A.cols → h ≤ A.cols
    → top ≡ showing (upper w h) (transposed (first_cols A h)) → bottom ≡ showing (lower w h) (transposed (other_cols A h)) → whole ≡ stacked top bottom
    → whole ≡ showing w (transposed A)
turned_by_cols w top bottom whole A h is rows within up down joined =
    let high : h + (w.rows - h) ≡ w.rows = omega (arith, rows, within) in
    joined ∙ (λ i. stacked (up i) (down i))
    ∙ same_window _ _ refl refl refl high refl (rows_turned A h is within) (take-append-drop h w.past)

-- the parts of a window beside each other, and the window that they make
abbrev pub left_of : EWindow → ℕ → EWindow
left_of w h = record w { cols = h; entries = map (take h) w.entries; past = map (λ _. []) w.past }

abbrev pub right_of : EWindow → ℕ → EWindow
right_of w h = record w { skip = w.skip + h * width w.field / 64; cols = w.cols - h; entries = map (drop h) w.entries }

abbrev pub side_by_side : EWindow → EWindow → EWindow
side_by_side a b = record a { cols = a.cols + b.cols; entries = zip2 (λ l r. l ++ r) a.entries b.entries; past = b.past }

pub turned_by_rows : (w left right whole : EWindow) (A : Matrix) (h : ℕ) → IsMatrix A → w.cols ≡ A.rows → h ≤ A.rows
    → left ≡ showing (left_of w h) (transposed (first_rows A h)) → right ≡ showing (right_of w h) (transposed (other_rows A h)) → whole ≡ side_by_side left right
    → whole ≡ showing w (transposed A)
turned_by_rows w left right whole A h is cols within one other joined =
    let wide : h + (w.cols - h) ≡ w.cols = omega (arith, cols, within) in
    joined ∙ (λ i. side_by_side (one i) (other i)) ∙ same_window _ _ refl refl refl refl wide (cols_turned A h is within) refl

-- the border after some blocks
pub whole_blocks : (x s : ℕ) → x * s % s ≡ 0
whole_blocks x s =
    let e : x * s ≡ x * s + 0 = omega arith in
    ap (λ y. y % s) e ∙ mul-add-mod_self_right x s 0 ∙ zero-mod s

-- ---- by blocks: what is known where the bits of a window were turned, over plain variables
pub record WereTurned (F : Field) (n k : ℕ) (x dst : EWindow) (W N : Window) (B R : Matrix) : Type 0 where
  pub whole : x ≡ dst
  pub packed : IsPacked x.field x.cols W
  pub shows : elements x.field x.cols W ≡ x
  pub field_is : F ≡ dst.field
  pub cols_is : n ≡ dst.cols
  pub shape : IsWindow W
  pub new_shape : IsWindow N
  pub source : IsPackedIn B.field B.cols R
  pub source_matrix : IsMatrix R
  pub source_over : R.field ≡ gf2
  pub source_shows : e_matrix B.field B.cols R ≡ B
  pub same_field : dst.field ≡ B.field
  pub rows : dst.rows ≡ B.cols
  pub cols : dst.cols ≡ B.rows
  pub width_is : k ≡ width F
  pub kept : N ≡ bit_showing W (numbers_turned k R)

module _ (F : Field) (n k : ℕ) (x dst : EWindow) (W N : Window) (B R : Matrix) (g : WereTurned F n k x dst W N B R) where
  kept : N ≡ bit_showing W (numbers_turned (width F) R)
  kept = g.kept ∙ ap (λ w. bit_showing W (numbers_turned w R)) g.width_is

  over : x.field ≡ F
  over = ap (λ (v : EWindow). v.field) g.whole ∙ sym g.field_is

  count : x.cols ≡ n
  count = ap (λ (v : EWindow). v.cols) g.whole ∙ sym g.cols_is

  packed : IsPacked F n W
  packed =
      let P : Field → Type 0 = λ H. IsPacked H x.cols W in
      let Q : ℕ → Type 0 = λ k. IsPacked F k W in
      subst Q count (subst P over g.packed)

  source_field : B.field ≡ F
  source_field = sym g.same_field ∙ sym g.field_is

  source : IsPackedIn F B.cols R
  source = let P : Field → Type 0 = λ H. IsPackedIn H B.cols R in subst P source_field g.source

  source_rows : R.rows ≡ n
  source_rows = ap (λ (M : Matrix). M.rows) g.source_shows ∙ sym g.cols ∙ sym g.cols_is

  old_rows : W.rows ≡ B.cols
  old_rows = ap (λ (v : EWindow). v.rows) (g.shows ∙ g.whole) ∙ g.rows

  new_rows : N.rows ≡ B.cols
  new_rows = ap (λ (v : Window). v.rows) g.kept ∙ old_rows

  new_wide : N.cols ≡ n * width F
  new_wide = ap (λ (v : Window). v.cols) g.kept ∙ packed.wide

  -- entry j of row i is entry i of row j
  abbrev entry : ℕ → ℕ → ℕ
  entry i j = at (e_matrix F B.cols R) j i

  small : (i j : ℕ) → i < N.rows → j < n → IsElement F (entry i j)
  small i j below within = entry_element F B.cols R source j i (omega (arith, within, source_rows))

  many_rows : R.cols / width F ≡ B.cols
  many_rows = turned_rows (width F) B.cols R.cols (width_facts F packed.carried).some (sym source.wide)

  bits : (i j v : ℕ) → i < N.rows → j < n → v < width F → at (bit_content N) i (j * width F + v) ≡ bit_at (entry i j) v
  bits i j v below within v_below =
      let w = width F in
      let in_row : j * w + v < R.rows * w = (let m = next_le j R.rows w (omega (arith, within, source_rows)) in omega (arith, m, v_below)) in
      let i_below : i < B.cols = omega (arith, below, new_rows) in
      ap (λ (y : Window). at (bit_content y) i (j * w + v)) kept
      ∙ at-table (R.cols / w) (R.rows * w) (λ i p. at R (p / w) (i * w + p % w)) i (j * w + v) (omega (arith, i_below, many_rows)) in_row
      ∙ ap₂ (λ q u. at R q (i * w + u)) (div-mul-add j w v v_below) (mul-add-mod_self_right j w v ∙ mod-eq_of_lt v_below)
      ∙ matrix_bit F B.cols R source g.source_matrix g.source_over j i v (omega (arith, within, source_rows)) i_below v_below

  new_over : (bit_content N).field ≡ gf2
  new_over = refl

  pub turned_packed : IsPacked F n N
  turned_packed =
      let q = made_packed F packed.carried n (bit_content N) entry g.new_shape.matrix new_over new_wide small bits in
      record { carried = q.carried; wide = q.wide; count = q.count; packed = q.packed }

  pub turned_elements : elements F n N ≡ showing dst (transposed B)
  turned_elements =
      let made = made_is F packed.carried n (bit_content N) entry g.new_shape.matrix new_over new_wide small bits in
      let source_is : e_matrix F B.cols R ≡ B = ap (λ (H : Field). e_matrix H B.cols R) (sym source_field) ∙ g.source_shows in
      let entries : (elements F n N).entries ≡ (transposed B).entries =
      ap (λ (M : Matrix). M.entries) made
      ∙ ap₂ (λ r c. (matrix_of F r c (λ i j. at (e_matrix F B.cols R) j i)).entries) new_rows (sym source_rows)
      ∙ ap (λ (M : Matrix). (transposed M).entries) source_is in
      let w_is : elements F n W ≡ dst = ap₂ (λ (H : Field) (k : ℕ). elements H k W) (sym over) (sym count) ∙ g.shows ∙ g.whole in
      same_window _ _ (ap (λ (v : EWindow). v.field) w_is) (ap (λ (v : Window). v.place) g.kept ∙ ap (λ (v : EWindow). v.place) w_is)
      (ap (λ (v : Window). v.skip) g.kept ∙ ap (λ (v : EWindow). v.skip) w_is) (ap (λ (v : Window). v.rows) g.kept ∙ ap (λ (v : EWindow). v.rows) w_is)
      (ap (λ (v : EWindow). v.cols) w_is) entries (ap (λ (v : Window). v.past) g.kept ∙ ap (λ (v : EWindow). v.past) w_is)
