use Rattle.std.proofs.Common.{◌≡◌, ℕ, ◌<◌, List, refl, sym, ap, ap₂, subst, ◌∙◌}
use Rattle.m4_model.specs.Field.{Field, width}
use Rattle.m4_model.specs.Matrix.{IsMatrix, row, row_sum, with_row}
use Rattle.m4_field.specs.Fields.{the_field}
use Rattle.m4_mzd.specs.Seen.{shown}
use Rattle.m4_mzd.specs.Window.{Window, IsWindow}
use Rattle.m4_mzd.specs.Window.{content as bit_content, showing as bit_showing}
use Rattle.m4_mzed.specs.EWindow.{EWindow, content, showing}
use Rattle.m4_mzed.specs.ESeen.{e_shown}
use Rattle.m4_mzed.specs.Packed.{elements, unpacked, IsPacked}
use Rattle.m4_mzed.specs.declared.win.EWin.{EWin}
use Rattle.m4_mzed.proofs.AddedRows.{source_packed, source_row}
use Rattle.m4_mzed.proofs.RectLemmas.{bits_of_row}
use Rattle.m4_mzed.proofs.RowSums.{HoldsRow, both_packed, both_elements}
use Rattle.m4_mzed.proofs.win_mut.EWinMut.add_both.Goals as goal

-- row i of a window for reading fits one for writing
record HasRow (e : EWindow) (a : EWin) (i : ℕ) : Type 0 where
  seen : IsMatrix (shown a.bits)
  field : (e_shown a).field ≡ e.field
  cols : (e_shown a).cols ≡ e.cols
  within : i < (e_shown a).rows

-- its bits hold elements, and are those of its entries
module _ (F : Field) (n : ℕ) (e : EWindow) (w : Window) (view : elements F n w ≡ e) (a : EWin) (i : ℕ) (f : HasRow e a i) where
  over : the_field a.field ≡ F
  over = f.field ∙ sym (ap (λ (v : EWindow). v.field) view)

  count : a.cols ≡ n
  count = f.cols ∙ sym (ap (λ (v : EWindow). v.cols) view)

  source : HoldsRow F n (row (shown a.bits) i)
  source = record {
    packed = source_packed F (the_field a.field) n a.cols i (shown a.bits) over count a.packed f.within;
    bits = bits_of_row (shown a.bits) f.seen refl i f.within;
  }

  read : unpacked (width F) n (row (shown a.bits) i) ≡ row (e_shown a) i
  read = sym (source_row F (the_field a.field) n a.cols i (shown a.bits) over count a.packed f.within)

-- what is known of the call, over plain variables
record Given (F : Field) (n r i j : ℕ) (a b : EWin) (e : EWindow) (w next : Window) : Type 0 where
  view : elements F n w ≡ e
  is : IsPacked F n w
  shape : IsWindow w
  below : r < e.rows
  first : HasRow e a i
  second : HasRow e b j
  kept : next ≡ bit_showing w (with_row (bit_content w) r (row_sum (row_sum (row (bit_content w) r) (row (shown a.bits) i)) (row (shown b.bits) j)))

module _ (F : Field) (n r i j : ℕ) (a b : EWin) (e : EWindow) (w next : Window) (g : Given F n r i j a b e w next) where
  below : r < w.rows
  below = let P : EWindow → Type 0 = λ v. r < v.rows in subst P (sym g.view) g.below

  first : HoldsRow F n (row (shown a.bits) i)
  first = source F n e w g.view a i g.first

  second : HoldsRow F n (row (shown b.bits) j)
  second = source F n e w g.view b j g.second

  packed : IsPacked F n next
  packed = both_packed F n r (row (shown a.bits) i) (row (shown b.bits) j) w next g.is g.shape below first second g.kept

  shows : elements F n next ≡ showing e (with_row (content e) r (row_sum (row_sum (row (content e) r) (row (e_shown a) i)) (row (e_shown b) j)))
  shows =
      both_elements F n r (row (shown a.bits) i) (row (shown b.bits) j) w next g.is g.shape below first second g.kept
      ∙ ap₂ (λ (x y : List ℕ). showing (elements F n w) (with_row (content (elements F n w)) r (row_sum (row_sum (row (content (elements F n w)) r) x) y)))
      (read F n e w g.view a i g.first) (read F n e w g.view b j g.second)
      ∙ ap {B = EWindow} (λ (v : EWindow). showing v (with_row (content v) r (row_sum (row_sum (row (content v) r) (row (e_shown a) i)) (row (e_shown b) j)))) g.view

pub invariant_of-self : goal.invariant_of-self
invariant_of-self c = packed (the_field c.self.inside.field) c.self.inside.cols c.args.r c.args.i c.args.j c.args.a.now c.args.b.now c.args.self.now c.self.inside.bits c.add_both.new.self
    (record {
      view = c.self.view_is;
      is = c.self.invariant;
      shape = c.rows-rows.ensures.shape;
      below = c.requires.in_rows;
      first = record { seen = c.rows-rows_of_a.ensures.matrix; field = c.requires.same_field; cols = c.requires.same_cols; within = c.requires.in_a };
      second = record { seen = c.rows-rows_of_b.ensures.matrix; field = c.requires.other_field; cols = c.requires.other_cols; within = c.requires.in_b };
      kept = c.add_both.ensures;
    })

pub returns : goal.returns
returns c = shows (the_field c.self.inside.field) c.self.inside.cols c.args.r c.args.i c.args.j c.args.a.now c.args.b.now c.args.self.now c.self.inside.bits c.add_both.new.self
    (record {
      view = c.self.view_is;
      is = c.self.invariant;
      shape = c.rows-rows.ensures.shape;
      below = c.requires.in_rows;
      first = record { seen = c.rows-rows_of_a.ensures.matrix; field = c.requires.same_field; cols = c.requires.same_cols; within = c.requires.in_a };
      second = record { seen = c.rows-rows_of_b.ensures.matrix; field = c.requires.other_field; cols = c.requires.other_cols; within = c.requires.in_b };
      kept = c.add_both.ensures;
    })
