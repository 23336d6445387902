use Rattle.std.proofs.Common.{◌≡◌, ℕ, ◌*◌, ◌^◌, ◌<◌, ◌≤◌, sym, ap, subst, ◌∙◌}
use Rattle.m4_model.specs.Field.{Field, width}
use Rattle.m4_model.specs.Matrix.{row, with_row}
use Rattle.m4_field.specs.Fields.{the_field}
use Rattle.m4_mzd.specs.Rows.{sum_from}
use Rattle.m4_mzd.specs.Seen.{shown}
use Rattle.m4_mzd.specs.Window.{Window, IsWindow}
use Rattle.m4_mzd.specs.Window.{content as bit_content, showing as bit_showing}
use Rattle.m4_mzed.specs.EWindow.{EWindow, content, showing}
use Rattle.m4_mzed.specs.ESeen.{e_shown}
use Rattle.m4_mzed.specs.Packed.{elements, IsPacked}
use Rattle.m4_mzed.specs.Rows.{multiples, packed_multiples}
use Rattle.m4_mzed.specs.declared.win.EWin.{EWin}
use Rattle.m4_mzed.proofs.AddedRows.{added_packed, added_elements, source_packed, source_row}
use Rattle.m4_mzed.proofs.win_mut.EWinMut.add_tail.Goals as goal

-- what is known of the call, over plain variables
record Given (F : Field) (n a r s c : ℕ) (from : EWin) (e : EWindow) (w next : Window) : Type 0 where
  view : elements F n w ≡ e
  is : IsPacked F n w
  shape : IsWindow w
  below : r < e.rows
  small : a < 2 ^ e.field.degree
  in_cols : c ≤ e.cols
  field : (e_shown from).field ≡ e.field
  cols : (e_shown from).cols ≡ e.cols
  within : s < (e_shown from).rows
  kept : next ≡ bit_showing w (with_row (bit_content w) r (sum_from (c * width F) (row (bit_content w) r) (packed_multiples F n a (row (shown from.bits) s))))

module _ (F : Field) (n a r s c : ℕ) (from : EWin) (e : EWindow) (w next : Window) (g : Given F n a r s c from e w next) where
  over : the_field from.field ≡ F
  over = g.field ∙ sym (ap (λ (v : EWindow). v.field) g.view)

  count : from.cols ≡ n
  count = g.cols ∙ sym (ap (λ (v : EWindow). v.cols) g.view)

  below : r < w.rows
  below = let P : EWindow → Type 0 = λ v. r < v.rows in subst P (sym g.view) g.below

  small : a < 2 ^ F.degree
  small = let P : EWindow → Type 0 = λ v. a < 2 ^ v.field.degree in subst P (sym g.view) g.small

  in_cols : c ≤ n
  in_cols = let P : EWindow → Type 0 = λ v. c ≤ v.cols in subst P (sym g.view) g.in_cols

  packed : IsPacked F n next
  packed =
      added_packed F n a r c (row (shown from.bits) s) w next g.is g.shape below small in_cols
      (source_packed F (the_field from.field) n from.cols s (shown from.bits) over count from.packed g.within) g.kept

  shows : elements F n next ≡ showing e (with_row (content e) r (sum_from c (row (content e) r) (multiples e.field a (row (e_shown from) s))))
  shows =
      added_elements F n a r c (row (shown from.bits) s) w next g.is g.shape below small in_cols
      (source_packed F (the_field from.field) n from.cols s (shown from.bits) over count from.packed g.within) g.kept
      ∙ ap {B = EWindow} (λ l. showing (elements F n w) (with_row (content (elements F n w)) r (sum_from c (row (content (elements F n w)) r) (multiples F a l))))
      (sym (source_row F (the_field from.field) n from.cols s (shown from.bits) over count from.packed g.within))
      ∙ ap {B = EWindow} (λ (v : EWindow). showing v (with_row (content v) r (sum_from c (row (content v) r) (multiples v.field a (row (e_shown from) s))))) g.view

pub add_scaled-requires-clause-source : goal.add_scaled-requires-clause-source
add_scaled-requires-clause-source c =
    let F = the_field c.self.inside.field in
    let from = c.args.from.now in
    source_packed F (the_field from.field) c.self.inside.cols from.cols c.args.s (shown from.bits) (c.requires.same_field ∙ sym (ap (λ (v : EWindow). v.field) c.self.view_is))
    (c.requires.same_cols ∙ sym (ap (λ (v : EWindow). v.cols) c.self.view_is)) from.packed c.requires.in_from

pub invariant_of-self : goal.invariant_of-self
invariant_of-self c = packed (the_field c.self.inside.field) c.self.inside.cols c.args.x c.args.r c.args.s c.args.c c.args.from.now c.args.self.now c.self.inside.bits c.add_scaled.new.bits
    (record {
      view = c.self.view_is;
      is = c.self.invariant;
      shape = c.rows-rows.ensures.shape;
      below = c.requires.in_rows;
      small = c.requires.element;
      in_cols = c.requires.in_cols;
      field = c.requires.same_field;
      cols = c.requires.same_cols;
      within = c.requires.in_from;
      kept = c.add_scaled.ensures;
    })

pub returns : goal.returns
returns c = shows (the_field c.self.inside.field) c.self.inside.cols c.args.x c.args.r c.args.s c.args.c c.args.from.now c.args.self.now c.self.inside.bits c.add_scaled.new.bits
    (record {
      view = c.self.view_is;
      is = c.self.invariant;
      shape = c.rows-rows.ensures.shape;
      below = c.requires.in_rows;
      small = c.requires.element;
      in_cols = c.requires.in_cols;
      field = c.requires.same_field;
      cols = c.requires.same_cols;
      within = c.requires.in_from;
      kept = c.add_scaled.ensures;
    })
