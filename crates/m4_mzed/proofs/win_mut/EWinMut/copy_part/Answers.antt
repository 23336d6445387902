use Rattle.std.proofs.Common.{◌≡◌, ℕ, ◌+◌, ◌*◌, ◌<◌, ◌≤◌, List, sym, ap, subst, ◌∙◌}
use Rattle.m4_model.specs.Field.{Field, width}
use Rattle.m4_model.specs.Matrix.{row, with_row}
use Rattle.m4_field.specs.Fields.{the_field}
use Rattle.m4_mzd.specs.Parts.{part, with_part}
use Rattle.m4_mzd.specs.Seen.{shown}
use Rattle.m4_mzd.specs.Window.{Window}
use Rattle.m4_mzd.specs.Window.{content as bit_content, showing as bit_showing}
use Rattle.m4_mzed.specs.EWindow.{EWindow, content, showing}
use Rattle.m4_mzed.specs.ESeen.{e_shown}
use Rattle.m4_mzed.specs.Packed.{elements, IsPackedRow, IsPacked}
use Rattle.m4_mzed.specs.declared.win.EWin.{EWin}
use Rattle.m4_mzed.proofs.AddedRows.{source_packed, source_row}
use Rattle.m4_mzed.proofs.PartRows.{copied_packed, copied_elements}
use Rattle.m4_mzed.proofs.win_mut.EWinMut.copy_part.Goals as goal

-- what is known of the call, over plain variables
record Given (F : Field) (n r c s d count place source bits : ℕ) (from : EWin) (e : EWindow) (w next : Window) : Type 0 where
  view : elements F n w ≡ e
  is : IsPacked F n w
  below : r < e.rows
  in_cols : c + count ≤ e.cols
  within : s < (e_shown from).rows
  in_from : d + count ≤ (e_shown from).cols
  field : (e_shown from).field ≡ e.field
  place_is : place ≡ c * width e.field
  source_is : source ≡ d * width (e_shown from).field
  bits_are : bits ≡ count * width e.field
  kept : next ≡ bit_showing w (with_row (bit_content w) r (with_part place (part source bits (row (shown from.bits) s)) (row (bit_content w) r)))

module _ (F : Field) (n r c s d count place source bits : ℕ) (from : EWin) (e : EWindow) (w next : Window) (g : Given F n r c s d count place source bits from e w next) where
  mine : F ≡ e.field
  mine = ap (λ (v : EWindow). v.field) g.view

  over : the_field from.field ≡ F
  over = g.field ∙ sym mine

  below : r < w.rows
  below = let P : EWindow → Type 0 = λ v. r < v.rows in subst P (sym g.view) g.below

  in_cols : c + count ≤ n
  in_cols = let P : EWindow → Type 0 = λ v. c + count ≤ v.cols in subst P (sym g.view) g.in_cols

  place_is : place ≡ c * width F
  place_is = g.place_is ∙ ap (λ G. c * width G) (sym mine)

  source_is : source ≡ d * width F
  source_is = g.source_is ∙ ap (λ G. d * width G) over

  bits_are : bits ≡ count * width F
  bits_are = g.bits_are ∙ ap (λ G. count * width G) (sym mine)

  row_packed : IsPackedRow F from.cols (row (shown from.bits) s)
  row_packed = source_packed F (the_field from.field) from.cols from.cols s (shown from.bits) over (λ _. from.cols) from.packed g.within

  kept : next ≡ bit_showing w (with_row (bit_content w) r (with_part (c * width F) (part (d * width F) (count * width F) (row (shown from.bits) s)) (row (bit_content w) r)))
  kept = g.kept ∙ (λ i. bit_showing w (with_row (bit_content w) r (with_part (place_is i) (part (source_is i) (bits_are i) (row (shown from.bits) s)) (row (bit_content w) r))))

  packed : IsPacked F n next
  packed = copied_packed F n from.cols c d count r (row (shown from.bits) s) w next g.is row_packed below in_cols g.in_from kept

  shows : elements F n next ≡ showing e (with_row (content e) r (with_part c (part d count (row (e_shown from) s)) (row (content e) r)))
  shows =
      copied_elements F n from.cols c d count r (row (shown from.bits) s) w next g.is row_packed below in_cols g.in_from kept
      ∙ ap {B = EWindow} (λ (l : List ℕ). showing (elements F n w) (with_row (content (elements F n w)) r (with_part c (part d count l) (row (content (elements F n w)) r))))
      (sym (source_row F (the_field from.field) from.cols from.cols s (shown from.bits) over (λ _. from.cols) from.packed g.within))
      ∙ ap {B = EWindow} (λ (v : EWindow). showing v (with_row (content v) r (with_part c (part d count (row (e_shown from) s)) (row (content v) r)))) g.view

pub invariant_of-self : goal.invariant_of-self
invariant_of-self c = packed (the_field c.self.inside.field) c.self.inside.cols c.args.r c.args.c c.args.s c.args.d c.args.count c.first_bit-place.result c.first_bit-source.result c.first_bit-bits.result c.args.from.now c.args.self.now c.self.inside.bits c.copy_part.new.self
    (record {
      view = c.self.view_is;
      is = c.self.invariant;
      below = c.requires.in_rows;
      in_cols = c.requires.in_cols;
      within = c.requires.in_from;
      in_from = c.requires.in_from_cols;
      field = c.requires.same_field;
      place_is = c.first_bit-place.ensures;
      source_is = c.first_bit-source.ensures;
      bits_are = c.first_bit-bits.ensures;
      kept = c.copy_part.ensures;
    })

pub returns : goal.returns
returns c = shows (the_field c.self.inside.field) c.self.inside.cols c.args.r c.args.c c.args.s c.args.d c.args.count c.first_bit-place.result c.first_bit-source.result c.first_bit-bits.result c.args.from.now c.args.self.now c.self.inside.bits c.copy_part.new.self
    (record {
      view = c.self.view_is;
      is = c.self.invariant;
      below = c.requires.in_rows;
      in_cols = c.requires.in_cols;
      within = c.requires.in_from;
      in_from = c.requires.in_from_cols;
      field = c.requires.same_field;
      place_is = c.first_bit-place.ensures;
      source_is = c.first_bit-source.ensures;
      bits_are = c.first_bit-bits.ensures;
      kept = c.copy_part.ensures;
    })
