use Rattle.std.proofs.Common.{◌≡◌, ℕ, ◌^◌, ◌<◌, ◌/◌, ◌%◌, bit_xor, cond, nat_eq, sym, ap, subst, ◌∙◌, arith}
use Rattle.std.specs.Int.{bit_at}
use Rattle.std.specs.Int.Bits.{xor_lt}
use Rattle.std.proofs.Math.Pow.{pow_mono}
use Rattle.m4_model.specs.Field.{Field}
use Rattle.m4_model.specs.Matrix.{at, row, with_row, with_entry}
use Rattle.m4_field.specs.Fields.{the_field}
use Rattle.m4_model.specs.Field.{width}
use Rattle.m4_mzd.specs.Window.{Window, IsWindow}
use Rattle.m4_mzd.specs.Window.{content as bit_content, showing as bit_showing}
use Rattle.m4_mzed.specs.EWindow.{EWindow, content, showing}
use Rattle.m4_mzed.specs.Packed.{elements, IsPacked}
use Rattle.m4_field.proofs.WidthLemmas.{width_facts}
use Rattle.m4_mzed.proofs.PutLemmas.{put_packed, put_elements}
use Rattle.m4_mzed.proofs.win_mut.EWinMut.put.Goals as goal

pub add_to_element-requires-clause-element : goal.add_to_element-requires-clause-element
add_to_element-requires-clause-element c =
    let F = the_field c.self.inside.field in
    let same : F.degree ≡ c.args.self.now.field.degree = ap (λ (v : EWindow). v.field.degree) c.self.view_is in
    let P : ℕ → Type 0 = λ e. bit_xor c.get.result c.args.x < 2 ^ e in
    let s = subst P (sym same) (xor_lt c.args.self.now.field.degree c.get.result c.args.x c.get.ensures.element c.requires.element) in
    let m = pow_mono {i = F.degree} {j = width F} (width_facts F c.self.inside.field.carried).room in
    omega (arith, s, m)

record Given (F : Field) (n c x r d : ℕ) (w next : Window) (e : EWindow) : Type 0 where
  view : elements F n w ≡ e
  is : IsPacked F n w
  shape : IsWindow w
  new_shape : IsWindow next
  below : r < e.rows
  within : c < e.cols
  small : x < 2 ^ e.field.degree
  change : d ≡ bit_xor (at (content e) r c) x
  kept : next ≡ bit_showing w (with_row (bit_content w) r (row (bit_content next) r))
  entries : (p : ℕ) → p < w.cols → at (bit_content next) r p ≡ bit_xor (at (bit_content w) r p) (bit_at (cond (nat_eq (p / width F) c) d 0) (p % width F))

module _ (F : Field) (n c x r d : ℕ) (w next : Window) (e : EWindow) (g : Given F n c x r d w next e) where
  below : r < w.rows
  below = let P : EWindow → Type 0 = λ v. r < v.rows in subst P (sym g.view) g.below

  within : c < n
  within = let P : EWindow → Type 0 = λ v. c < v.cols in subst P (sym g.view) g.within

  small : x < 2 ^ F.degree
  small = let P : EWindow → Type 0 = λ v. x < 2 ^ v.field.degree in subst P (sym g.view) g.small

  change : d ≡ bit_xor (at (content (elements F n w)) r c) x
  change = g.change ∙ ap (λ (v : EWindow). bit_xor (at (content v) r c) x) (sym g.view)

  packed : IsPacked F n next
  packed = put_packed F n c x r d w next g.is g.shape g.new_shape below within small change g.kept g.entries

  shows : elements F n next ≡ showing e (with_entry (content e) r c x)
  shows = put_elements F n c x r d w next g.is g.shape g.new_shape below within small change g.kept g.entries ∙ ap {B = EWindow} (λ (v : EWindow). showing v (with_entry (content v) r c x)) g.view

pub invariant_of-self : goal.invariant_of-self
invariant_of-self c = packed (the_field c.self.inside.field) c.self.inside.cols c.args.c c.args.x c.args.r _ c.self.inside.bits c.add_to_element.new.bits c.args.self.now
    (record {
      view = c.self.view_is;
      is = c.self.invariant;
      shape = c.rows-rows.ensures.shape;
      new_shape = c.rows-new_rows.ensures.shape;
      below = c.requires.in_rows;
      within = c.requires.in_cols;
      small = c.requires.element;
      change = ap (λ y. bit_xor y c.args.x) c.get.ensures.value;
      kept = c.add_to_element.ensures.kept;
      entries = c.add_to_element.ensures.entries;
    })

pub returns : goal.returns
returns c = shows (the_field c.self.inside.field) c.self.inside.cols c.args.c c.args.x c.args.r _ c.self.inside.bits c.add_to_element.new.bits c.args.self.now
    (record {
      view = c.self.view_is;
      is = c.self.invariant;
      shape = c.rows-rows.ensures.shape;
      new_shape = c.rows-new_rows.ensures.shape;
      below = c.requires.in_rows;
      within = c.requires.in_cols;
      small = c.requires.element;
      change = ap (λ y. bit_xor y c.args.x) c.get.ensures.value;
      kept = c.add_to_element.ensures.kept;
      entries = c.add_to_element.ensures.entries;
    })
