use Rattle.std.proofs.Common.{◌≡◌, ℕ, ◌∙◌, ◌++◌, ◌+◌, ◌-◌, ◌*◌, ◌≤◌, ap, ap₂, sym, subst, take, drop, map, refl, arith}
use Rattle.std.specs.List.{All}
use Rattle.std.specs.Simd.Lanes.{zip2}
use Rattle.m4_field.specs.Fields.{the_field}
use Rattle.m4_model.specs.Field.{Field, width}
use Rattle.m4_mzd.specs.Window.{Window, IsWindow}
use Rattle.m4_mzed.specs.EWindow.{EWindow}
use Rattle.m4_mzed.specs.Packed.{unpacked, elements, IsPackedRow, IsPacked}
use Rattle.m4_mzed.proofs.NarrowLemmas.{widen_packed, widen_elements}
use Rattle.m4_mzed.proofs.win_mut.EWinMut.widen.Goals as goal

-- the window with so many columns of bits, more of them by so many
abbrev more_bits : Window → ℕ → ℕ → Window
more_bits w b more = record w { cols = b; bits = zip2 (λ row past. row ++ take more past) w.bits w.past; past = map (drop more) w.past }

-- what is known of the call, over plain variables
record Given (F : Field) (n cols place k : ℕ) (w a : Window) (e : EWindow) : Type 0 where
  view : elements F n w ≡ e
  is : IsPacked F n w
  shape : IsWindow w
  more : e.cols ≤ cols
  elements : All (λ row. IsPackedRow e.field (cols - e.cols) (take ((cols - e.cols) * width e.field) row)) e.past
  wide : k ≡ width F
  place_is : place ≡ n * k + (cols - n) * k
  grown : a ≡ record w { cols = place; bits = zip2 (λ row past. row ++ take (place - w.cols) past) w.bits w.past; past = map (drop (place - w.cols)) w.past }

module _ (F : Field) (n cols place k : ℕ) (w a : Window) (e : EWindow) (g : Given F n cols place k w a e) where
  in_cols : n ≤ cols
  in_cols = let P : EWindow → Type 0 = λ v. v.cols ≤ cols in subst P (sym g.view) g.more

  new_elements : All (λ row. IsPackedRow F (cols - n) (take ((cols - n) * width F) row)) w.past
  new_elements = let P : EWindow → Type 0 = λ v. All (λ row. IsPackedRow v.field (cols - v.cols) (take ((cols - v.cols) * width v.field) row)) v.past in subst P (sym g.view) g.elements

  place_at : place ≡ w.cols + (cols - n) * width F
  place_at = g.place_is ∙ ap (λ k. n * k + (cols - n) * k) g.wide ∙ ap (λ c. c + (cols - n) * width F) (sym g.is.wide)

  more_by : place - w.cols ≡ (cols - n) * width F
  more_by = omega (arith, place_at)

  grown : a ≡ record w { cols = w.cols + (cols - n) * width F; bits = zip2 (λ row past. row ++ take ((cols - n) * width F) past) w.bits w.past; past = map (drop ((cols - n) * width F)) w.past }
  grown = g.grown ∙ ap₂ (more_bits w) place_at more_by

  all : n + (cols - n) ≡ cols
  all = omega (arith, in_cols)

  packed : IsPacked F cols a
  packed = let P : ℕ → Type 0 = λ m. IsPacked F m a in subst P all (widen_packed F n w g.is g.shape (cols - n) a new_elements grown)

  shows : elements F cols a ≡ record e { cols = cols; entries = zip2 (λ row more. row ++ unpacked (width e.field) (cols - e.cols) more) e.entries e.past; past = map (drop ((cols - e.cols) * width e.field)) e.past }
  shows =
      ap (λ m. elements F m a) (sym all)
      ∙ widen_elements F n w g.is g.shape (cols - n) a new_elements grown
      ∙ ap {B = EWindow} (λ m. record (elements F n w) { cols = m; entries = zip2 (λ row more. row ++ unpacked (width F) (cols - n) more) (elements F n w).entries w.past; past = map (drop ((cols - n) * width F)) w.past }) all
      ∙ ap {B = EWindow} (λ (v : EWindow). record v { cols = cols; entries = zip2 (λ row more. row ++ unpacked (width v.field) (cols - v.cols) more) v.entries v.past; past = map (drop ((cols - v.cols) * width v.field)) v.past }) g.view

pub invariant_of-result : goal.invariant_of-result
invariant_of-result c = packed (the_field c.self.inside.field) c.self.inside.cols c.args.cols _ c.width-width.result c.self.inside.bits c.widen.result c.args.self
    (record {
      view = c.self.view_is;
      is = c.self.invariant;
      shape = c.rows-rows.ensures.shape;
      more = c.requires.more;
      elements = c.requires.elements;
      wide = c.width-width.ensures.width;
      place_is = refl;
      grown = c.widen.ensures;
    })

pub returns : goal.returns
returns c = shows (the_field c.self.inside.field) c.self.inside.cols c.args.cols _ c.width-width.result c.self.inside.bits c.widen.result c.args.self
    (record {
      view = c.self.view_is;
      is = c.self.invariant;
      shape = c.rows-rows.ensures.shape;
      more = c.requires.more;
      elements = c.requires.elements;
      wide = c.width-width.ensures.width;
      place_is = refl;
      grown = c.widen.ensures;
    })
