use Rattle.std.proofs.Common.{ℕ, ◌∙◌, ◌++◌, ◌*◌, ◌≤◌, ap, sym, subst, take, drop, map}
use Rattle.std.specs.Simd.Lanes.{zip2}
use Rattle.m4_field.specs.Fields.{the_field}
use Rattle.m4_model.specs.Field.{width}
use Rattle.m4_mzd.specs.Window.{Window}
use Rattle.m4_mzed.specs.EWindow.{EWindow}
use Rattle.m4_mzed.specs.Packed.{packed}
use Rattle.m4_mzed.proofs.NarrowLemmas.{narrow_packed, narrow_elements}
use Rattle.m4_mzed.proofs.win_mut.EWinMut.narrow.Goals as goal

-- the window of the first so many bits of each row
abbrev first_bits : Window → ℕ → Window
first_bits w b = record w { cols = b; bits = map (take b) w.bits; past = zip2 (λ row more. drop b row ++ more) w.bits w.past }

pub invariant_of-result : goal.invariant_of-result
invariant_of-result c =
    let P : EWindow → Type 0 = λ v. c.args.cols ≤ v.cols in
    narrow_packed (the_field c.self.inside.field) c.self.inside.cols c.self.inside.bits c.self.invariant c.args.cols c.narrow.result
    (subst P (sym c.self.view_is) c.requires.within)
    (c.narrow.ensures ∙ ap (first_bits c.self.inside.bits) (c.first_bit-place.ensures ∙ sym (ap (λ (v : EWindow). c.args.cols * width v.field) c.self.view_is)))

pub returns : goal.returns
returns c =
    let P : EWindow → Type 0 = λ v. c.args.cols ≤ v.cols in
    narrow_elements (the_field c.self.inside.field) c.self.inside.cols c.self.inside.bits c.self.invariant c.args.cols c.narrow.result
    (subst P (sym c.self.view_is) c.requires.within)
    (c.narrow.ensures ∙ ap (first_bits c.self.inside.bits) (c.first_bit-place.ensures ∙ sym (ap (λ (v : EWindow). c.args.cols * width v.field) c.self.view_is)))
    c.rows-rows.ensures.shape
    ∙ ap {B = EWindow} (λ (v : EWindow). record v { cols = c.args.cols; entries = map (take c.args.cols) v.entries; past = zip2 (λ row more. packed (width v.field) (drop c.args.cols row) ++ more) v.entries v.past }) c.self.view_is
