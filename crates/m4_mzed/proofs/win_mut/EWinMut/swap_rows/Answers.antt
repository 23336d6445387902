use Rattle.std.proofs.Common.{◌∙◌, ap, ◌<◌, subst, sym}
use Rattle.std.specs.List.{swap}
use Rattle.m4_field.specs.Fields.{the_field}
use Rattle.m4_mzed.specs.EWindow.{EWindow}
use Rattle.m4_mzed.proofs.PartLemmas.{packed_swapped, elements_swapped}
use Rattle.m4_mzed.proofs.win_mut.EWinMut.swap_rows.Goals as goal

pub invariant_of-self : goal.invariant_of-self
invariant_of-self c =
    let P : EWindow → Type 0 = λ v. c.args.i < v.rows in
    let Q : EWindow → Type 0 = λ v. c.args.j < v.rows in
    packed_swapped (the_field c.self.inside.field) c.self.inside.cols c.self.inside.bits c.self.invariant c.args.i c.args.j c.swap_rows.new.self
    (subst P (sym c.self.view_is) c.requires.first) (subst Q (sym c.self.view_is) c.requires.second) c.swap_rows.ensures

pub returns : goal.returns
returns c =
    let P : EWindow → Type 0 = λ v. c.args.i < v.rows in
    let Q : EWindow → Type 0 = λ v. c.args.j < v.rows in
    elements_swapped (the_field c.self.inside.field) c.self.inside.cols c.self.inside.bits c.self.invariant c.args.i c.args.j c.swap_rows.new.self
    (subst P (sym c.self.view_is) c.requires.first) (subst Q (sym c.self.view_is) c.requires.second) c.swap_rows.ensures
    ∙ ap {B = EWindow} (λ (v : EWindow). record v { entries = swap v.entries c.args.i c.args.j }) c.self.view_is
