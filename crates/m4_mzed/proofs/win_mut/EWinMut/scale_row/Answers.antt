use Rattle.std.proofs.Common.{◌^◌, ◌<◌, sym, subst, ap, ◌∙◌}
use Rattle.m4_model.specs.Matrix.{row, with_row}
use Rattle.m4_field.specs.Fields.{the_field}
use Rattle.m4_mzed.specs.EWindow.{EWindow, content, showing}
use Rattle.m4_mzed.specs.Rows.{multiples}
use Rattle.m4_mzed.proofs.AddedRows.{row_scaled_packed, row_scaled_elements}
use Rattle.m4_mzed.proofs.win_mut.EWinMut.scale_row.Goals as goal

pub invariant_of-self : goal.invariant_of-self
invariant_of-self c =
    let P : EWindow → Type 0 = λ v. c.args.r < v.rows in
    let Q : EWindow → Type 0 = λ v. c.args.x < 2 ^ v.field.degree in
    row_scaled_packed (the_field c.self.inside.field) c.self.inside.cols c.args.x c.args.r c.self.inside.bits c.scale.new.bits c.self.invariant
    (subst P (sym c.self.view_is) c.requires.in_rows) (subst Q (sym c.self.view_is) c.requires.element) c.scale.ensures

pub returns : goal.returns
returns c =
    let P : EWindow → Type 0 = λ v. c.args.r < v.rows in
    let Q : EWindow → Type 0 = λ v. c.args.x < 2 ^ v.field.degree in
    row_scaled_elements (the_field c.self.inside.field) c.self.inside.cols c.args.x c.args.r c.self.inside.bits c.scale.new.bits c.self.invariant
    (subst P (sym c.self.view_is) c.requires.in_rows) (subst Q (sym c.self.view_is) c.requires.element) c.scale.ensures
    ∙ ap {B = EWindow} (λ (v : EWindow). showing v (with_row (content v) c.args.r (multiples v.field c.args.x (row (content v) c.args.r)))) c.self.view_is
