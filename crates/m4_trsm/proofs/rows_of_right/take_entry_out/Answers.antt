use Rattle.std.proofs.Common.{◌≡◌, ◌∙◌, get_or, ap, sym, arith}
use Rattle.m4_model.specs.Matrix.{row, with_row}
use Rattle.m4_mzed.specs.EWindow.{content, showing}
use Rattle.m4_mzed.specs.ESeen.{e_shown}
use Rattle.m4_trsm.proofs.RowSteps.{without_zero, row_kept}
use Rattle.m4_trsm.proofs.rows_of_right.take_entry_out.Goals as goal

pub returns-else-x-ne0 : goal.returns-else-x-ne0
returns-else-x-ne0 c =
    let W = c.args.b.now in
    let T = e_shown c.args.t.now in
    let xs = row (content W) c.args.r in
    let none : get_or xs c.args.j 0 ≡ 0 = sym c.get-x.ensures.value ∙ omega (arith, c.if-x-ne0.false) in
    sym (ap (λ l. showing W (with_row (content W) c.args.r l)) (without_zero c.args.side T xs c.args.j c.rows-rows_of_t.ensures.matrix.over_field none) ∙ row_kept W c.args.r)
