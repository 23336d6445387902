use Rattle.std.proofs.Common.{◌∙◌, ap}
use Rattle.std.proofs.lemmas.List.{length-map}
use Rattle.m4_model.specs.Field.{Field, mul}
use Rattle.m4_model.specs.Matrix.{row, with_row}
use Rattle.m4_mzed.specs.EWindow.{EWindow, content, showing}
use Rattle.m4_mzed.specs.ESeen.{e_shown}
use Rattle.m4_mzed.specs.Rows.{multiples}
use Rattle.m4_newton.proofs.PowerLemmas.{cleared_and_added}
use Rattle.m4_newton.proofs.multiples.put_multiple.Goals as goal

pub returns : goal.returns
returns c =
    let W = c.args.m.now in
    let B = e_shown c.args.b.now in
    let F = c.clear_row.new.self.field in
    cleared_and_added W c.clear_row.new.self c.add_multiple.new.self c.args.r (multiples F c.args.x (row B c.args.t)) c.rows-rows.ensures.matrix c.requires.in_rows
    (length-map (row B c.args.t) (λ y. mul F y c.args.x) ∙ c.rows-rows_of_b.ensures.matrix.width c.args.t c.requires.in_b ∙ c.requires.same_cols)
    c.clear_row.ensures c.add_multiple.ensures
    ∙ ap (λ (G : Field). showing W (with_row (content W) c.args.r (multiples G c.args.x (row B c.args.t)))) (ap (λ (v : EWindow). v.field) c.clear_row.ensures)
