use Rattle.std.proofs.Common.{◌∙◌, ap, arith}
use Rattle.m4_model.specs.Matrix.{with_row}
use Rattle.m4_mzed.specs.EWindow.{content, showing}
use Rattle.m4_ple.proofs.Echelons.{row-with_pivot, row-without_pivot}
use Rattle.m4_ple.proofs.echelon.keep_row.Goals as goal

pub returns-then-i-pivots-clause-row : goal.returns-then-i-pivots-clause-row
returns-then-i-pivots-clause-row c =
    let A = content c.args.a.now in
    let i = c.args.i in
    let q = c.args.pivots.now in
    let pivoted = c.if-i-pivots.true in
    let within = c.requires.in_cols i pivoted in
    c.keep_tail.ensures.row
    ∙ ap (λ xs. showing c.args.a.now (with_row A i xs))
    (row-with_pivot q A c.rows-rows.ensures.matrix i c.requires.in_rows pivoted (omega (arith, within)))

pub returns-else-i-pivots-clause-row : goal.returns-else-i-pivots-clause-row
returns-else-i-pivots-clause-row c =
    let A = content c.args.a.now in
    let i = c.args.i in
    let past = c.if-i-pivots.false in
    c.clear_row.ensures
    ∙ ap (λ xs. showing c.args.a.now (with_row A i xs)) (row-without_pivot c.args.pivots.now A i c.requires.in_rows (omega (arith, past)))
