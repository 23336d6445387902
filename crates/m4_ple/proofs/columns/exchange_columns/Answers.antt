use Rattle.std.proofs.Common.{◌∙◌, ap, arith, slice_index}
use Rattle.m4_model.specs.Matrix.{with_row}
use Rattle.m4_mzed.specs.EWindow.{EWindow, content, showing}
use Rattle.m4_ple.specs.Columns.{exchanged_row}
use Rattle.m4_ple.proofs.ExchangedColumns.{exchanged-more}
use Rattle.m4_ple.proofs.RowByRow.{done_to-start}
use Rattle.m4_ple.proofs.columns.exchange_columns.Goals as goal

pub loop-i-init : goal.loop-i-init
loop-i-init c = ap (showing c.args.a.now) (done_to-start (λ i j. slice_index (exchanged_row c.args.pivots.now (content c.args.a.now) i) j) (content c.args.a.now) c.rows-rows.ensures.matrix)

pub loop-i-preserved : goal.loop-i-preserved
loop-i-preserved c =
    let W = c.args.a.now in
    let q = c.args.pivots.now in
    let i = c.loop-i.i in
    c.exchange_in_row.ensures
    ∙ ap (λ (V : EWindow). showing V (with_row (content V) i (exchanged_row q (content V) i))) c.loop-i.invariant
    ∙ ap (showing W) (exchanged-more q (content W) i c.rows-rows.ensures.matrix (let inside = c.requires.in_rows in omega (arith, inside)))
