use Rattle.std.proofs.Common.{◌∙◌, refl, ap, arith}
use Rattle.m4_model.specs.Matrix.{row, with_row}
use Rattle.m4_mzed.specs.EWindow.{EWindow, content, showing}
use Rattle.m4_ple.specs.Parts.{echelon_entry, echelon_part}
use Rattle.m4_ple.proofs.RowByRow.{done_to-start, done_to-all}
use Rattle.m4_ple.proofs.Echelons.{echelon_part-more}
use Rattle.m4_ple.proofs.echelon.keep_echelon.Goals as goal

pub loop-i-init : goal.loop-i-init
loop-i-init c =
    let A = content c.args.a.now in
    let q = c.args.pivots.now in
    (ap (showing c.args.a.now) (done_to-start (echelon_entry q A) A c.rows-i-end.ensures.matrix), refl)

pub loop-i-preserved : goal.loop-i-preserved
loop-i-preserved c =
    let W = c.args.a.now in
    let A = content W in
    let q = c.args.pivots.now in
    let i = c.loop-i.i in
    let inside = c.loop-i-test.true in
    let rows = c.rows-i-end.ensures.rows in (
      c.keep_row.ensures.row
          ∙ ap (λ (V : EWindow). showing V (with_row (content V) i (row (echelon_part q (content V)) i))) c.loop-i.invariant.0
          ∙ ap (showing W) (echelon_part-more q A i c.rows-i-end.ensures.matrix (omega (arith, inside, rows))),
      c.keep_row.ensures.spare ∙ ap (λ (V : EWindow). showing V (content c.keep_row.new.spare)) c.loop-i.invariant.1,
    )

pub returns-clause-echelon : goal.returns-clause-echelon
returns-clause-echelon c =
    let A = content c.args.a.now in
    let q = c.args.pivots.now in
    c.loop-i.invariant.0
    ∙ ap (showing c.args.a.now) (done_to-all (echelon_entry q A) A c.loop-i.i (let rows = c.rows-i-end.ensures.rows in omega (arith, rows)))
