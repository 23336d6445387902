use Rattle.std.proofs.Common.{◌∙◌, ap, arith}
use Rattle.m4_model.specs.Matrix.{with_row}
use Rattle.m4_mzed.specs.EWindow.{EWindow, content, showing}
use Rattle.m4_ple.specs.Elimination.{cleared_row}
use Rattle.m4_ple.proofs.Clearing.{cleared-start, cleared-more}
use Rattle.m4_ple.proofs.clear.clear_rows.Goals as goal

pub loop-i-init : goal.loop-i-init
loop-i-init c =
    (omega arith, ap (showing c.args.a.now) (cleared-start c.args.inverse c.args.r c.args.c (content c.args.a.now) c.cols-cols.ensures.matrix))

pub loop-i-preserved : goal.loop-i-preserved
loop-i-preserved c =
    let W = c.args.a.now in
    let i = c.loop-i.i in
    let low = c.loop-i.invariant.0 in
    let inside = c.loop-i-test.true in (
      omega (arith, low),
      c.clear_entry.ensures
          ∙ ap (λ (V : EWindow). showing V (with_row (content V) i (cleared_row c.args.inverse c.args.r c.args.c (content V) i))) c.loop-i.invariant.1
          ∙ ap (showing W) (cleared-more c.args.inverse c.args.r c.args.c (content W) i low (omega (arith, inside)) c.requires.in_cols),
    )
