use Rattle.std.proofs.Common.{◌<◌, ◌∙◌, refl, ap, arith}
use Rattle.m4_model.specs.Matrix.{row, row_sum, with_row}
use Rattle.m4_mzd.specs.Window.{Window, content, showing}
use Rattle.m4_mzd.specs.Seen.{shown}
use Rattle.m4_mul.proofs.PlainLemmas.{with_terms-none, with_terms-one, with_terms-zero, with_terms-all}
use Rattle.m4_mul.proofs.plain.add_row_of_product.Goals.{then-get, else-get}
use Rattle.m4_mul.proofs.plain.add_row_of_product.Goals as goal

pub loop-t-init : goal.loop-t-init
loop-t-init g c =
    let W = c.args.c.now in
    ap (showing W)
    (with_terms-none (content W) (shown c.args.a.now) (shown c.args.b.now) c.args.i c.rows-rows.ensures.shape.matrix c.requires.in_rows (omega (arith, c.requires.cols)))

pub add_row-requires-clause-in_rows : goal.add_row-requires-clause-in_rows
add_row-requires-clause-in_rows g c = rw c.loop-t.invariant c.requires.in_rows

pub add_row-requires-clause-same_cols : goal.add_row-requires-clause-same_cols
add_row-requires-clause-same_cols g c = rw c.loop-t.invariant c.requires.cols

pub loop-t-preserved : goal.loop-t-preserved
loop-t-preserved g c =
    let W = c.args.c.now in
    let A = shown c.args.a.now in
    let B = shown c.args.b.now in
    let i = c.args.i in
    let t = c.loop-t.t in
    let below : t < B.rows = omega arith in
    elim c.if-get.branch [
      | then-get w ↦
          w.c-is ∙ (w.add_row.ensures.row
          ∙ (ap (λ (L : Window). showing L (with_row (content L) i (row_sum (row (content L) i) (row B t)))) c.loop-t.invariant
          ∙ ap (showing W)
          (with_terms-one (content W) A B i t c.rows-rows.ensures.shape.matrix c.requires.in_rows (omega (arith, c.requires.cols)) refl refl c.rows-t-end.ensures.matrix below (c.get.ensures.one.0 w.if-get.true))))
      | else-get w ↦
          w.c-is ∙ (c.loop-t.invariant
          ∙ ap (showing W)
          (with_terms-zero (content W) A B i t refl refl c.rows-t-end.ensures.matrix below (rw w.if-get.false at c.get.ensures.value)))
    ]

pub returns : goal.returns
returns g c =
    c.loop-t.invariant
    ∙ ap (showing c.args.c.now)
    (with_terms-all (content c.args.c.now) (shown c.args.a.now) (shown c.args.b.now) c.args.i c.loop-t.t (rw c.requires.rows c.requires.in_rows) (omega (arith, c.requires.inner)))
