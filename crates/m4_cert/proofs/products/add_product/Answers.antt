use Rattle.std.proofs.Common.{◌∙◌, ap, arith}
use Rattle.m4_model.specs.Matrix.{product, row, row_sum, with_row}
use Rattle.m4_mzed.specs.EWindow.{EWindow, content, showing}
use Rattle.m4_mzed.specs.ESeen.{e_shown}
use Rattle.m4_mul.proofs.AddedLemmas.{added_rows-none}
use Rattle.m4_mul.proofs.PlainLemmas.{all_terms, product_rows-more, product_rows-all}
use Rattle.m4_cert.proofs.products.add_product.Goals as goal

pub loop-i-init : goal.loop-i-init
loop-i-init c =
    let W = c.args.c.now in
    ap (showing W) (added_rows-none (content W) (all_terms (e_shown c.args.a.now) (e_shown c.args.b.now)) c.rows-i-end.ensures.matrix)

pub loop-i-preserved : goal.loop-i-preserved
loop-i-preserved c =
    let W = c.args.c.now in
    let A = e_shown c.args.a.now in
    let B = e_shown c.args.b.now in
    let i = c.loop-i.i in
    c.add_row_of_product.ensures
    ∙ (ap (λ (L : EWindow). showing L (with_row (content L) i (row_sum (row (content L) i) (row (product A B) i)))) c.loop-i.invariant
    ∙ ap (showing W) (product_rows-more (content W) A B i (omega arith) c.requires.rows c.requires.cols))

pub returns : goal.returns
returns c = record {
  sum =
      c.loop-i.invariant
      ∙ ap (showing c.args.c.now)
      (product_rows-all (content c.args.c.now) (e_shown c.args.a.now) (e_shown c.args.b.now) c.loop-i.i c.requires.rows c.requires.cols (omega arith));
}
