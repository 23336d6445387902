use Rattle.std.proofs.Common.{ap, ◌∙◌, arith}
use Rattle.m4_model.specs.Field.{width}
use Rattle.m4_model.specs.Matrix.{with_row}
use Rattle.m4_field.specs.Fields.{the_field}
use Rattle.m4_mzd.specs.Window.{content, showing}
use Rattle.m4_mzed.specs.Words.{element}
use Rattle.m4_mzed.proofs.EntryLemmas.{row_bits}
use Rattle.m4_mzed.proofs.ProductLemmas.{are_factors, products_element}
use Rattle.m4_mzed.proofs.ScaledRows.{word_elements, scaled_more, scaled_all}
use Rattle.m4_mzed.proofs.row.scale_by.Goals as goal

pub loop-w-preserved : goal.loop-w-preserved
loop-w-preserved g c =
    let F = the_field c.args.f.now in
    let W = c.args.bits.now in
    let s = c.rows-rows.ensures.shape in
    let elements = word_elements F c.args.f.now.carried c.args.cols c.args.x W c.loop-w.bits c.args.r c.loop-w.w c.word.result c.requires.source (row_bits W c.args.r s c.requires.in_rows)
    (s.matrix.width c.args.r c.requires.in_rows) c.loop-w.invariant.2 c.loop-w.invariant.1 c.word.ensures in
    let factors = are_factors F c.width.ensures.field g.row.N c.ones-low.result c.width.result c.args.x c.factors.result c.patterns-list.result c.requires.elements c.width.ensures.width
    c.ones-low.ensures.word c.ones-low.ensures.ones c.factors.ensures.powers c.factors.ensures.elements c.factors.ensures.rest c.patterns-list.ensures in
    scaled_more F c.args.f.now.carried c.args.cols c.args.x W c.loop-w.bits c.args.r c.loop-w.w c.word.result c.requires.source (row_bits W c.args.r s c.requires.in_rows)
    (s.matrix.width c.args.r c.requires.in_rows) c.loop-w.invariant.2 c.loop-w.invariant.1 c.word.ensures c.set_word.new.self c.product_of-product.result
    (let h = s.matrix.height in let b = c.requires.in_rows in omega (arith, h, b)) c.loop-w.invariant.0
    (λ k below. ap (element (width F) k) c.product_of-product.ensures
    ∙ products_element F g.row.N c.ones-low.result c.args.x c.factors.result c.patterns-list.result factors c.word.result k below (elements k below)) c.set_word.ensures

pub returns : goal.returns
returns g c =
    let W = c.args.bits.now in
    let s = c.rows-rows.ensures.shape in
    c.loop-w.invariant.0
    ∙ ap (λ l. showing W (with_row (content W) c.args.r l))
    (scaled_all (the_field c.args.f.now) c.args.f.now.carried c.args.cols c.args.x c.loop-w.w W c.loop-w.bits c.args.r (s.matrix.width c.args.r c.requires.in_rows) c.loop-w.invariant.2
    (let t = c.loop-w-test.false in let e = c.words_for-w-end.ensures in let k = c.cols.ensures.cols in omega (arith, t, e, k)) c.loop-w.invariant.1)
