use Rattle.std.proofs.Common.{◌<◌, ◌∙◌, sym, ap, subst, arith}
use Rattle.m4_model.specs.Field.{Field, IsField}
use Rattle.m4_model.specs.Matrix.{row, row_sum, with_row}
use Rattle.m4_mzed.specs.EWindow.{EWindow, content, showing}
use Rattle.m4_mzed.specs.ESeen.{e_shown}
use Rattle.m4_mzed.specs.Rows.{multiples}
use Rattle.m4_mul.proofs.PlainLemmas.{with_terms, with_terms-none, with_terms-all}
use Rattle.m4_newton.proofs.PlainLemmas.{with_terms-more}
use Rattle.m4_cert.proofs.products.add_row_of_product.Goals as goal

pub loop-t-init : goal.loop-t-init
loop-t-init c =
    let W = c.args.c.now in
    ap (showing W)
    (with_terms-none (content W) (e_shown c.args.a.now) (e_shown c.args.b.now) c.args.i c.cols-width.ensures.matrix c.requires.in_rows (omega (arith, c.requires.cols)))

pub loop-t-preserved : goal.loop-t-preserved
loop-t-preserved c =
    let W = c.args.c.now in
    let A = e_shown c.args.a.now in
    let B = e_shown c.args.b.now in
    let i = c.args.i in
    let t = c.loop-t.t in
    let below : t < B.rows = omega arith in
    let field : IsField A.field = let P : Field → Type 0 = IsField in subst P (sym c.requires.a_field) c.cols-width.ensures.matrix.over_field in
    c.add_multiple.ensures
    ∙ ap (λ (L : EWindow). showing L (with_row (content L) i (row_sum (row (content L) i) (multiples L.field c.get.result (row B t))))) c.loop-t.invariant
    ∙ ap (λ (F : Field). showing W (with_row (with_terms (content W) i A B t) i (row_sum (row (with_terms (content W) i A B t) i) (multiples F c.get.result (row B t))))) (sym c.requires.a_field)
    ∙ ap (λ x. showing W (with_row (with_terms (content W) i A B t) i (row_sum (row (with_terms (content W) i A B t) i) (multiples A.field x (row B t))))) c.get.ensures.value
    ∙ ap (showing W) (with_terms-more (content W) A B i t c.cols-width.ensures.matrix c.requires.in_rows (omega (arith, c.requires.cols)) field c.rows-t-end.ensures.matrix below)

pub returns : goal.returns
returns c =
    c.loop-t.invariant
    ∙ ap (showing c.args.c.now)
    (with_terms-all (content c.args.c.now) (e_shown c.args.a.now) (e_shown c.args.b.now) c.args.i c.loop-t.t (rw c.requires.rows c.requires.in_rows) (omega (arith, c.requires.inner)))
