use Rattle.std.proofs.Common.{◌≡◌, ap, sym, ◌∙◌, arith}
use Rattle.m4_model.specs.Field.{Field}
use Rattle.m4_model.specs.Matrix.{Matrix, added}
use Rattle.m4_field.specs.Fields.{the_field}
use Rattle.m4_mzd.specs.Seen.{shown}
use Rattle.m4_mzed.specs.EWindow.{content, showing}
use Rattle.m4_mzed.specs.ESeen.{e_shown}
use Rattle.m4_karatsuba.specs.Polynomials.{polynomial}
use Rattle.m4_karatsuba.specs.declared.factors.Factors.{Factors}
use Rattle.m4_karatsuba.proofs.ProductLemmas.{product_remainders, polynomial-sliced}
use Rattle.m4_karatsuba.proofs.product.add_in_room.Goals as goal

pub returns-clause-sum : goal.returns-clause-sum
returns-clause-sum g c =
    let F = the_field c.args.field in
    let A = e_shown c.args.a.now in
    let B = e_shown c.args.b.now in
    let w = c.args.c.now in
    let m = c.rows.result in
    let l = c.cols.result in
    let n = c.cols-2.result in
    let f : Factors = record { a = c.see.result; b = c.see-2.result; shape = record { m = m; l = l; n = n }; count = c.e-count.result } in
    let a_over = c.requires.a_field ∙ c.requires.c_field in
    let b_over = c.requires.b_field ∙ c.requires.c_field in
    let a_degree : c.e-count.result ≡ A.field.degree = c.e-count.ensures.degree ∙ ap (λ (H : Field). H.degree) (sym a_over) in
    let b_degree : c.e-count.result ≡ B.field.degree = c.e-count.ensures.degree ∙ ap (λ (H : Field). H.degree) (sym b_over) in
    let wide : n ≡ B.cols = c.cols-2.ensures.cols ∙ sym c.requires.cols in
    c.add_remainders.ensures.sum
    ∙ ap (λ (M : Matrix). showing w (added (content w) M))
    (product_remainders F f A B c.e-count.ensures.field a_over (c.rows.ensures.rows ∙ sym c.requires.rows) c.cols.ensures.cols wide
    (λ i t below within.
    ap (λ e. polynomial e m (shown c.see.result) i t) a_degree
    ∙ polynomial-sliced m A (shown c.see.result) c.carve-slices_of_a.result c.load_slices.new.slices c.cols.ensures.matrix (c.requires.rows ∙ sym c.rows.ensures.rows) c.load_slices.ensures c.see.ensures i t below (omega (arith, within, c.cols.ensures.cols)))
    (λ t j below within.
    ap (λ e. polynomial e l (shown c.see-2.result) t j) b_degree
    ∙ polynomial-sliced l B (shown c.see-2.result) c.carve-slices_of_b.result c.load_slices-2.new.slices c.rows-rows_of_b.ensures.matrix (sym c.requires.inner ∙ sym c.cols.ensures.cols) c.load_slices-2.ensures c.see-2.ensures t j below (omega (arith, within, wide))))
