use Rattle.std.proofs.Common.{◌≡◌, ◌∙◌, ap, ap₂}
use Rattle.m4_model.specs.Matrix.{zero_matrix, added, product}
use Rattle.m4_mzed.specs.EWindow.{content}
use Rattle.m4_mzed.specs.ESeen.{e_shown}
use Rattle.m4_cert.proofs.ZeroLemmas.{added-zeros}
use Rattle.m4_cert.proofs.products.product.Goals as goal

pub returns : goal.returns
returns c =
    let A = c.args.a.now in
    let B = c.args.b.now in
    let zeros : content c.all_mut-all.result.0 ≡ zero_matrix A.field A.rows B.cols =
    c.all_mut-all.ensures.content ∙ (rw (c.field.ensures, c.rows.ensures.rows, c.cols.ensures.cols) at c.in_ok-c.ensures) in
    c.put_all.ensures
    ∙ (ap content c.add_product.ensures.sum
    ∙ (ap (λ C. added C (product (e_shown c.all.result) (e_shown c.all-2.result))) zeros
    ∙ (ap₂ (λ X Y. added (zero_matrix A.field A.rows B.cols) (product X Y)) c.all.ensures c.all-2.ensures
    ∙ added-zeros A B c.rows.ensures.matrix c.cols.ensures.matrix c.requires.same_field c.requires.inner)))
