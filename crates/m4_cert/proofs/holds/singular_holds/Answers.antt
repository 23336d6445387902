use Rattle.std.specs.Prelude.{◌↔◌, IsTrue}
use Rattle.std.proofs.Common.{◌≡◌, ◌∙◌, sym, ap, subst}
use Rattle.m4_model.specs.Matrix.{Matrix, product, zero_matrix}
use Rattle.m4_model.specs.Shapes.{transposed}
use Rattle.m4_cert.proofs.CertLemmas.{singular_decided}
use Rattle.m4_cert.proofs.holds.singular_holds.Goals as goal

pub returns : goal.returns
returns c =
    let A = c.args.a.now in
    let K = c.args.k.now in
    let square = sym c.cols.ensures.cols ∙ c.if-cols-rows.false ∙ c.rows.ensures.rows in
    let cols = sym c.cols-else-cols-rows.ensures.cols ∙ c.if-cols.false ∙ c.cols-else-cols-rows-2.ensures.cols in
    let field = sym c.field.ensures ∙ c.are_same.ensures.0 c.if-not-are_same.false ∙ c.field-2.ensures in
    let made : c.in_ok-killed.killed ≡ product K (transposed A) = c.in_ok-killed.ensures ∙ ap (product K) (c.in_ok-turned.ensures ∙ ap transposed c.all.ensures) in
    let P : Matrix → Type 0 = λ M. IsTrue c.is_zero-2.result ↔ (M ≡ zero_matrix M.field M.rows M.cols) in
    singular_decided A K c.rows.ensures.matrix c.cols-else-cols-rows.ensures.matrix square field cols (c.is_zero.ensures.nonzero.0 c.if-is_zero.false)
    (subst P made c.is_zero-2.ensures.zeros)
