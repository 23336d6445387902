use Rattle.std.specs.Prelude.{◌↔◌, IsFalse}
use Rattle.std.proofs.Common.{◌≡◌, ◌∙◌, sym, subst}
use Rattle.m4_model.specs.Matrix.{Matrix, zero_matrix}
use Rattle.m4_cert.specs.Certificates.{HasNonzero}
use Rattle.m4_cert.proofs.CertLemmas.{none_decided}
use Rattle.m4_cert.proofs.holds.none_holds.Goals as goal

pub returns : goal.returns
returns c =
    let A = c.args.a.now in
    let B = c.args.b.now in
    let W = c.args.w.now in
    let field_of_b = sym c.field.ensures ∙ c.are_same.ensures.0 c.if-not-are_same.false ∙ c.field-2.ensures in
    let field_of_w = sym c.field-else-not-are_same.ensures ∙ c.are_same-else-not-are_same.ensures.0 c.if-not-are_same-2.false ∙ c.field-else-not-are_same-2.ensures in
    let rows_of_a = sym c.rows.ensures.rows ∙ c.if-rows-cols.false ∙ c.cols.ensures.cols in
    let rows_of_b = sym c.rows-else-rows-cols.ensures.rows ∙ c.if-rows-cols-2.false ∙ c.cols-else-rows-cols.ensures.cols in
    let P : Matrix → Type 0 = λ M. M ≡ zero_matrix M.field M.rows M.cols in
    let Q : Matrix → Type 0 = λ M. IsFalse c.is_zero-4.result ↔ HasNonzero M in
    none_decided A B W c.is_zero-4.result field_of_b field_of_w rows_of_a rows_of_b
    (subst P c.in_ok-product.ensures (c.is_zero-2.ensures.zeros.0 c.if-not-is_zero.false)) (subst Q c.in_ok-product-2.ensures c.is_zero-4.ensures.nonzero)
