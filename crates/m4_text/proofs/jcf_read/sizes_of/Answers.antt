use Rattle.std.proofs.Common.{[], ◌∷◌, refl, ap, ◌∙◌, arith, inl, Some}
use Rattle.std.proofs.lemmas.Result.{err_from_is_err_and}
use Rattle.m4_text.specs.Tokens.{token_at}
use Rattle.m4_text.proofs.JcfHeaders.{begins_none, begins_rows, begins_cols, begins_modulus, wrong_rows, wrong_cols, wrong_modulus, wrong_unused, none_apart, other_apart, header_fault, number_fault}
use Rattle.m4_text.proofs.jcf_read.sizes_of.Goals as goal

pub returns-in_err-rows : goal.returns-in_err-rows
returns-in_err-rows c =
    let p = err_from_is_err_and c.from_residual.result c.from_residual.ensures.1 in
    rw (p.1, p.2) (header_fault c.args.bytes.now c.args.long 0 [] _ refl begins_none (omega arith) wrong_rows c.in_err-rows.ensures)

pub returns-in_err-cols : goal.returns-in_err-cols
returns-in_err-cols c =
    let p = err_from_is_err_and c.from_residual-in_err-cols.result c.from_residual-in_err-cols.ensures.1 in
    let bytes = c.args.bytes.now in
    let rows = c.in_ok-rows.ensures in
    let a = token_at bytes c.in_ok-rows.rows.start c.in_ok-rows.rows.end in
    rw (p.1, p.2) (header_fault bytes c.args.long c.in_ok-rows.rows.end (a ∷ []) _ rows.token.next
    (begins_rows a c.in_ok-rows.rows.value rows.spelled) (omega arith) (wrong_cols a) c.in_err-cols.ensures)

pub returns-in_err-modulus : goal.returns-in_err-modulus
returns-in_err-modulus c =
    let p = err_from_is_err_and c.from_residual-in_err-modulus.result c.from_residual-in_err-modulus.ensures.1 in
    let bytes = c.args.bytes.now in
    let rows = c.in_ok-rows.ensures in
    let cols = c.in_ok-cols.ensures in
    let a = token_at bytes c.in_ok-rows.rows.start c.in_ok-rows.rows.end in
    let b = token_at bytes c.in_ok-cols.cols.start c.in_ok-cols.cols.end in
    rw (p.1, p.2) (header_fault bytes c.args.long c.in_ok-cols.cols.end (a ∷ b ∷ []) _ (rows.token.next ∙ ap (λ w. a ∷ w) cols.token.next)
    (begins_cols a b c.in_ok-rows.rows.value c.in_ok-cols.cols.value rows.spelled cols.spelled) (omega arith)
    (λ t none. wrong_modulus a b t (none_apart t none)) c.in_err-modulus.ensures)

pub returns-then-modulus-ne-MODULUS : goal.returns-then-modulus-ne-MODULUS
returns-then-modulus-ne-MODULUS c =
    let bytes = c.args.bytes.now in
    let rows = c.in_ok-rows.ensures in
    let cols = c.in_ok-cols.ensures in
    let modulus = c.in_ok-modulus.ensures in
    let a = token_at bytes c.in_ok-rows.rows.start c.in_ok-rows.rows.end in
    let b = token_at bytes c.in_ok-cols.cols.start c.in_ok-cols.cols.end in
    let t = token_at bytes c.in_ok-modulus.modulus.start c.in_ok-modulus.modulus.end in
    inl (number_fault _ (a ∷ b ∷ []) _ t (rows.token.next ∙ ap (λ w. a ∷ w) (cols.token.next ∙ ap (λ w. b ∷ w) modulus.token.next))
    (begins_cols a b c.in_ok-rows.rows.value c.in_ok-cols.cols.value rows.spelled cols.spelled)
    (wrong_modulus a b t (other_apart t c.in_ok-modulus.modulus.value modulus.spelled c.if-modulus-ne-MODULUS.true)))

pub returns-in_err-unused : goal.returns-in_err-unused
returns-in_err-unused c =
    let p = err_from_is_err_and c.from_residual-in_err-unused.result c.from_residual-in_err-unused.ensures.1 in
    let bytes = c.args.bytes.now in
    let rows = c.in_ok-rows.ensures in
    let cols = c.in_ok-cols.ensures in
    let modulus = c.in_ok-modulus.ensures in
    let a = token_at bytes c.in_ok-rows.rows.start c.in_ok-rows.rows.end in
    let b = token_at bytes c.in_ok-cols.cols.start c.in_ok-cols.cols.end in
    let t = token_at bytes c.in_ok-modulus.modulus.start c.in_ok-modulus.modulus.end in
    rw (p.1, p.2) (header_fault bytes c.args.long c.in_ok-modulus.modulus.end (a ∷ b ∷ t ∷ []) _
    (rows.token.next ∙ ap (λ w. a ∷ w) (cols.token.next ∙ ap (λ w. b ∷ w) modulus.token.next))
    (begins_modulus a b t c.in_ok-rows.rows.value c.in_ok-cols.cols.value rows.spelled cols.spelled
    (modulus.spelled ∙ ap Some c.if-modulus-ne-MODULUS.false))
    (omega arith) (wrong_unused a b t) c.in_err-unused.ensures)
