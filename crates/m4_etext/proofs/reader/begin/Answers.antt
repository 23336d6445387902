use Rattle.std.proofs.Common.{◌≡◌, ◌++◌, sym, subst, ap, ◌∙◌}
use Rattle.std.proofs.lemmas.Result.{err_from_is_err_and}
use Rattle.m4_model.specs.Field.{Field}
use Rattle.m4_model.specs.Matrix.{Matrix}
use Rattle.m4_model.specs.Text.{IsWithinLimits}
use Rattle.m4_model.specs.Headed.{Spelling, HasField, field_of}
use Rattle.m4_field.specs.Fields.{the_field}
use Rattle.m4_etext.specs.Parsed.{spelling_of}
use Rattle.m4_etext.specs.Kinds.{spelled_by}
use Rattle.m4_etext.proofs.Readers.{HasHeader-fed, begun, begun_past}
use Rattle.m4_etext.proofs.Versions.{field_suits}
use Rattle.m4_etext.proofs.reader.begin.Goals as goal

pub returns-in_err-base-clause-err : goal.returns-in_err-base-clause-err
returns-in_err-base-clause-err c =
    let h = c.args.header in
    let rest = c.args.rest.now in
    let p = err_from_is_err_and c.from_residual.result c.from_residual.ensures.1 in
    rw (p.1, p.2) (λ bytes found here more.
    c.in_err-base.ensures.err ((bytes ++ rest) ++ more) h.rows h.cols (HasHeader-fed bytes rest more (spelling_of h.opening) h.rows h.cols h.len found))

pub returns-then-not-within_limits-clause-err : goal.returns-then-not-within_limits-clause-err
returns-then-not-within_limits-clause-err c = λ bytes found here more.
    let h = c.args.header in
    let base = c.in_ok-base.base in
    let F = the_field base.field in
    let e = c.in_ok-base.ensures in
    begun_past bytes c.args.rest.now more F (spelling_of h.opening) (spelled_by base.kind F) h.rows h.cols h.len e.spelling e.field (field_suits base.kind F e.suits) found (λ limits.
    let yes = c.within_limits.ensures.1 (subst (λ w. IsWithinLimits w h.rows h.cols) (sym c.width.ensures.width) limits) in cc)

-- the lines of the matrix, begun
pub returns-in-Ok-clause-ok : goal.returns-in-Ok-clause-ok
returns-in-Ok-clause-ok c = λ bytes found here.
    let h = c.args.header in
    let base = c.in_ok-base.base in
    let F = the_field base.field in
    let e = c.in_ok-base.ensures in
    let A = c.in_ok-m.m in
    let field : A.field ≡ F = ap (λ (B : Matrix). B.field) c.in_ok-m.ensures in
    let T : Spelling = spelled_by base.kind A.field in
    let limits = subst (λ w. IsWithinLimits w h.rows h.cols) c.width.ensures.width (c.within_limits.ensures.0 c.if-not-within_limits.false) in
    c.in-Ok.ensures.ok bytes
    (begun c.new-lines.result A F (spelling_of h.opening) T h.rows h.cols h.len bytes c.in_ok-m.ensures (ap (spelled_by base.kind) field ∙ e.spelling)
    (subst HasField (sym (ap (spelled_by base.kind) field)) e.field) (ap (λ (G : Field). field_of (spelled_by base.kind G)) field ∙ field_suits base.kind F e.suits)
    c.new-lines.ensures.stands limits found here)

pub returns-in-Err-clause-err : goal.returns-in-Err-clause-err
returns-in-Err-clause-err c = λ bytes found here more.
    let h = c.args.header in
    let base = c.in_ok-base.base in
    let F = the_field base.field in
    let e = c.in_ok-base.ensures in
    let A = c.in_ok-m.m in
    let field : A.field ≡ F = ap (λ (B : Matrix). B.field) c.in_ok-m.ensures in
    let T : Spelling = spelled_by base.kind A.field in
    let limits = subst (λ w. IsWithinLimits w h.rows h.cols) c.width.ensures.width (c.within_limits.ensures.0 c.if-not-within_limits.false) in
    c.in-Err.ensures.err bytes
    (begun c.new-lines.result A F (spelling_of h.opening) T h.rows h.cols h.len bytes c.in_ok-m.ensures (ap (spelled_by base.kind) field ∙ e.spelling)
    (subst HasField (sym (ap (spelled_by base.kind) field)) e.field) (ap (λ (G : Field). field_of (spelled_by base.kind G)) field ∙ field_suits base.kind F e.suits)
    c.new-lines.ensures.stands limits found here) more
