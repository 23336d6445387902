use Rattle.std.proofs.Common.{◌*◌, sym, ap, subst, ◌∙◌}
use Rattle.m4_model.specs.Field.{gf2}
use Rattle.m4_model.specs.Matrix.{Matrix, zero_matrix}
use Rattle.m4_field.specs.Fields.{the_field}
use Rattle.m4_mzed.specs.PackedIn.{IsPackedIn}
use Rattle.m4_mzed.specs.Owned.{e_matrix}
use Rattle.m4_mzed.proofs.ZeroLemmas.{zeros_packed, zeros_are}
use Rattle.m4_mzed.proofs.mzed.Mzed.zeros.Goals as goal

pub invariant_of-result : goal.invariant_of-result
invariant_of-result c =
    let F = the_field c.args.field in
    let is = c.in_ok-bits.ensures ∙ ap (λ k. zero_matrix gf2 c.args.rows (c.args.cols * k)) c.width.ensures.width in
    let P : Matrix → Type 0 = IsPackedIn F c.args.cols in
    subst P (sym is) (zeros_packed F c.args.field.carried c.args.rows c.args.cols)

pub returns : goal.returns
returns c =
    let F = the_field c.args.field in
    let is = c.in_ok-bits.ensures ∙ ap (λ k. zero_matrix gf2 c.args.rows (c.args.cols * k)) c.width.ensures.width in
    ap (e_matrix F c.args.cols) is ∙ zeros_are F c.args.field.carried c.args.rows c.args.cols
