use Rattle.std.proofs.Common.{◌*◌, ap, ◌∙◌}
use Rattle.m4_model.specs.Field.{gf2}
use Rattle.m4_model.specs.Matrix.{zero_matrix}
use Rattle.m4_field.specs.Fields.{the_field}
use Rattle.m4_slice.specs.Sliced.{joined}
use Rattle.m4_slice.proofs.OwnedLemmas.{joined_zero}
use Rattle.m4_slice.proofs.owned.Slices.zeros.Goals as goal

pub returns : goal.returns
returns c =
    let F = the_field c.args.field in
    ap (joined F F.degree c.args.rows) (c.in_ok-bits.ensures ∙ ap (λ k. zero_matrix gf2 (k * c.args.rows) c.args.cols) c.e.ensures.degree) ∙ joined_zero F F.degree c.args.rows c.args.cols
