use Rattle.std.proofs.Common.{◌<◌, ◌+◌, ◌*◌, ℕ, sym, ap, subst, ◌∙◌}
use Rattle.m4_model.specs.Matrix.{Matrix}
use Rattle.m4_model.specs.Shapes.{cut}
use Rattle.m4_field.specs.Fields.{the_field}
use Rattle.m4_slice.specs.Sliced.{slice_of}
use Rattle.m4_slice.proofs.OwnedLemmas.{slice_cut}
use Rattle.m4_slice.proofs.owned.Slices.slice.Goals as goal

pub returns : goal.returns
returns c =
    let F = the_field c.self.inside.field in
    let S = c.self.inside.bits in
    let m = c.self.inside.rows in
    let v = c.args.v in
    let seen = c.self.view_is in
    let P : ℕ → Type 0 = λ e. v < e in
    c.win.ensures
    ∙ ap (cut S (v * m) 0 ((v + 1) * m)) c.cols.ensures.cols
    ∙ slice_cut F F.degree m v S c.rows-rows.ensures.matrix c.rows-rows.ensures.over_gf2 c.self.invariant (subst P (ap (λ (A : Matrix). A.field.degree) (sym seen)) c.requires)
    ∙ ap (slice_of v) seen
