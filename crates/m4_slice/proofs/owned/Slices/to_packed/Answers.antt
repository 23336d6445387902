use Rattle.std.proofs.Common.{sym, ap, ◌∙◌}
use Rattle.m4_model.specs.Matrix.{Matrix, added}
use Rattle.m4_field.specs.Fields.{the_field}
use Rattle.m4_mzed.specs.EWindow.{content, showing}
use Rattle.m4_slice.proofs.OwnedLemmas.{joined_stored}
use Rattle.m4_slice.proofs.owned.Slices.to_packed.Goals as goal

pub returns : goal.returns
returns c =
    let F = the_field c.self.inside.field in
    let w = c.args.dst.now in
    let seen = c.self.view_is in
    c.add_to.ensures ∙ ap (λ (A : Matrix). showing c.clear.new.self (added (content c.clear.new.self) A)) (sym seen)
    ∙ joined_stored F F.degree c.self.inside.rows c.self.inside.bits w c.clear.new.self
    (c.requires.same_rows ∙ ap (λ (A : Matrix). A.rows) (sym seen)) (c.requires.same_cols ∙ ap (λ (A : Matrix). A.cols) (sym seen)) c.clear.ensures
    ∙ ap (showing w) seen
