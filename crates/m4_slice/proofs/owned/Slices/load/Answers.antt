use Rattle.std.proofs.Common.{sym, ap, ◌∙◌}
use Rattle.m4_model.specs.Matrix.{Matrix}
use Rattle.m4_field.specs.Fields.{the_field}
use Rattle.m4_mzed.specs.ESeen.{e_shown}
use Rattle.m4_slice.proofs.OwnedLemmas.{joined_loaded}
use Rattle.m4_slice.proofs.owned.Slices.load.Goals as goal

pub returns : goal.returns
returns c =
    let seen = c.self.view_is in
    joined_loaded (the_field c.self.inside.field) c.self.inside.rows c.all_mut-slices.result.0 c.load_slices.new.slices (e_shown c.args.a.now) c.put_all.new.self c.rows-rows.ensures.matrix
    (c.requires.same_field ∙ ap (λ (A : Matrix). A.field) (sym seen))
    (c.requires.same_rows ∙ ap (λ (A : Matrix). A.rows) (sym seen))
    (c.requires.same_cols ∙ ap (λ (A : Matrix). A.cols) (sym seen) ∙ sym (ap (λ (A : Matrix). A.cols) c.all_mut-slices.ensures.content))
    c.load_slices.ensures c.put_all.ensures
