use Rattle.std.proofs.Common.{refl, ap, ◌∙◌}
use Rattle.m4_model.specs.Field.{Field, width}
use Rattle.m4_mzd.specs.Seen.{shown}
use Rattle.m4_mzed.specs.ESeen.{e_shown}
use Rattle.m4_slice.proofs.LoadLemmas.{gathered_is}
use Rattle.m4_slice.proofs.load.load_slices.Goals as goal

pub returns : goal.returns
returns c = c.gather_slices.ensures ∙ gathered_is (e_shown c.args.a.now) (shown c.packed-source.result) c.e.result c.width.result c.packed-source.ensures.packed c.rows-source_rows.ensures.matrix refl c.packed-source.ensures.elements (c.e.ensures.degree ∙ ap (λ (F : Field). F.degree) c.field-field.ensures) (c.width.ensures.width ∙ ap width c.field-field.ensures) c.args.slices.now
