use Rattle.std.proofs.Common.{◌≡◌, sym, ap, ◌∙◌}
use Rattle.std.proofs.lemmas.Bool.{eqb-true, eq-eqb}
use Rattle.m4_model.specs.Field.{Field}
use Rattle.m4_model.specs.Matrix.{Matrix}
use Rattle.m4_field.specs.Fields.{the_field}
use Rattle.m4_mzed.proofs.BitLemmas.{gf2_by_degree}
use Rattle.m4_mzed.proofs.mzed.Mzed.is_over_gf2.Goals as goal

pub returns : goal.returns
returns c =
    let F = the_field c.self.inside.field in
    let over : F ≡ c.args.self.now.field = ap (λ (B : Matrix). B.field) c.self.view_is in
    let told = gf2_by_degree F c.e.result c.e.ensures.field c.e.ensures.degree in
    (λ one. sym over ∙ told.0 (eqb-true c.e.result 1 one), λ same. eq-eqb c.e.result 1 (told.1 (over ∙ same)))
