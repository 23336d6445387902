use Rattle.std.proofs.Common.{◌≡◌, sym, ap, ◌∙◌}
use Rattle.m4_model.specs.Field.{gf2}
use Rattle.m4_model.specs.Matrix.{Matrix}
use Rattle.m4_field.specs.Fields.{the_field}
use Rattle.m4_mzed.proofs.BitLemmas.{cols_gf2}
use Rattle.m4_mzed.proofs.SeenLemmas.{as_window, matrix_shown}
use Rattle.m4_mzed.proofs.mzed.Mzed.as_bits.Goals as goal

pub returns : goal.returns
returns c =
    let F = the_field c.self.inside.field in
    let A = c.self.inside.bits in
    let e = c.rows-rows.ensures in
    let over : F ≡ gf2 = ap (λ (B : Matrix). B.field) c.self.view_is ∙ c.requires in
    sym (matrix_shown F c.self.inside.cols A e.matrix e.over_gf2 e.few_rows e.few_cols over (cols_gf2 F c.self.inside.cols (as_window A) over c.self.invariant.wide))
    ∙ c.self.view_is
