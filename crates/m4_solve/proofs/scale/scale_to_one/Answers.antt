use Rattle.std.proofs.Common.{◌≡◌, refl, sym, ap, subst}
use Rattle.m4_model.specs.Field.{Field, IsElement, mul}
use Rattle.m4_model.proofs.FieldProofs.{field_laws}
use Rattle.m4_mzed.specs.EWindow.{content}
use Rattle.m4_solve.specs.Scaled.{IsScaled}
use Rattle.m4_solve.proofs.Scales.{scaled_once, scaled_by}
use Rattle.m4_solve.proofs.scale.scale_to_one.Goals as goal

pub returns-then-pivot-eq1-clause-scaled : goal.returns-then-pivot-eq1-clause-scaled
returns-then-pivot-eq1-clause-scaled c =
    let A = content c.args.a.now in
    let matrix = c.rows-rows.ensures.matrix in
    scaled_once A A c.args.i (field_laws A.field matrix.over_field) matrix c.requires.in_rows refl

pub returns-clause-scaled : goal.returns-clause-scaled
returns-clause-scaled c =
    let A = content c.args.a.now in
    let matrix = c.rows-rows.ensures.matrix in
    let field = c.field-field.ensures in
    let y = c.inv.result in
    subst (IsScaled c.args.i A) (sym (ap content c.scale_row.ensures))
    (scaled_by A c.args.i c.get-pivot.result y (field_laws A.field matrix.over_field) matrix c.requires.in_rows
    (subst (λ (F : Field). IsElement F y) field c.inv.ensures.element)
    (subst (λ (F : Field). mul F c.get-pivot.result y ≡ 1) field c.inv.ensures.inverse))
