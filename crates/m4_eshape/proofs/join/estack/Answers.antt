use Rattle.std.proofs.Common.{refl, sym, ap₂, ◌∙◌}
use Rattle.m4_model.specs.Shapes.{above}
use Rattle.m4_field.specs.Fields.{the_field}
use Rattle.m4_mzd.specs.Seen.{shown}
use Rattle.m4_mzed.specs.ESeen.{e_shown}
use Rattle.m4_mzed.proofs.PackedSums.{Holds, other_holds, other_packed, other_matrix}
use Rattle.m4_eshape.proofs.PackedLemmas.{stack_packed, stack_is}
use Rattle.m4_eshape.proofs.join.estack.Goals as goal

pub of_packed-requires : goal.of_packed-requires
of_packed-requires c =
    let A = e_shown c.args.a.now in
    let B = e_shown c.args.b.now in
    let P = shown c.packed-top.result in
    let R = shown c.packed-bottom.result in
    let p : Holds A.field A.cols P = record { packed = c.packed-top.ensures.packed; matrix = c.rows-top_rows.ensures.matrix; over = refl } in
    let r : Holds A.field B.cols R = other_holds A.field B.field B.cols R c.requires.same_field (record { packed = c.packed-bottom.ensures.packed; matrix = c.rows-bottom_rows.ensures.matrix; over = refl }) in
    other_packed A.field (the_field c.field.result) A.cols c.cols.result c.in_ok-bits.bits c.field.ensures c.cols.ensures.cols
    (stack_packed A.field A.cols B.cols P R c.in_ok-bits.bits p r c.rows-bits.ensures.matrix c.requires.same_cols c.in_ok-bits.ensures)

pub returns : goal.returns
returns c =
    let A = e_shown c.args.a.now in
    let B = e_shown c.args.b.now in
    let P = shown c.packed-top.result in
    let R = shown c.packed-bottom.result in
    let p : Holds A.field A.cols P = record { packed = c.packed-top.ensures.packed; matrix = c.rows-top_rows.ensures.matrix; over = refl } in
    let r : Holds A.field B.cols R = other_holds A.field B.field B.cols R c.requires.same_field (record { packed = c.packed-bottom.ensures.packed; matrix = c.rows-bottom_rows.ensures.matrix; over = refl }) in
    c.of_packed.ensures
    ∙ other_matrix A.field (the_field c.field.result) A.cols c.cols.result c.in_ok-bits.bits c.field.ensures c.cols.ensures.cols
    ∙ stack_is A.field A.cols B.cols P R c.in_ok-bits.bits p r c.rows-bits.ensures.matrix c.requires.same_cols c.in_ok-bits.ensures
    ∙ ap₂ above c.packed-top.ensures.elements (other_matrix B.field A.field B.cols B.cols R (sym c.requires.same_field) refl ∙ c.packed-bottom.ensures.elements)
