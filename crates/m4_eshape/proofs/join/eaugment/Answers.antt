use Rattle.std.proofs.Common.{◌≡◌, ◌+◌, refl, sym, ap, ap₂, ◌∙◌}
use Rattle.m4_model.specs.Matrix.{Matrix}
use Rattle.m4_model.specs.Shapes.{beside}
use Rattle.m4_field.specs.Fields.{the_field}
use Rattle.m4_mzd.specs.Seen.{shown}
use Rattle.m4_mzed.specs.ESeen.{e_shown}
use Rattle.m4_mzed.proofs.PackedSums.{Holds, other_holds, other_packed, other_matrix}
use Rattle.m4_eshape.proofs.PackedLemmas.{join_packed, join_is}
use Rattle.m4_eshape.proofs.join.eaugment.Goals as goal

-- the rows of the bits are those of the elements
same_rows : (A B P R : Matrix) → A.rows ≡ P.rows → B.rows ≡ R.rows → B.rows ≡ A.rows → R.rows ≡ P.rows
same_rows A B P R a b same = sym b ∙ same ∙ a

pub of_packed-requires : goal.of_packed-requires
of_packed-requires c =
    let A = e_shown c.args.a.now in
    let B = e_shown c.args.b.now in
    let P = shown c.packed-left.result in
    let R = shown c.packed-right.result in
    let p : Holds A.field A.cols P = record { packed = c.packed-left.ensures.packed; matrix = c.rows-left_rows.ensures.matrix; over = refl } in
    let r : Holds A.field B.cols R = other_holds A.field B.field B.cols R c.requires.same_field (record { packed = c.packed-right.ensures.packed; matrix = c.rows-right_rows.ensures.matrix; over = refl }) in
    let rows = same_rows A B P R (sym (ap (λ (M : Matrix). M.rows) c.packed-left.ensures.elements)) (sym (ap (λ (M : Matrix). M.rows) c.packed-right.ensures.elements)) c.requires.same_rows in
    other_packed A.field (the_field c.field.result) (A.cols + B.cols) (c.cols.result + c.cols-2.result) c.in_ok-bits.bits c.field.ensures (ap₂ (λ k m. k + m) c.cols.ensures.cols c.cols-2.ensures.cols)
    (join_packed A.field A.cols B.cols P R c.in_ok-bits.bits p r c.rows-bits.ensures.matrix rows c.in_ok-bits.ensures)

pub returns : goal.returns
returns c =
    let A = e_shown c.args.a.now in
    let B = e_shown c.args.b.now in
    let P = shown c.packed-left.result in
    let R = shown c.packed-right.result in
    let p : Holds A.field A.cols P = record { packed = c.packed-left.ensures.packed; matrix = c.rows-left_rows.ensures.matrix; over = refl } in
    let r : Holds A.field B.cols R = other_holds A.field B.field B.cols R c.requires.same_field (record { packed = c.packed-right.ensures.packed; matrix = c.rows-right_rows.ensures.matrix; over = refl }) in
    let rows = same_rows A B P R (sym (ap (λ (M : Matrix). M.rows) c.packed-left.ensures.elements)) (sym (ap (λ (M : Matrix). M.rows) c.packed-right.ensures.elements)) c.requires.same_rows in
    c.of_packed.ensures
    ∙ other_matrix A.field (the_field c.field.result) (A.cols + B.cols) (c.cols.result + c.cols-2.result) c.in_ok-bits.bits c.field.ensures (ap₂ (λ k m. k + m) c.cols.ensures.cols c.cols-2.ensures.cols)
    ∙ join_is A.field A.cols B.cols P R c.in_ok-bits.bits p r c.rows-bits.ensures.matrix rows c.in_ok-bits.ensures
    ∙ ap₂ beside c.packed-left.ensures.elements (other_matrix B.field A.field B.cols B.cols R (sym c.requires.same_field) refl ∙ c.packed-right.ensures.elements)
