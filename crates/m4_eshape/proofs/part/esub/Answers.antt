use Rattle.std.proofs.Common.{◌≡◌, ℕ, ◌-◌, ◌*◌, ◌≤◌, refl, sym, subst, ap, ◌∙◌}
use Rattle.m4_model.specs.Field.{width}
use Rattle.m4_model.specs.Matrix.{Matrix}
use Rattle.m4_model.specs.Shapes.{cut}
use Rattle.m4_field.specs.Fields.{the_field}
use Rattle.m4_mzd.specs.Seen.{shown}
use Rattle.m4_mzed.specs.ESeen.{e_shown}
use Rattle.m4_mzed.proofs.PackedSums.{Holds, other_packed, other_matrix}
use Rattle.m4_eshape.proofs.PackedLemmas.{cut_packed, cut_is}
use Rattle.m4_eshape.proofs.part.esub.Goals as goal

pub of_packed-requires : goal.of_packed-requires
of_packed-requires c =
    let A = e_shown c.args.a.now in
    let P = shown c.packed-source.result in
    let rect = c.args.rect in
    let p : Holds A.field A.cols P = record { packed = c.packed-source.ensures.packed; matrix = c.rows-rows.ensures.matrix; over = refl } in
    let R : ℕ → Type 0 = λ n. rect.r1 ≤ n in
    let in_rows : rect.r1 ≤ P.rows = subst R (sym (ap (λ (M : Matrix). M.rows) c.packed-source.ensures.elements)) c.requires.in_rows in
    let wide : c.width-width.result ≡ width A.field = c.width-width.ensures.width ∙ ap width c.field-field.ensures in
    other_packed A.field (the_field c.field-field.result) (rect.c1 - rect.c0) (rect.c1 - rect.c0) c.in_ok-bits.bits c.field-field.ensures refl
    (cut_packed A.field A.cols P c.in_ok-bits.bits p c.rows-bits.ensures.matrix rect.r0 rect.c0 rect.r1 rect.c1 in_rows c.requires.in_cols c.requires.in_order_across
    (c.in_ok-bits.ensures ∙ ap (λ k. cut P rect.r0 (rect.c0 * k) rect.r1 (rect.c1 * k)) wide))

pub returns : goal.returns
returns c =
    let A = e_shown c.args.a.now in
    let P = shown c.packed-source.result in
    let rect = c.args.rect in
    let p : Holds A.field A.cols P = record { packed = c.packed-source.ensures.packed; matrix = c.rows-rows.ensures.matrix; over = refl } in
    let R : ℕ → Type 0 = λ n. rect.r1 ≤ n in
    let in_rows : rect.r1 ≤ P.rows = subst R (sym (ap (λ (M : Matrix). M.rows) c.packed-source.ensures.elements)) c.requires.in_rows in
    let wide : c.width-width.result ≡ width A.field = c.width-width.ensures.width ∙ ap width c.field-field.ensures in
    c.of_packed.ensures
    ∙ other_matrix A.field (the_field c.field-field.result) (rect.c1 - rect.c0) (rect.c1 - rect.c0) c.in_ok-bits.bits c.field-field.ensures refl
    ∙ cut_is A.field A.cols P c.in_ok-bits.bits p c.rows-bits.ensures.matrix rect.r0 rect.c0 rect.r1 rect.c1 in_rows c.requires.in_cols c.requires.in_order_across
    (c.in_ok-bits.ensures ∙ ap (λ k. cut P rect.r0 (rect.c0 * k) rect.r1 (rect.c1 * k)) wide)
    ∙ ap (λ (M : Matrix). cut M rect.r0 rect.c0 rect.r1 rect.c1) c.packed-source.ensures.elements
