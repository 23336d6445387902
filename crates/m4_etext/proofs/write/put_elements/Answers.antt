use Rattle.std.proofs.Common.{◌≡◌, ◌+◌, ◌*◌, ◌/◌, ◌-◌, ◌<◌, take, drop, arith, min, take_all, refl, ap, ◌∙◌, subst, Ok}
use Rattle.std.proofs.lemmas.Result.{err_from_is_err_and}
use Rattle.m4_model.specs.Matrix.{Matrix, row}
use Rattle.m4_model.specs.Headed.{Elements, digits_per_element}
use Rattle.m4_mzd.specs.Seen.{shown}
use Rattle.m4_mzed.specs.Owned.{e_matrix}
use Rattle.m4_mzed.specs.PackedIn.{IsPackedIn}
use Rattle.m4_model.specs.Field.{width}
use Rattle.m4_etext.specs.Digits.{elements_of}
use Rattle.m4_etext.specs.Pending.{Puts}
use Rattle.m4_etext.specs.Pieces.{glyphs}
use Rattle.m4_etext.proofs.Putting.{piece_put, piece_fails, group_put, group_left, puts_nothing}
use Rattle.m4_etext.proofs.ElementWords.{IsRowOfBits, word_group, all_digits}
use Rattle.m4_etext.proofs.write.put_elements.Given.{Over}
use Rattle.m4_etext.proofs.write.put_elements.Goals.{After-cols, After-word}
use Rattle.m4_etext.proofs.write.put_elements.Goals as goal

-- the row that is put
bits : (g : Over) → (c : After-cols g) → IsRowOfBits c.args.m.now (shown c.packed-entries.result) c.args.r c.width-width.result (64 / c.width-width.result) c.element_digits-count.result
bits g c =
    let B = shown c.packed-entries.result in
    let rows : B.rows ≡ c.args.m.now.rows = ap (λ (M : Matrix). M.rows) (c.packed-entries.ensures.elements ∙ c.all.ensures) in
    let inside : c.args.r < B.rows = (let i = c.requires.in_rows in omega (arith, rows, i)) in
    record {
      packed = subst (λ (M : Matrix). IsPackedIn M.field M.cols B) c.all.ensures c.packed-entries.ensures.packed;
      shows = subst (λ (M : Matrix). e_matrix M.field M.cols B ≡ M) c.all.ensures c.packed-entries.ensures.elements;
      in_rows = inside;
      wide = c.rows-rows.ensures.matrix.width c.args.r inside;
      are = λ j below. c.rows-rows.ensures.matrix.elements c.args.r j inside below;
      width_is = c.width-width.ensures.width ∙ ap width c.field.ensures;
      side_is = refl;
      digits = c.element_digits-count.ensures.count ∙ ap digits_per_element c.field-2.ensures;
      some = c.element_digits-count.ensures.some;
    }

-- the digits of the word that was read
group : (g : Over) → (c : After-word g)
    → IsRowOfBits c.args.m.now (shown c.packed-entries.result) c.args.r c.width-width.result (64 / c.width-width.result) c.element_digits-count.result → let k = c.element_digits-count.result in let side = 64 / c.width-width.result in
    take (side * k) (drop (side * k * c.loop-w.w) (glyphs (Elements c.args.m.now.field) (row c.args.m.now c.args.r))) ≡ elements_of c.width-width.result k c.word.result (c.min-elements.result * k)
group g c is =
    let side = 64 / c.width-width.result in
    let cols = c.cols.ensures.cols in
    word_group c.args.m.now (shown c.packed-entries.result) c.args.r c.width-width.result side c.element_digits-count.result is
    c.loop-w.w c.word.result c.min-elements.result (omega (arith, c.words_for-w-end.ensures, cols))
    (c.min-elements.ensures ∙ ap (λ n. min (n - side * c.loop-w.w) side) c.cols-cols.ensures.cols)
    c.word.ensures

pub loop-w-init : goal.loop-w-init
loop-w-init g c =
    let none : 64 / c.width-width.result * c.element_digits-count.result * 0 ≡ 0 = omega arith in
    rw none (puts_nothing _ _ _)

pub returns-in_err-put_elements : goal.returns-in_err-put_elements
returns-in_err-put_elements g c =
    let p = err_from_is_err_and c.from_residual.result c.from_residual.ensures.1 in
    let xs = glyphs (Elements c.args.m.now.field) (row c.args.m.now c.args.r) in
    let size = 64 / c.width-width.result * c.element_digits-count.result in
    piece_fails (drop (size * (c.loop-w.w + 1)) xs) (group_left xs size c.loop-w.w (let at = goal.at.returns-in_err-put_elements g c in group g at.After-word (bits g at.After-cols)))
    c.loop-w.invariant c.in_err-put_elements.ensures p.1

pub loop-w-preserved : goal.loop-w-preserved
loop-w-preserved g c =
    let xs = glyphs (Elements c.args.m.now.field) (row c.args.m.now c.args.r) in
    let size = 64 / c.width-width.result * c.element_digits-count.result in
    piece_put {result = Ok tt} {front = take (size * c.loop-w.w) xs} (group_put xs size c.loop-w.w (let at = goal.at.loop-w-preserved g c in group g at.After-word (bits g at.After-cols))) c.loop-w.invariant c.in_ok-put_elements.ensures

pub returns : goal.returns
returns g c =
    let xs = glyphs (Elements c.args.m.now.field) (row c.args.m.now c.args.r) in
    let side = 64 / c.width-width.result in
    let k = c.element_digits-count.result in
    let cols = c.cols.ensures.cols in
    let all = all_digits c.args.m.now (shown c.packed-entries.result) c.args.r c.width-width.result side k (bits g (goal.at.returns g c).After-cols) c.loop-w.w (omega (arith, c.words_for-w-end.ensures, c.loop-w-test.false, cols)) in
    subst (Puts _ _ _ _ _ _ (Ok tt)) (take_all (side * k * c.loop-w.w) xs all) c.loop-w.invariant
