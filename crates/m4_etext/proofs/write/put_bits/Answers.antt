use Rattle.std.proofs.Common.{◌≡◌, ℕ, ◌+◌, ◌*◌, ◌<◌, ◌≤◌, length, get_or, take, drop, arith, take_all, ap, sym, ◌∙◌, subst, Ok}
use Rattle.std.proofs.lemmas.Result.{err_from_is_err_and}
use Rattle.std.specs.Int.{bit_at}
use Rattle.m4_model.specs.Matrix.{Matrix, row, at}
use Rattle.m4_model.specs.Headed.{Bits}
use Rattle.m4_bits.specs.Digits.{digits_of}
use Rattle.m4_etext.specs.Pending.{Puts}
use Rattle.m4_etext.specs.Pieces.{glyphs}
use Rattle.m4_etext.proofs.Putting.{piece_put, piece_fails, group_put, group_left}
use Rattle.m4_etext.proofs.Pieces.{length-glyphs}
use Rattle.m4_etext.proofs.WrittenRows.{bits_group}
use Rattle.m4_etext.proofs.write.put_bits.Given.{Over}
use Rattle.m4_etext.proofs.write.put_bits.Goals.{After-word}
use Rattle.m4_etext.proofs.write.put_bits.Goals as goal

-- the digits of the word that was read
group : (g : Over) → (c : After-word g) → take 64 (drop (64 * c.loop-w.w) (glyphs Bits (row c.args.m.now c.args.r))) ≡ digits_of c.word.result c.min-count.result
group g c =
    let entries = row c.args.m.now c.args.r in
    let w = c.loop-w.w in
    let cols = c.cols-cols.ensures.cols in
    let wide : length entries ≡ c.cols-cols.result = c.cols-cols.ensures.matrix.width c.args.r c.requires.in_rows ∙ sym cols in
    let inside : 64 * w < c.cols-cols.result = omega (arith, c.words_for-w-end.ensures) in
    let bits : (j : ℕ) → j < 64 → bit_at c.word.result j ≡ get_or entries (w * 64 + j) 0 =
    λ j small. c.word.ensures j small ∙ ap (λ (M : Matrix). at M c.args.r (w * 64 + j)) (c.into_bits-entries.ensures ∙ c.all.ensures) in
    bits_group c.cols-cols.result entries w c.word.result c.min-count.result wide inside (omega (arith, c.min-count.ensures)) bits

pub returns-in_err-put_word : goal.returns-in_err-put_word
returns-in_err-put_word g c =
    let p = err_from_is_err_and c.from_residual.result c.from_residual.ensures.1 in
    let xs = glyphs Bits (row c.args.m.now c.args.r) in
    piece_fails (drop (64 * (c.loop-w.w + 1)) xs) (group_left xs 64 c.loop-w.w (group g (goal.at.returns-in_err-put_word g c).After-word))
    c.loop-w.invariant c.in_err-put_word.ensures p.1

pub loop-w-preserved : goal.loop-w-preserved
loop-w-preserved g c =
    let xs = glyphs Bits (row c.args.m.now c.args.r) in
    piece_put {result = Ok tt} (group_put xs 64 c.loop-w.w (group g (goal.at.loop-w-preserved g c).After-word)) c.loop-w.invariant c.in_ok-put_word.ensures

pub returns : goal.returns
returns g c =
    let entries = row c.args.m.now c.args.r in
    let cols = c.cols-cols.ensures.cols in
    let wide : length entries ≡ c.cols-cols.result = c.cols-cols.ensures.matrix.width c.args.r c.requires.in_rows ∙ sym cols in
    let long = length-glyphs Bits c.cols-cols.result entries wide in
    let all : length (glyphs Bits entries) ≤ 64 * c.loop-w.w = omega (arith, c.words_for-w-end.ensures, long) in
    subst (Puts _ _ _ _ _ _ (Ok tt)) (take_all (64 * c.loop-w.w) (glyphs Bits entries) all) c.loop-w.invariant
