use Rattle.std.proofs.Common.{◌≡◌, ℕ, ◌+◌, ◌-◌, ◌*◌, ◌<◌, ◌≤◌, min, length, get_or, take, drop, ◌++◌, arith, take_all, ap, ◌∙◌, subst, Ok}
use Rattle.std.proofs.lemmas.Result.{err_from_is_err_and}
use Rattle.std.specs.Int.{bit_at}
use Rattle.m4_model.specs.Matrix.{Matrix, row, at}
use Rattle.m4_bits.specs.Digits.{digits_of}
use Rattle.m4_text.specs.Pending.{Puts}
use Rattle.m4_text.specs.Reading.{digits_from}
use Rattle.m4_text.proofs.Putting.{piece_put, piece_fails, word_put, row_left}
use Rattle.m4_text.proofs.write.put_row.Given.{Over}
use Rattle.m4_text.proofs.write.put_row.Goals.{After-word}
use Rattle.m4_text.proofs.write.put_row.Goals as goal

-- the digits of one word more are those before it and those of the word that was read
one_more : (g : Over) → (c : After-word g)
    → digits_from (take (64 * (c.loop-w.w + 1)) (row c.args.m.now c.args.r))
    ≡ digits_from (take (64 * c.loop-w.w) (row c.args.m.now c.args.r)) ++ digits_of c.word.result c.min-count.result
one_more g c =
    let entries = row c.args.m.now c.args.r in
    let w = c.loop-w.w in
    let wide : length entries ≡ c.cols-cols.result = omega (arith, c.cols-cols.ensures.cols, c.cols-cols.ensures.matrix.width c.args.r c.requires) in
    let inside : 64 * w < length entries = omega (arith, c.words_for-w-end.ensures) in
    let many : c.min-count.result ≡ min (length entries - 64 * w) 64 = omega (arith, c.min-count.ensures) in
    let bits : (j : ℕ) → j < 64 → bit_at c.word.result j ≡ get_or entries (w * 64 + j) 0 =
    λ j small. c.word.ensures j small ∙ ap (λ (M : Matrix). at M c.args.r (w * 64 + j)) c.all-entries.ensures in
    word_put entries w c.word.result c.min-count.result inside many bits

pub returns-in_err-put_word : goal.returns-in_err-put_word
returns-in_err-put_word g c =
    let p = err_from_is_err_and c.from_residual.result c.from_residual.ensures.1 in
    let entries = row c.args.m.now c.args.r in
    let next = 64 * (c.loop-w.w + 1) in
    piece_fails {front = digits_from (take (64 * c.loop-w.w) entries)} (digits_from (drop next entries)) (row_left entries next (one_more g (goal.at.returns-in_err-put_word g c).After-word))
    c.loop-w.invariant c.in_err-put_word.ensures p.1

pub loop-w-preserved : goal.loop-w-preserved
loop-w-preserved g c =
    piece_put {result = Ok tt} (one_more g (goal.at.loop-w-preserved g c).After-word) c.loop-w.invariant c.in_ok-put_word.ensures

pub returns : goal.returns
returns g c =
    let entries = row c.args.m.now c.args.r in
    let wide : length entries ≡ c.cols-cols.result = omega (arith, c.cols-cols.ensures.cols, c.cols-cols.ensures.matrix.width c.args.r c.requires) in
    let all : length entries ≤ 64 * c.loop-w.w = omega (arith, c.words_for-w-end.ensures) in
    subst (Puts _ _ _ _ _ _ (Ok tt)) (ap digits_from (take_all (64 * c.loop-w.w) entries all)) c.loop-w.invariant
