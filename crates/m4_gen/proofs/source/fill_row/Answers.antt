use Rattle.std.proofs.Common.{◌+◌, ◌*◌, ◌≡◌, ◌∙◌, ℕ, ap, subst, arith}
use Rattle.m4_model.specs.Text.{words_per_row}
use Rattle.m4_gen.specs.Source.{HasGiven, masked_bit}
use Rattle.m4_gen.proofs.FillLemmas.{begun_more, begun_all, word_bit}
use Rattle.m4_gen.proofs.source.fill_row.Goals as goal

pub loop-w-preserved : goal.loop-w-preserved
loop-w-preserved g c =
    let n = c.args.whole.now.cols in
    let k = c.args.r * words_per_row n in
    let shape = c.cols.ensures.shape in
    let given = c.loop-w.invariant.given in
    record {
      begun = begun_more c.args.whole.now c.loop-w.whole c.set_word.new.self n c.args.r c.loop-w.w _ (masked_bit n c.args.mask g.seed c.args.r)
          (let h = shape.matrix.height in let b = c.requires.0 in omega (arith, h, b)) c.loop-w.invariant.begun
          (λ q small. word_bit n c.args.mask g.seed c.args.r c.loop-w.w c.next_word-word.result q (c.next_word-word.ensures.word g.seed (k + c.loop-w.w) given) small)
          c.set_word.ensures;
      given = let e : k + c.loop-w.w + 1 ≡ k + (c.loop-w.w + 1) = omega arith in
          let P : ℕ → Type 0 = λ t. HasGiven g.seed t c.next_word-word.new.source in
          subst P e (c.next_word-word.ensures.next g.seed (k + c.loop-w.w) given);
      all = c.words_for-w-end.ensures ∙ ap words_per_row c.cols.ensures.cols;
    }

pub returns-clause-row : goal.returns-clause-row
returns-clause-row g c =
    let n = c.args.whole.now.cols in
    begun_all c.args.whole.now c.loop-w.whole n c.args.r c.loop-w.w (masked_bit n c.args.mask g.seed c.args.r)
    (let t = c.loop-w-test.false in let e = c.words_for-w-end.ensures in let k = c.cols.ensures.cols in omega (arith, t, e, k)) c.loop-w.invariant.begun
