use Rattle.std.proofs.Common.{arith, ap, ◌∙◌}
use Rattle.std.specs.Int.{bit_at}
use Rattle.m4_mzd.proofs.WordLemmas.{mask_last, mask_full}
use Rattle.m4_mzd.proofs.word.word_mask.Goals as goal

pub returns-then-w-words_for : goal.returns-then-w-words_for
returns-then-w-words_for c = λ j small.
    ap (λ m. bit_at m j) c.mask.ensures
    ∙ mask_last c.args.cols c.args.w j c.requires (omega (arith, c.if-w-words_for.true, c.words_for.ensures)) small

pub returns-else-w-words_for : goal.returns-else-w-words_for
returns-else-w-words_for c = λ j small.
    mask_full c.args.cols c.args.w j c.requires (λ last. c.if-w-words_for.false (omega (arith, last, c.words_for.ensures))) small
