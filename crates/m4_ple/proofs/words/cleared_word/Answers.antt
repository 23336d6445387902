use Rattle.std.proofs.Common.{◌∙◌}
use Rattle.std.proofs.lemmas.Nat.Bits.{shr_and_one}
use Rattle.m4_ple.proofs.WordLemmas.{word_cleared}
use Rattle.m4_ple.proofs.words.cleared_word.Goals as goal

pub returns : goal.returns
returns c =
    word_cleared c.args.r c.args.c c.args.word c.args.pivot c.requires.one_word c.requires.behind c.requires.pivot
    (λ none. c.if-word-c-eq0.false (shr_and_one c.args.word c.args.c ∙ none))
