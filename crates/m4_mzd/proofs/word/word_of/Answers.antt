use Rattle.m4_mzd.proofs.WordLemmas.{word_bits}
use Rattle.m4_mzd.proofs.word.word_of.Goals as goal

pub returns : goal.returns
returns c = λ j small. word_bits c.args.cols c.args.w j c.word_mask.result c.args.row.now c.requires.wide (c.word_mask.ensures j small) small
