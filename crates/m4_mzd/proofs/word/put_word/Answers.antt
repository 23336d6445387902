use Rattle.std.proofs.Common.{arith}
use Rattle.m4_mzd.proofs.WordLemmas.{word_written, word_kept}
use Rattle.m4_mzd.proofs.word.put_word.Goals as goal

pub returns-clause-written : goal.returns-clause-written
returns-clause-written c = λ j here below.
    rw c.merge.ensures (word_written c.args.cols c.args.w c.word_mask-bits.result c.args.value j c.args.row.now (omega (arith, c.requires.wide, c.requires.in_row)) c.word_mask-bits.ensures here below)

pub returns-clause-kept : goal.returns-clause-kept
returns-clause-kept c = λ j past.
    rw c.merge.ensures (word_kept c.args.cols c.args.w c.word_mask-bits.result c.args.value j c.args.row.now (omega (arith, c.requires.wide, c.requires.in_row)) c.word_mask-bits.ensures past)
