use Rattle.std.proofs.Common.{arith}
use Rattle.m4_bits.proofs.ShiftLemmas.{words_more}
use Rattle.m4_bits.proofs.shift.copy_words.Goals as goal

pub loop-k-preserved : goal.loop-k-preserved
loop-k-preserved c =
    words_more c.args.dst.now c.loop-k.dst c.args.src.now c.args.first c.args.from c.loop-k.k c.word_across.result (omega arith) c.loop-k.invariant
    c.word_across.ensures.lower c.word_across.ensures.upper
