use Rattle.std.proofs.Common.{arith}
use Rattle.m4_bits.proofs.DigitsLemmas.{gathered_more}
use Rattle.m4_bits.proofs.digits.word_with_rest.Goals as goal

pub loop-place-preserved : goal.loop-place-preserved
loop-place-preserved c =
    rw c.from.ensures
    (gathered_more c.args.digits.now c.loop-place.place c.loop-place.word c.loop-place.others c.loop-place-test.true
    (let few = c.requires in omega arith) c.loop-place.invariant)
