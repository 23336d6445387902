use Rattle.m4_etext.proofs.FourLemmas.{sixteen_read}
use Rattle.m4_etext.proofs.eight.word_of_sixteen.Goals as goal

pub returns : goal.returns
returns c = λ i below.
    sixteen_read c.args.digits.now c.in_ok-low.low c.in_ok-high.high c.in_ok-low.ensures.small c.in_ok-high.ensures.small c.in_ok-low.ensures.spelled c.in_ok-high.ensures.spelled i below
