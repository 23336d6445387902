use Rattle.m4_slice.proofs.RunLemmas.{gathered_one}
use Rattle.m4_slice.proofs.word.gather.Goals as goal

pub returns-then-width-eq1 : goal.returns-then-width-eq1
returns-then-width-eq1 c = gathered_one c.args.width c.args.word c.if-width-eq1.true c.ranges.word.fits
