use Rattle.m4_slice.proofs.RunLemmas.{closing}
use Rattle.m4_slice.proofs.word.close_up.Goals as goal

pub returns : goal.returns
returns c = closing c.args.word c.args.far c.args.mask
