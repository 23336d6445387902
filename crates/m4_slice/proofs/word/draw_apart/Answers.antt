use Rattle.m4_slice.proofs.RunLemmas.{drawing}
use Rattle.m4_slice.proofs.word.draw_apart.Goals as goal

pub returns : goal.returns
returns c = drawing c.args.word c.args.far c.args.mask
