use Rattle.m4_bits.proofs.TransposeLemmas.{halves_exchanged}
use Rattle.m4_bits.proofs.transpose.exchange_halves.Goals as goal

pub returns : goal.returns
returns c = halves_exchanged c.args.size c.args.mask c.args.first c.args.second c.requires.halves c.requires.low
