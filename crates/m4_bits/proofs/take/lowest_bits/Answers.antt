use Rattle.m4_bits.proofs.TakeLemmas.{bit_at-lowest, lowest-lt}
use Rattle.m4_bits.proofs.take.lowest_bits.Goals as goal

pub returns-clause-bits : goal.returns-clause-bits
returns-clause-bits c = λ i below. bit_at-lowest c.args.word c.args.n i c.requires below

pub returns-clause-small : goal.returns-clause-small
returns-clause-small c = lowest-lt c.args.word c.args.n c.requires
