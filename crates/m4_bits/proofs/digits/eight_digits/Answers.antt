use Rattle.m4_bits.proofs.EightLemmas.{spread_digits}
use Rattle.m4_bits.proofs.digits.eight_digits.Goals as goal

pub returns : goal.returns
returns c = spread_digits c.args.byte c.requires
