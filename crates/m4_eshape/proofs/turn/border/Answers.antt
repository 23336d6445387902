use Rattle.std.proofs.Common.{◌/◌}
use Rattle.m4_eshape.proofs.TurnLemmas.{whole_blocks}
use Rattle.m4_eshape.proofs.turn.border.Goals as goal

pub returns-clause-whole_blocks : goal.returns-clause-whole_blocks
returns-clause-whole_blocks c = whole_blocks (c.div_ceil.result / 2) c.args.side
