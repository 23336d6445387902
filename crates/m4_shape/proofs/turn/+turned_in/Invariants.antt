use Rattle.std.proofs.Common.{◌+◌}
use Rattle.m4_mzd.specs.Seen.{shown}
use Rattle.m4_shape.proofs.turn.+turned_in.Given as goal

abbrev pub decreases-turned_in : goal.decreases-turned_in
decreases-turned_in l = (shown l.a).rows + (shown l.a).cols
