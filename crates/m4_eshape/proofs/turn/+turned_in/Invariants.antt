use Rattle.std.proofs.Common.{◌+◌}
use Rattle.m4_mzed.specs.ESeen.{e_shown}
use Rattle.m4_eshape.proofs.turn.+turned_in.Given as goal

abbrev pub decreases-turned_in : goal.decreases-turned_in
decreases-turned_in l = (e_shown l.a).rows + (e_shown l.a).cols
