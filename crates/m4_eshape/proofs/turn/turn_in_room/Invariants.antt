use Rattle.std.proofs.Common.{◌≡◌}
use Rattle.m4_mzd.specs.Seen.{shown}
use Rattle.m4_eshape.proofs.NumberLemmas.{turned_window}
use Rattle.m4_eshape.proofs.turn.turn_in_room.Given as goal

abbrev pub invariant-loop-w : goal.invariant-loop-w
invariant-loop-w l = l.dst ≡ turned_window l.width l.fn.dst (shown l.a) l.w
