use Rattle.std.proofs.Common.{◌≡◌}
use Rattle.m4_mzd.specs.Seen.{shown}
use Rattle.m4_shape.proofs.TurnLemmas.{turned_window}
use Rattle.m4_shape.proofs.turn.turn_blocks.Given as goal

abbrev pub invariant-loop-w : goal.invariant-loop-w
invariant-loop-w l = l.dst ≡ turned_window l.fn.dst (shown l.a) l.w
