use Rattle.std.proofs.Common.{◌≡◌, ◌+◌}
use Rattle.m4_mzed.specs.ESeen.{e_shown}
use Rattle.m4_newton.proofs.StripLemmas.{IsLeft}
use Rattle.m4_newton.proofs.strips.add_by_strips.Given as goal

abbrev pub invariant-loop-left : goal.invariant-loop-left
invariant-loop-left g l = record {
  left : IsLeft l.fn.c l.c (e_shown l.a) (e_shown l.b) (e_shown l.left) (e_shown l.below);
  room_field : l.room.field ≡ l.fn.room.field;
  room_rows : l.room.rows ≡ l.fn.room.rows;
  room_cols : l.room.cols ≡ l.fn.room.cols;
  ready : g.M.AddMul.ready l.engine;
  limits : g.M.AddMul.limits l.engine ≡ g.M.AddMul.limits l.fn.engine;
  ticks : l.steps + (e_shown l.below).rows ≡ l.fn.steps + (e_shown l.b).rows;
}

abbrev pub decreases-loop-left : goal.decreases-loop-left
decreases-loop-left g l = (e_shown l.below).rows
