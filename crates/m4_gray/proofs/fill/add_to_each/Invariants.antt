use Rattle.std.proofs.Common.{◌≡◌, ◌+◌}
use Rattle.m4_model.specs.Matrix.{row}
use Rattle.m4_mzd.specs.Seen.{shown}
use Rattle.m4_mzd.proofs.PairLemmas.{copied}
use Rattle.m4_gray.specs.Slots.{each_added}
use Rattle.m4_gray.proofs.fill.add_to_each.Given as goal

abbrev pub invariant-loop-x : goal.invariant-loop-x
invariant-loop-x g l = record {
  so_far : l.dst ≡ copied l.fn.dst (each_added (row (shown l.b) l.r) (shown l.a).entries) l.x;
  all : l.x-end ≡ l.fn.dst.rows;
  ticks : l.steps ≡ l.fn.steps + l.x;
}
