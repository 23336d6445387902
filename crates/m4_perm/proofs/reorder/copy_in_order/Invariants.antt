use Rattle.std.proofs.Common.{◌≡◌}
use Rattle.m4_model.specs.Step.{reordered}
use Rattle.m4_mzd.specs.Seen.{shown}
use Rattle.m4_mzd.proofs.PairLemmas.{copied}
use Rattle.m4_perm.proofs.reorder.copy_in_order.Given as goal

abbrev pub invariant-loop-r : goal.invariant-loop-r
invariant-loop-r l = record {
  so_far : l.dst ≡ copied l.fn.dst (reordered l.order (shown l.a)).entries l.r;
  all : l.r-end ≡ l.fn.dst.rows;
}
