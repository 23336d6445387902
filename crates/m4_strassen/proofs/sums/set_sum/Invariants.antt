use Rattle.std.proofs.Common.{◌≡◌}
use Rattle.m4_model.specs.Matrix.{added}
use Rattle.m4_mzd.specs.Seen.{shown}
use Rattle.m4_mzd.proofs.PairLemmas.{copied}
use Rattle.m4_strassen.proofs.sums.set_sum.Given as goal

abbrev pub invariant-loop-r : goal.invariant-loop-r
invariant-loop-r l = record {
  so_far : l.dst ≡ copied l.fn.dst (added (shown l.a) (shown l.b)).entries l.r;
  all : l.r-end ≡ l.fn.dst.rows;
}
