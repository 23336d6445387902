use Rattle.std.proofs.Common.{◌≡◌, ℕ, ◌<◌}
use Rattle.m4_model.specs.Matrix.{at}
use Rattle.m4_mzd.specs.Seen.{shown}
use Rattle.m4_dense.proofs.equal.have_same_rows.Given as goal

abbrev pub invariant-loop-r : goal.invariant-loop-r
invariant-loop-r l = record {
  same : (i j : ℕ) → i < l.r → j < (shown l.a).cols → at (shown l.a) i j ≡ at (shown l.b) i j;
  all : l.r-end ≡ (shown l.a).rows;
}
