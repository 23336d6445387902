use Rattle.std.proofs.Common.{◌≡◌, ℕ, ◌+◌, ◌*◌, ◌<◌}
use Rattle.m4_model.specs.Matrix.{at}
use Rattle.m4_model.specs.Text.{words_per_row}
use Rattle.m4_mzd.specs.Seen.{shown}
use Rattle.m4_dense.proofs.equal.have_same_words.Given as goal

abbrev pub invariant-loop-w : goal.invariant-loop-w
invariant-loop-w l = record {
  same : (v j : ℕ) → v < l.w → j < 64 → at (shown l.a) l.r (v * 64 + j) ≡ at (shown l.b) l.r (v * 64 + j);
  all : l.w-end ≡ words_per_row (shown l.a).cols;
}
