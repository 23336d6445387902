use Rattle.std.proofs.Common.{◌≡◌, ℕ, ◌-◌, ◌<◌, ◌≤◌, length, slice_index}
use Rattle.m4_model.specs.Matrix.{at}
use Rattle.m4_mzed.specs.EWindow.{content, showing}
use Rattle.m4_mzed.specs.ESeen.{e_shown}
use Rattle.m4_solve.proofs.gather.gather_columns.Given as goal

abbrev pub invariant-loop-s : goal.invariant-loop-s
invariant-loop-s l = record {
  kept : l.g ≡ showing l.fn.g (content l.g);
  within : l.s ≤ length l.columns;
  columns : (i u : ℕ) → i < l.fn.g.rows → u < l.s → at (content l.g) i u ≡ at (e_shown l.w) i (slice_index l.columns u);
}

abbrev pub decreases-loop-s : goal.decreases-loop-s
decreases-loop-s l = length l.columns - l.s
