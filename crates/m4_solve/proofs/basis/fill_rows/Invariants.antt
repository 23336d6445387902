use Rattle.std.proofs.Common.{◌≡◌, ◌-◌, ◌≤◌, length}
use Rattle.m4_model.specs.Shapes.{transposed}
use Rattle.m4_mzed.specs.EWindow.{content, showing}
use Rattle.m4_mzed.specs.ESeen.{e_shown}
use Rattle.m4_solve.specs.Kernel.{AreFilledTo}
use Rattle.m4_solve.proofs.basis.fill_rows.Given as goal

abbrev pub invariant-loop-s : goal.invariant-loop-s
invariant-loop-s l = record {
  kept : l.k ≡ showing l.fn.k (content l.k);
  within : l.s ≤ length l.pivots;
  filled : AreFilledTo (transposed (e_shown l.turned)) l.pivots l.free l.s (content l.k);
}

abbrev pub decreases-loop-s : goal.decreases-loop-s
decreases-loop-s l = length l.pivots - l.s
