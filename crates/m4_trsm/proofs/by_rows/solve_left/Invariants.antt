use Rattle.std.proofs.Common.{◌≡◌, ℕ, ◌<◌}
use Rattle.m4_model.specs.Matrix.{at}
use Rattle.m4_mzed.specs.EWindow.{content, showing}
use Rattle.m4_mzed.specs.ESeen.{e_shown}
use Rattle.m4_trsm.proofs.Taken.{restored_left}
use Rattle.m4_trsm.proofs.by_rows.solve_left.Given as goal

-- what is left, and what the rows that are done add to it, is what there was
abbrev pub invariant-loop-step : goal.invariant-loop-step
invariant-loop-step l = record {
  stays : l.b ≡ showing l.fn.b (content l.b);
  left : (p q : ℕ) → p < l.fn.b.rows → q < l.fn.b.cols
      → restored_left l.fn.b.field l.side (e_shown l.t) (content l.b) l.fn.b.rows l.step p q ≡ at (content l.fn.b) p q;
}
