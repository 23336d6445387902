use Rattle.std.proofs.Common.{◌≡◌, ℕ, ◌<◌, length, get_or}
use Rattle.m4_model.specs.Matrix.{row, with_row}
use Rattle.m4_mzed.specs.EWindow.{content, showing}
use Rattle.m4_mzed.specs.ESeen.{e_shown}
use Rattle.m4_trsm.proofs.Taken.{restored_right}
use Rattle.m4_trsm.proofs.by_rows.solve_row.Given as goal

-- what is left, and what the entries that are done add to it, is what there was
abbrev pub invariant-loop-step : goal.invariant-loop-step
invariant-loop-step l = record {
  stays : l.b ≡ showing l.fn.b (with_row (content l.fn.b) l.r (row (content l.b) l.r));
  long : length (row (content l.b) l.r) ≡ l.fn.b.cols;
  left : (p : ℕ) → p < l.fn.b.cols
      → restored_right l.fn.b.field l.side (e_shown l.t) (row (content l.b) l.r) l.fn.b.cols l.step p ≡ get_or (row (content l.fn.b) l.r) p 0;
}
