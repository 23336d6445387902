use Rattle.std.proofs.Common.{◌≡◌, ℕ, ◌<◌, ◌≤◌}
use Rattle.m4_model.specs.Matrix.{row}
use Rattle.m4_mzed.specs.EWindow.{content, showing}
use Rattle.m4_mzed.specs.ESeen.{e_shown}
use Rattle.m4_trsm.specs.ByRows.{SolvesRow}
use Rattle.m4_trsm.proofs.by_rows.solve_right.Given as goal

-- the first r rows are solved, and the others are as they were
abbrev pub invariant-loop-r : goal.invariant-loop-r
invariant-loop-r l = record {
  stays : l.b ≡ showing l.fn.b (content l.b);
  solved : (i : ℕ) → i < l.r → SolvesRow l.side (e_shown l.t) (row (content l.fn.b) i) (row (content l.b) i);
  rest : (i : ℕ) → l.r ≤ i → row (content l.b) i ≡ row (content l.fn.b) i;
}
