use Rattle.std.proofs.Common.{◌≡◌, ℕ, ◌<◌}
use Rattle.m4_model.specs.Matrix.{row}
use Rattle.m4_mzed.specs.EWindow.{content, showing}
use Rattle.m4_ple.specs.Elimination.{cleared}
use Rattle.m4_eple.specs.Clearing.{IsClearing}
use Rattle.m4_eple.proofs.by_tables.clear_by_table.Given as goal

abbrev pub invariant-loop-i : goal.invariant-loop-i
invariant-loop-i l = (l.r < l.i) × (l.a ≡ showing l.fn.a (content l.a))
    × ((inverse : ℕ) → IsClearing l.fn.a.field inverse l.r l.c (row (content l.fn.a) l.r) l.table.row → l.a ≡ showing l.fn.a (cleared inverse l.r l.c l.i (content l.fn.a)))
