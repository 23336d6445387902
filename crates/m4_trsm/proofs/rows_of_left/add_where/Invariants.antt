use Rattle.std.proofs.Common.{◌≡◌}
use Rattle.m4_mzed.specs.EWindow.{content, showing}
use Rattle.m4_mzed.specs.ESeen.{e_shown}
use Rattle.m4_trsm.proofs.RowSteps.{added_where}
use Rattle.m4_trsm.proofs.rows_of_left.add_where.Given as goal

abbrev pub invariant-loop-r : goal.invariant-loop-r
invariant-loop-r l = l.rows ≡ showing l.fn.rows (added_where l.fn.rows.field (content l.fn.rows) (e_shown l.from) (e_shown l.t) l.first l.column l.s l.r)
