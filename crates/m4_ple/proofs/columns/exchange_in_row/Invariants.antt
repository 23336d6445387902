use Rattle.std.proofs.Common.{◌≡◌, drop}
use Rattle.m4_model.specs.Matrix.{row, with_row}
use Rattle.m4_model.specs.Shapes.{exchanged}
use Rattle.m4_mzed.specs.EWindow.{content, showing}
use Rattle.m4_ple.specs.Columns.{exchanged_row}
use Rattle.m4_ple.proofs.columns.exchange_in_row.Given as goal

abbrev pub invariant-loop-k : goal.invariant-loop-k
invariant-loop-k l =
    (l.a ≡ showing l.fn.a (with_row (content l.fn.a) l.i (row (content l.a) l.i)))
    × (exchanged l.k (drop l.k l.pivots) (row (content l.a) l.i) ≡ exchanged_row l.pivots (content l.fn.a) l.i)
