-- The texts of factors.
use Rattle.std.specs.Prelude.{ℕ, List, length, codes}
use Rattle.m4_model.specs.NumberLines.{numbers_line}
use Rattle.m4_outcome.specs.Outcome.{factors_text}
use Rattle.m4_elim.specs.declared.factors.PleFactors.{PleFactors}
use Rattle.m4_elim.specs.declared.factors.PluqFactors.{PluqFactors}

-- The line of the rows' order.
abbrev pub rows_line : List ℕ → List ℕ
rows_line rows = numbers_line (codes "rows") rows

-- The text of a PLE, and that of a PLUQ.
abbrev pub ple_text : PleFactors → List ℕ
ple_text f = factors_text (length f.pivots.items) f.rows (numbers_line (codes "pivots") f.pivots.items) f.l f.e

abbrev pub pluq_text : PluqFactors → List ℕ
pluq_text f = factors_text f.rank f.rows (numbers_line (codes "columns") f.columns) f.l f.u
