-- The factors of the code, as the definitions see them.
use Rattle.std.specs.Prelude.{length}
use Rattle.m4_model.specs.Matrix.{Matrix}
use Rattle.m4_model.specs.Factors.{IsPle, IsPluq}
use Rattle.m4_elim.specs.declared.factors.PleFactors.{PleFactors}
use Rattle.m4_elim.specs.declared.factors.PluqFactors.{PluqFactors}

-- They are a PLE of A.
abbrev pub IsPleOf : Matrix → PleFactors → Type 0
IsPleOf A f = IsPle A f.rows f.pivots.items (length f.pivots.items) f.l f.e

-- They are a PLUQ of A.
abbrev pub IsPluqOf : Matrix → PluqFactors → Type 0
IsPluqOf A f = IsPluq A f.rows f.columns f.rank f.l f.u
