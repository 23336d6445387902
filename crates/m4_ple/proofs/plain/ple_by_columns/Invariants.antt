use Rattle.std.proofs.Common.{◌≡◌, ℕ, length}
use Rattle.m4_model.specs.Field.{Field}
use Rattle.m4_mzed.specs.EWindow.{content, showing}
use Rattle.m4_ple.specs.Elimination.{IsEliminated}
use Rattle.m4_ple.proofs.plain.ple_by_columns.Given as goal

abbrev pub invariant-loop-c : goal.invariant-loop-c
invariant-loop-c g l = record {
  kept : l.a ≡ showing l.fn.a (content l.a);
  pivots : length l.q ≡ length l.fn.q;
  eliminated : IsEliminated (content l.fn.a) l.p l.q l.rank l.c (content l.a);
  serves : (F : Field) (cols : ℕ) → g.C.ClearBelow.Serves l.fn.with F cols → g.C.ClearBelow.Serves l.with F cols;
}
