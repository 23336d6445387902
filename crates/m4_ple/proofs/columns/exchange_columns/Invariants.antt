use Rattle.std.proofs.Common.{◌≡◌}
use Rattle.m4_mzed.specs.EWindow.{content, showing}
use Rattle.m4_ple.specs.Columns.{with_exchanged}
use Rattle.m4_ple.proofs.columns.exchange_columns.Given as goal

abbrev pub invariant-loop-i : goal.invariant-loop-i
invariant-loop-i l = l.a ≡ showing l.fn.a (with_exchanged l.pivots l.i (content l.fn.a))
