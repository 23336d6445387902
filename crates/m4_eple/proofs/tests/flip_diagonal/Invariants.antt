use Rattle.std.proofs.Common.{◌≡◌}
use Rattle.m4_eple.proofs.tests.flip_diagonal.Given as goal

abbrev pub invariant-loop-i : goal.invariant-loop-i
invariant-loop-i l = (l.m.rows ≡ l.fn.m.rows) × (l.m.cols ≡ l.fn.m.cols)
