use Rattle.std.proofs.Common.{◌≡◌}
use Rattle.m4_trsm.proofs.tests.triangle_of.Given as goal

abbrev pub invariant-loop-i : goal.invariant-loop-i
invariant-loop-i l = l.m.field ≡ l.fn.t.field
