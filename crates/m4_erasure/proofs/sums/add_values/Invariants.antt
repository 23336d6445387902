use Rattle.m4_erasure.proofs.Places.{IsAddedBelow}
use Rattle.m4_erasure.proofs.sums.add_values.Given as goal

abbrev pub invariant-loop-i : goal.invariant-loop-i
invariant-loop-i l = IsAddedBelow l.i l.inverse l.j l.body l.fn.whole l.whole
