use Rattle.m4_erasure.proofs.Places.{IsAddedTo}
use Rattle.m4_erasure.proofs.sums.add_multiple.Given as goal

abbrev pub invariant-loop-t : goal.invariant-loop-t
invariant-loop-t l = IsAddedTo l.t l.k l.i l.multiples.factor l.body l.fn.whole l.whole
