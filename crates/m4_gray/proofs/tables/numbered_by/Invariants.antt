use Rattle.m4_gray.proofs.SlotLemmas.{NumberedTo}
use Rattle.m4_gray.proofs.tables.numbered_by.Given as goal

abbrev pub invariant-loop-slot : goal.invariant-loop-slot
invariant-loop-slot g l = NumberedTo l.fn.index l.numbers l.k l.slot
