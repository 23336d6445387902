use Rattle.m4_solve.proofs.KernelRows.{ArePartedTo}
use Rattle.m4_solve.proofs.basis.others_below.Given as goal

abbrev pub invariant-loop-j : goal.invariant-loop-j
invariant-loop-j l = ArePartedTo l.rising l.others.items l.next l.j
