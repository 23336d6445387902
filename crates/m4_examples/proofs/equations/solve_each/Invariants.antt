-- The right sides so far are solved.
use Rattle.std.proofs.Common.{take}
use Rattle.m4_examples.specs.Solved.{AreSolved}
use Rattle.m4_examples.proofs.equations.solve_each.Given as goal

abbrev pub invariant-loop-side : goal.invariant-loop-side
invariant-loop-side l = AreSolved l.a (take l.side-index l.sides) l.answers.items
