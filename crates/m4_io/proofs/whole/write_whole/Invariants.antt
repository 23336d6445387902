-- The loop's rest is what is left to write.
use Rattle.std.proofs.Common.{length}
use Rattle.m4_io.proofs.Writing.{WritesSoFar}
use Rattle.m4_io.proofs.whole.write_whole.Given as goal

abbrev pub invariant-loop-rest : goal.invariant-loop-rest
invariant-loop-rest g l =
    WritesSoFar (g.O.Sink.taken l.initial.sink) (g.O.Sink.taken l.sink) (g.O.Sink.faults l.initial.sink) (g.O.Sink.faults l.sink) l.initial.rest l.rest

abbrev pub decreases-loop-rest : goal.decreases-loop-rest
decreases-loop-rest g l = length l.rest
