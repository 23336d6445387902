use Rattle.std.proofs.Common.{take, flat_map, Ok}
use Rattle.m4_model.specs.Headed.{line}
use Rattle.m4_etext.specs.Pending.{Puts}
use Rattle.m4_etext.specs.Kinds.{spelled_by}
use Rattle.m4_etext.proofs.write.put_lines.Given as goal

-- the lines of the first r rows were put
abbrev pub invariant-loop-r : goal.invariant-loop-r
invariant-loop-r g l =
    let taken = g.O.Sink.taken in
    let faults = g.O.Sink.faults in
    Puts (taken l.fn.sink) (taken l.sink) (faults l.fn.sink) (faults l.sink) l.fn.pending l.pending (Ok tt) (flat_map (line (spelled_by l.kind l.m.field)) (take l.r l.m.entries))
