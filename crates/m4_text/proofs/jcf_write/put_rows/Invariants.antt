use Rattle.std.proofs.Common.{take, flat_map, Ok}
use Rattle.m4_model.specs.Jcf.{line_of_columns, nonzero_columns}
use Rattle.m4_text.specs.Pending.{Puts}
use Rattle.m4_text.proofs.jcf_write.put_rows.Given as goal

-- the lines of the first r rows were put
abbrev pub invariant-loop-r : goal.invariant-loop-r
invariant-loop-r g l =
    let taken = g.O.Sink.taken in
    let faults = g.O.Sink.faults in
    Puts (taken l.fn.sink) (taken l.sink) (faults l.fn.sink) (faults l.sink) l.fn.pending l.pending (Ok tt)
    (flat_map (λ entries. line_of_columns (nonzero_columns 1 entries)) (take l.r l.m.entries))
