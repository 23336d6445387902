use Rattle.std.proofs.Common.{◌*◌, take, Ok}
use Rattle.m4_model.specs.Matrix.{row}
use Rattle.m4_text.specs.Pending.{Puts}
use Rattle.m4_text.specs.Reading.{digits_from}
use Rattle.m4_text.proofs.write.put_row.Given as goal

-- the digits of the first w words were put
abbrev pub invariant-loop-w : goal.invariant-loop-w
invariant-loop-w g l =
    let taken = g.O.Sink.taken in
    let faults = g.O.Sink.faults in
    Puts (taken l.fn.sink) (taken l.sink) (faults l.fn.sink) (faults l.sink) l.fn.pending l.pending (Ok tt)
    (digits_from (take (64 * l.w) (row l.m l.r)))
