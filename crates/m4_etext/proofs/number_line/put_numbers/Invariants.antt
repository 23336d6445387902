use Rattle.std.proofs.Common.{take, Ok}
use Rattle.m4_model.specs.NumberLines.{numbers_text}
use Rattle.m4_etext.specs.Pending.{Puts}
use Rattle.m4_etext.proofs.number_line.put_numbers.Given as goal

-- the first numbers were put
abbrev pub invariant-loop-number : goal.invariant-loop-number
invariant-loop-number g l =
    let taken = g.O.Sink.taken in
    let faults = g.O.Sink.faults in
    Puts (taken l.fn.sink) (taken l.sink) (faults l.fn.sink) (faults l.sink) l.fn.pending l.pending (Ok tt) (numbers_text (take l.number-index l.numbers))
