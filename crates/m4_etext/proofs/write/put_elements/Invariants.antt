use Rattle.std.proofs.Common.{◌*◌, take, Ok}
use Rattle.m4_model.specs.Matrix.{row}
use Rattle.m4_model.specs.Headed.{Elements}
use Rattle.m4_etext.specs.Pending.{Puts}
use Rattle.m4_etext.specs.Pieces.{glyphs}
use Rattle.m4_etext.proofs.write.put_elements.Given as goal

-- the digits of the first words were put
abbrev pub invariant-loop-w : goal.invariant-loop-w
invariant-loop-w g l =
    let taken = g.O.Sink.taken in
    let faults = g.O.Sink.faults in
    Puts (taken l.fn.sink) (taken l.sink) (faults l.fn.sink) (faults l.sink) l.fn.pending l.pending (Ok tt)
    (take (l.side * l.count * l.w) (glyphs (Elements l.m.field) (row l.m l.r)))
