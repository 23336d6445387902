use Rattle.std.proofs.Common.{◌*◌, take, Ok}
use Rattle.m4_model.specs.Matrix.{row}
use Rattle.m4_model.specs.Headed.{Fours}
use Rattle.m4_etext.specs.Pending.{Puts}
use Rattle.m4_etext.specs.Pieces.{glyphs}
use Rattle.m4_etext.proofs.write.put_fours.Given as goal

-- the digits of the first groups were put
abbrev pub invariant-loop-w : goal.invariant-loop-w
invariant-loop-w g l =
    let taken = g.O.Sink.taken in
    let faults = g.O.Sink.faults in
    Puts (taken l.fn.sink) (taken l.sink) (faults l.fn.sink) (faults l.sink) l.fn.pending l.pending (Ok tt)
    (take (16 * l.w) (glyphs Fours (row l.m l.r)))
