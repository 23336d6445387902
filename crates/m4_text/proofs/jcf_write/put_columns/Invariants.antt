use Rattle.std.proofs.Common.{◌≡◌, ◌<◌, true, false, [], length, Ok}
use Rattle.m4_model.specs.Matrix.{row}
use Rattle.m4_text.specs.Pending.{Puts}
use Rattle.m4_text.proofs.Columns.{columns_so_far, columns_text}
use Rattle.m4_text.proofs.jcf_write.put_columns.Given as goal

-- the columns of the first c entries were written
abbrev pub invariant-loop-c : goal.invariant-loop-c
invariant-loop-c g l =
    let taken = g.O.Sink.taken in
    let faults = g.O.Sink.faults in
    let columns = columns_so_far (row l.m l.r) l.c in
    record {
      none : l.first ≡ true → columns ≡ [];
      some : l.first ≡ false → 0 < length columns;
      wrote : Puts (taken l.fn.sink) (taken l.sink) (faults l.fn.sink) (faults l.sink) l.fn.pending l.pending (Ok tt) (columns_text columns);
    }
