use Rattle.std.proofs.Common.{◌+◌, ◌*◌}
use Rattle.m4_model.specs.Matrix.{at}
use Rattle.m4_mzd.specs.Seen.{shown}
use Rattle.m4_slice.proofs.LoadLemmas.{RowSetTo}
use Rattle.m4_slice.proofs.load.gather_row.Given as goal

abbrev pub invariant-loop-k : goal.invariant-loop-k
invariant-loop-k l = RowSetTo l.fn.slices l.slices l.p l.k (λ j. at (shown l.a) l.r (j * l.width + l.v))
