use Rattle.std.proofs.Common.{◌≡◌, ◌+◌, ◌*◌, ◌/◌, ◌%◌}
use Rattle.m4_model.specs.Matrix.{at}
use Rattle.m4_mzd.specs.Seen.{shown}
use Rattle.m4_slice.proofs.LoadLemmas.{rows_taken}
use Rattle.m4_slice.proofs.load.gather_slices.Given as goal

abbrev pub invariant-loop-p : goal.invariant-loop-p
invariant-loop-p l = l.slices ≡ rows_taken l.fn.slices (λ p j. at (shown l.a) (p % (shown l.a).rows) (j * l.width + p / (shown l.a).rows)) l.p
