use Rattle.std.proofs.Common.{◌+◌, ◌*◌, ◌/◌}
use Rattle.m4_model.specs.Matrix.{at}
use Rattle.m4_mzd.specs.Seen.{shown}
use Rattle.m4_slice.proofs.JoinLemmas.{SpreadTo}
use Rattle.m4_slice.proofs.join.spread_word.Given as goal

abbrev pub invariant-loop-v : goal.invariant-loop-v
invariant-loop-v l = SpreadTo l.width l.v (λ v r. at (shown l.slices) (v * l.rows + l.i) (l.q * (64 / l.width) + r)) l.word
