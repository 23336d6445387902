use Rattle.std.proofs.Common.{◌+◌, ◌*◌}
use Rattle.m4_model.specs.Matrix.{at}
use Rattle.m4_mzd.specs.Seen.{shown}
use Rattle.m4_slice.proofs.LoadLemmas.{GatheredTo}
use Rattle.m4_slice.proofs.load.gathered_word.Given as goal

abbrev pub invariant-loop-q : goal.invariant-loop-q
invariant-loop-q l = GatheredTo l.first l.width l.q (λ j. at (shown l.a) l.r ((l.k * 64 + j) * l.width + l.v)) l.word
