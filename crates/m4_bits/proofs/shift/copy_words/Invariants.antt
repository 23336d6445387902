use Rattle.std.proofs.Common.{◌*◌}
use Rattle.m4_bits.specs.Shift.{AreCopied}
use Rattle.m4_bits.proofs.shift.copy_words.Given as goal

abbrev pub invariant-loop-k : goal.invariant-loop-k
invariant-loop-k l = AreCopied l.fn.dst l.dst l.src (l.first * 64) l.from (l.k * 64)
