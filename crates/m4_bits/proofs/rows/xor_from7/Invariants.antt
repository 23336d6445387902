use Rattle.std.proofs.Common.{◌*◌, [], ◌∷◌}
use Rattle.m4_bits.proofs.SumLemmas.{Added}
use Rattle.m4_bits.proofs.rows.xor_from7.Given as goal

abbrev pub invariant-loop-block : goal.invariant-loop-block
invariant-loop-block l = Added l.fn.dst l.dst (l.a ∷ l.b ∷ l.c ∷ l.d ∷ l.e ∷ l.f ∷ l.g ∷ []) (l.block * 8)

abbrev pub invariant-loop-k : goal.invariant-loop-k
invariant-loop-k l = Added l.fn.dst l.dst (l.a ∷ l.b ∷ l.c ∷ l.d ∷ l.e ∷ l.f ∷ l.g ∷ []) l.k
