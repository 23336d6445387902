use Rattle.std.proofs.Common.{◌*◌}
use Rattle.m4_bits.proofs.SetSumLemmas.{AreSums}
use Rattle.m4_bits.proofs.rows.set_sum.Given as goal

abbrev pub invariant-loop-block : goal.invariant-loop-block
invariant-loop-block l = AreSums l.dst l.a l.b (l.block * 8)

abbrev pub invariant-loop-k : goal.invariant-loop-k
invariant-loop-k l = AreSums l.dst l.a l.b l.k
