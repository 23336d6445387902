use Rattle.std.proofs.Common.{◌≡◌}
use Rattle.m4_mzd.proofs.PairLemmas.{cleared}
use Rattle.m4_mzd.proofs.win_mut.WinMut.clear.Given as goal

abbrev pub invariant-loop-r : goal.invariant-loop-r
invariant-loop-r l = record {
  so_far : l.self ≡ cleared l.fn.self l.r;
  all : l.r-end ≡ l.fn.self.rows;
}
