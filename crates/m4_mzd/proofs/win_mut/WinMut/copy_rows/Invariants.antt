use Rattle.std.proofs.Common.{◌≡◌}
use Rattle.m4_mzd.specs.Seen.{shown}
use Rattle.m4_mzd.proofs.PairLemmas.{copied}
use Rattle.m4_mzd.proofs.win_mut.WinMut.copy_rows.Given as goal

abbrev pub invariant-loop-r : goal.invariant-loop-r
invariant-loop-r l = record {
  so_far : l.self ≡ copied l.fn.self (shown l.from).entries l.r;
  all : l.r-end ≡ l.fn.self.rows;
}
