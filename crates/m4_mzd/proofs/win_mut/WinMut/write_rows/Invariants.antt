use Rattle.std.proofs.Common.{◌≡◌, map}
use Rattle.m4_mzd.specs.Shown.{bits_within}
use Rattle.m4_mzd.proofs.PairLemmas.{copied}
use Rattle.m4_mzd.proofs.win_mut.WinMut.write_rows.Given as goal

abbrev pub invariant-loop-r : goal.invariant-loop-r
invariant-loop-r g l = record {
  so_far : l.self ≡ copied l.fn.self (map (bits_within l.fn.self.cols) l.rows) l.r;
  all : l.r-end ≡ l.fn.self.rows;
}
