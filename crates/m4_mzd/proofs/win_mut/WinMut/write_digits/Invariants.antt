use Rattle.std.proofs.Common.{◌≡◌, map}
use Rattle.m4_mzd.specs.Rows.{bits_of_digits}
use Rattle.m4_mzd.proofs.PairLemmas.{copied}
use Rattle.m4_mzd.proofs.win_mut.WinMut.write_digits.Given as goal

abbrev pub invariant-loop-r : goal.invariant-loop-r
invariant-loop-r g l = record {
  so_far : l.self ≡ copied l.fn.self (map bits_of_digits l.rows) l.r;
  all : l.r-end ≡ l.fn.self.rows;
}
