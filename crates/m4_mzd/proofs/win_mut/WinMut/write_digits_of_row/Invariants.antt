use Rattle.std.proofs.Common.{◌≡◌}
use Rattle.m4_mzd.specs.Rows.{bits_of_digits}
use Rattle.m4_mzd.proofs.ListedLemmas.{begun}
use Rattle.m4_mzd.proofs.win_mut.WinMut.write_digits_of_row.Given as goal

abbrev pub invariant-loop-c : goal.invariant-loop-c
invariant-loop-c l = record {
  so_far : l.self ≡ begun l.fn.self l.r (bits_of_digits l.digits) l.c;
  all : l.c-end ≡ l.fn.self.cols;
}
