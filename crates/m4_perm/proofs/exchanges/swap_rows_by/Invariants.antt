use Rattle.std.proofs.Common.{◌≡◌, drop}
use Rattle.m4_perm.proofs.RowsLemmas.{rows_after}
use Rattle.m4_perm.proofs.exchanges.swap_rows_by.Given as goal

abbrev pub invariant-loop-i : goal.invariant-loop-i
invariant-loop-i l = record {
  others : l.a ≡ record l.fn.a { bits = l.a.bits };
  same : rows_after l.i (drop l.i l.exchanges) l.a.bits ≡ rows_after 0 l.exchanges l.fn.a.bits;
}
