use Rattle.std.proofs.Common.{◌≡◌, ◌-◌, drop}
use Rattle.m4_perm.proofs.RowsLemmas.{rows_back}
use Rattle.m4_perm.proofs.exchanges.swap_rows_back.Given as goal

abbrev pub invariant-loop-done : goal.invariant-loop-done
invariant-loop-done l = l.a ≡ record l.fn.a { bits = rows_back (l.count - l.done) (drop (l.count - l.done) l.exchanges) l.fn.a.bits }
