use Rattle.std.proofs.Common.{◌≡◌}
use Rattle.m4_mzd.specs.Seen.{shown}
use Rattle.m4_karatsuba.proofs.RowLemmas.{rows_from}
use Rattle.m4_karatsuba.proofs.sums.add_rows_from.Given as goal

abbrev pub invariant-loop-r : goal.invariant-loop-r
invariant-loop-r l = l.dst ≡ rows_from l.fn.dst (shown l.src) l.first l.r
