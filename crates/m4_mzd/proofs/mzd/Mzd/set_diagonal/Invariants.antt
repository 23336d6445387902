use Rattle.std.proofs.Common.{◌≡◌}
use Rattle.m4_mzd.proofs.IdentityLemmas.{diagonal}
use Rattle.m4_mzd.proofs.mzd.Mzd.set_diagonal.Given as goal

abbrev pub invariant-loop-i : goal.invariant-loop-i
invariant-loop-i l = record {
  so_far : l.self ≡ diagonal l.fn.self.rows l.i;
  all : l.i-end ≡ l.fn.self.rows;
}
