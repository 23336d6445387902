use Rattle.std.proofs.Common.{sym, subst}
use Rattle.m4_mzed.specs.Owned.{IsPadded}
use Rattle.m4_eple.proofs.tests.pluq_over_gf4.Goals as goal

pub put_all-requires-clause-padded : goal.put_all-requires-clause-padded
put_all-requires-clause-padded g c = subst IsPadded (sym c.pluq-rank.ensures.kept) c.all_mut-all.ensures.padded

pub put_all-requires-2-clause-padded : goal.put_all-requires-2-clause-padded
put_all-requires-2-clause-padded g c = subst IsPadded (sym c.pluq-rank.ensures.spare) c.all_mut-spare.ensures.padded
