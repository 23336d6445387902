use Rattle.std.proofs.Common.{sym, subst}
use Rattle.m4_mzed.specs.Owned.{IsPadded}
use Rattle.m4_eple.proofs.tests.tables_are_alike.Goals as goal

pub put_all-requires-clause-padded : goal.put_all-requires-clause-padded
put_all-requires-clause-padded c = subst IsPadded (sym c.ple_by_halves-rank.ensures.kept) c.all_mut-all.ensures.padded

pub put_all-requires-2-clause-padded : goal.put_all-requires-2-clause-padded
put_all-requires-2-clause-padded c = subst IsPadded (sym c.ple_by_halves-rank.ensures.spare) c.all_mut-spare.ensures.padded

pub put_all-requires-3-clause-padded : goal.put_all-requires-3-clause-padded
put_all-requires-3-clause-padded c = subst IsPadded (sym c.ple_plain-plain_rank.ensures.kept) c.all_mut-whole.ensures.padded
