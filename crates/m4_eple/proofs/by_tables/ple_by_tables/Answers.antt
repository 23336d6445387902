use Rattle.std.proofs.Common.{refl, sym, arith}
use Rattle.m4_eple.proofs.by_tables.ple_by_tables.Goals as goal

pub returns-clause-same : goal.returns-clause-same
returns-clause-same c = sym (c.ple_by_columns.ensures.serves c.args.base.now 0 (refl, omega arith)).0
