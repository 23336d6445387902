use Rattle.std.proofs.Common.{sym}
use Rattle.m4_mzed.proofs.SeenLemmas.{seen_bits}
use Rattle.m4_mzed.proofs.win.EWin.into_bits.Goals as goal

pub returns : goal.returns
returns c = sym (seen_bits c.args.self c.rows-rows.ensures.matrix c.rows-rows.ensures.few_rows c.rows-rows.ensures.few_cols c.requires)
