use Rattle.std.proofs.Common.{◌∙◌}
use Rattle.m4_mzd.specs.Seen.{shown}
use Rattle.m4_karatsuba.proofs.RowLemmas.{copied_sum}
use Rattle.m4_karatsuba.proofs.sums.set_sum.Goals as goal

pub returns : goal.returns
returns c = c.add_rows_from.ensures ∙ copied_sum c.args.sum.now c.copy_rows.new.self (shown c.args.low.now) (shown c.args.high.now) c.requires.low_rows c.requires.low_cols c.copy_rows.ensures
