use Rattle.std.proofs.Common.{refl}
use Rattle.m4_mzd.proofs.SeenLemmas.{shown_above, shown_below}
use Rattle.m4_mzd.proofs.win.Win.split_rows.Goals as goal

pub returns-clause-above : goal.returns-clause-above
returns-clause-above c = shown_above c.args.self _ c.args.r refl c.split_rows.ensures.above_rows c.split_rows.ensures.above

pub returns-clause-below : goal.returns-clause-below
returns-clause-below c = shown_below c.args.self _ c.args.r refl c.split_rows.ensures.below_rows c.split_rows.ensures.below
