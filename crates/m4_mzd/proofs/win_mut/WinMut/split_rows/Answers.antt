use Rattle.m4_mzd.proofs.WindowLemmas.{window_above, window_below}
use Rattle.m4_mzd.proofs.win_mut.WinMut.split_rows.Goals as goal

pub returns-clause-above : goal.returns-clause-above
returns-clause-above c =
    window_above c.self.inside.words c.self.inside.cols c.args.r c.args.self c.split_rows-above.result.0 c.self.view_is c.split_rows-above.ensures.above

pub returns-clause-below : goal.returns-clause-below
returns-clause-below c =
    window_below c.self.inside.words c.self.inside.cols c.args.r c.args.self c.split_rows-above.result.1 c.self.view_is c.split_rows-above.ensures.below
