use Rattle.m4_mzd.proofs.PartLemmas.{window_left, window_right}
use Rattle.m4_mzd.proofs.win_mut.WinMut.split_cols.Goals as goal

pub returns-clause-left : goal.returns-clause-left
returns-clause-left c =
    window_left c.self.inside.words c.self.inside.cols c.args.c c.args.self c.split_words-left.result.0 c.self.view_is c.requires.within c.requires.whole_words
    c.split_words-left.ensures.left

pub returns-clause-right : goal.returns-clause-right
returns-clause-right c =
    window_right c.self.inside.words c.self.inside.cols c.args.c c.args.self c.split_words-left.result.1 c.self.view_is c.requires.within c.requires.whole_words
    c.split_words-left.ensures.right
