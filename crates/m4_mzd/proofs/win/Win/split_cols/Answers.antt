use Rattle.std.proofs.Common.{refl}
use Rattle.m4_mzd.proofs.SeenLemmas.{shown_left, shown_right}
use Rattle.m4_mzd.proofs.win.Win.split_cols.Goals as goal

pub returns-clause-left : goal.returns-clause-left
returns-clause-left c =
    shown_left c.args.self _ c.args.c c.requires.within c.requires.whole_words refl c.split_words.ensures.left_rows c.split_words.ensures.left

pub returns-clause-right : goal.returns-clause-right
returns-clause-right c =
    shown_right c.args.self _ c.args.c c.requires.within c.requires.whole_words refl c.split_words.ensures.right_rows c.split_words.ensures.right
