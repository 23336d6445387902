use Rattle.m4_mzd.proofs.PartLemmas.{window_beside}
use Rattle.m4_mzd.proofs.win_mut.WinMut.join_cols.Goals as goal

pub returns : goal.returns
returns c =
    window_beside c.self.inside.words c.right.inside.words c.self.inside.cols c.right.inside.cols c.args.self c.args.right c.join_words.result
    c.self.view_is c.right.view_is c.self.invariant c.right.invariant c.requires c.join_words.ensures
