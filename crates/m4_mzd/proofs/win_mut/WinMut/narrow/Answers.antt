use Rattle.m4_mzd.proofs.PartLemmas.{window_narrow}
use Rattle.m4_mzd.proofs.win_mut.WinMut.narrow.Goals as goal

pub returns : goal.returns
returns c = window_narrow c.self.inside.words c.self.inside.cols c.args.cols c.args.self c.self.view_is c.requires.within
