use Rattle.m4_mzd.proofs.WindowLemmas.{IsWindow_shown}
use Rattle.m4_mzd.proofs.win_mut.WinMut.cols.Goals as goal

pub returns-clause-shape : goal.returns-clause-shape
returns-clause-shape c = IsWindow_shown c.self.inside.words c.self.inside.cols c.args.self.now c.self.view_is c.self.invariant
