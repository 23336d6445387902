use Rattle.std.proofs.Common.{refl}
use Rattle.m4_mzd.proofs.SeenLemmas.{shown_whole}
use Rattle.m4_mzd.proofs.win_mut.WinMut.see.Goals as goal

pub returns : goal.returns
returns c = shown_whole c.self.inside.words c.self.inside.cols c.args.self.now _ c.self.view_is refl c.new.ensures.rows c.new.ensures.words
