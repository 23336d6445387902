use Rattle.std.proofs.Common.{refl, ap, ◌∙◌}
use Rattle.m4_area.specs.Rectangle.{Rectangle}
use Rattle.m4_mzd.specs.Shown.{window}
use Rattle.m4_mzd.specs.Held.{held}
use Rattle.m4_mzd.proofs.SeenLemmas.{shown_whole}
use Rattle.m4_mzd.proofs.mzd.Mzd.all.Goals as goal

pub returns : goal.returns
returns c =
    let v = c.words.result.now in
    shown_whole v c.self.inside.cols (window v c.self.inside.cols) _ refl refl c.new.ensures.rows c.new.ensures.words
    ∙ ap (λ (u : Rectangle). held u c.self.inside.cols) c.words.ensures ∙ c.self.view_is
