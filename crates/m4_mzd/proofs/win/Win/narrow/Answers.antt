use Rattle.std.proofs.Common.{refl, map, take, ap, ◌∙◌}
use Rattle.m4_area.specs.View.{seen}
use Rattle.m4_mzd.proofs.SeenLemmas.{shown_narrow}
use Rattle.m4_mzd.proofs.win.Win.narrow.Goals as goal

pub returns : goal.returns
returns c =
    shown_narrow c.args.self _ c.args.cols c.requires refl c.split_words.ensures.left_rows
    (c.split_words.ensures.left ∙ ap (λ n. map (take n) (seen c.args.self.view)) c.words_for.ensures)
