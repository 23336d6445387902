use Rattle.std.proofs.Common.{ap, ◌∙◌}
use Rattle.m4_area.specs.View.{part_of}
use Rattle.m4_area.proofs.ViewLemmas.{part_whole}
use Rattle.m4_area.proofs.view.View.new.Goals as goal

pub returns-clause-words : goal.returns-clause-words
returns-clause-words c =
    let v = c.args.words.now in
    ap (λ n. part_of v.words 0 n 0 c.width.result) c.rows.ensures.rows ∙ ap (λ n. part_of v.words 0 v.rows 0 n) c.width.ensures.width ∙ part_whole v c.rows.ensures.shape
