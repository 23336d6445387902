use Rattle.m4_area.proofs.ViewLemmas.{part_above, part_below}
use Rattle.m4_area.proofs.view.View.split_rows.Goals as goal

pub returns-clause-above : goal.returns-clause-above
returns-clause-above c =
    let v = c.args.self in
    part_above v.words.now.words v.first_row v.rows c.args.r v.first_word v.width c.requires

pub returns-clause-below : goal.returns-clause-below
returns-clause-below c =
    let v = c.args.self in
    part_below v.words.now.words v.first_row v.rows c.args.r v.first_word v.width c.requires
