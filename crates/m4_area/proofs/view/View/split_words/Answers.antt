use Rattle.m4_area.proofs.ViewLemmas.{part_left, part_right}
use Rattle.m4_area.proofs.view.View.split_words.Goals as goal

pub returns-clause-left : goal.returns-clause-left
returns-clause-left c =
    let v = c.args.self in
    part_left v.words.now.words v.first_row v.rows v.first_word v.width c.args.w c.requires

pub returns-clause-right : goal.returns-clause-right
returns-clause-right c =
    let v = c.args.self in
    part_right v.words.now.words v.first_row v.rows v.first_word v.width c.args.w c.requires
