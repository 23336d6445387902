use Rattle.std.proofs.Common.{arith}
use Rattle.m4_area.proofs.ViewLemmas.{part_row}
use Rattle.m4_area.proofs.view.View.row.Goals as goal

pub returns-clause-words : goal.returns-clause-words
returns-clause-words c =
    let v = c.args.self in
    part_row v.words.now.words v.first_row v.rows c.args.r v.first_word v.width _ c.row-row.result.now c.requires (omega (arith, v.whole.count)) (omega arith)
    c.row-row.ensures.words
