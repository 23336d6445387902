use Rattle.std.proofs.Common.{arith, ◌∙◌}
use Rattle.m4_mzd.specs.Seen.{shown}
use Rattle.m4_eshape.proofs.NumberLemmas.{fill_words, turned_empty, turned_none, turned_more, turned_all, rows_of_block}
use Rattle.m4_eshape.proofs.turn.turn_in_room.Goals as goal

pub returns-then-cols-eq0 : goal.returns-then-cols-eq0
returns-then-cols-eq0 c =
    turned_empty c.args.width (fill_words c.args.width c.requires.widths).some c.args.dst.now (shown c.args.a.now) c.rows-rows.ensures.shape.matrix c.requires.rows
    (omega (arith, c.cols.ensures.cols, c.if-cols-eq0.true))

pub loop-w-init : goal.loop-w-init
loop-w-init c = turned_none c.args.width c.args.dst.now (shown c.args.a.now) c.rows-rows.ensures.shape.matrix

pub loop-w-preserved : goal.loop-w-preserved
loop-w-preserved c =
    turned_more c.args.width (fill_words c.args.width c.requires.widths) c.args.dst.now c.loop-w.dst c.set_words.new.self (shown c.args.a.now) c.loop-w.w
    c.read_words.new.words c.transpose_numbers.new.block (rows_of_block c.args.width (fill_words c.args.width c.requires.widths) c.args.dst.now.rows (shown c.args.a.now).cols c.requires.rows c.requires.one_block)
    (λ i j below small. c.read_words.ensures i j (omega (arith, below, c.read_words.auto.words, c.loop-w.auto.block, c.requires.room)) small) c.transpose_numbers.ensures c.loop-w.invariant c.set_words.ensures

pub returns : goal.returns
returns c =
    c.loop-w.invariant
    ∙ turned_all c.args.width (fill_words c.args.width c.requires.widths) c.args.dst.now (shown c.args.a.now) c.loop-w.w c.requires.rows c.requires.cols (omega arith)
