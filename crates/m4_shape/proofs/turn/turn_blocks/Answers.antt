use Rattle.std.proofs.Common.{arith, ◌∙◌}
use Rattle.m4_mzd.specs.Seen.{shown}
use Rattle.m4_shape.proofs.TurnLemmas.{turned_empty, turned_none, turned_more, turned_all}
use Rattle.m4_shape.proofs.turn.turn_blocks.Goals as goal

pub returns-then-cols-eq0 : goal.returns-then-cols-eq0
returns-then-cols-eq0 c = turned_empty c.args.dst.now (shown c.args.a.now) c.rows-rows.ensures.shape.matrix c.requires.rows (omega arith)

pub loop-w-init : goal.loop-w-init
loop-w-init c = turned_none c.args.dst.now (shown c.args.a.now) c.rows-rows.ensures.shape.matrix

pub loop-w-preserved : goal.loop-w-preserved
loop-w-preserved c =
    turned_more c.args.dst.now c.loop-w.dst c.set_words.new.self (shown c.args.a.now) c.loop-w.w c.read_words.new.words c.transpose_64.new.block (omega arith)
    (λ i j below small. c.read_words.ensures i j (omega arith) small) c.transpose_64.ensures c.loop-w.invariant c.set_words.ensures

pub returns : goal.returns
returns c =
    c.loop-w.invariant ∙ turned_all c.args.dst.now (shown c.args.a.now) c.loop-w.w c.requires.rows c.requires.cols (omega arith)
