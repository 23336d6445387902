use Rattle.std.proofs.Common.{arith}
use Rattle.m4_erasure.proofs.Places.{added_none, added_more, added_all}
use Rattle.m4_erasure.proofs.sums.add_multiple.Goals as goal

pub loop-t-init : goal.loop-t-init
loop-t-init c = added_none c.args.k c.args.i c.args.multiples.now.factor c.args.body.now c.args.whole.now

pub loop-t-preserved : goal.loop-t-preserved
loop-t-preserved c =
    added_more c.loop-t.t c.args.k c.args.i c.args.multiples.now.factor c.by.result c.args.body.now c.args.whole.now c.loop-t.whole
    c.loop-t.invariant c.requires.within c.loop-t-test.true c.requires.long c.by.ensures

pub returns : goal.returns
returns c =
    added_all c.loop-t.t c.args.k c.args.i c.args.multiples.now.factor c.args.body.now c.args.whole.now c.loop-t.whole
    c.loop-t.invariant (omega arith) c.loop-t-test.false c.requires.long
