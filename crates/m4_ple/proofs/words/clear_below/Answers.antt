use Rattle.std.proofs.Common.{arith}
use Rattle.m4_ple.proofs.WordLemmas.{cleared_to_start, cleared_to_more}
use Rattle.m4_ple.proofs.words.clear_below.Goals as goal

pub loop-i-init : goal.loop-i-init
loop-i-init c = (omega arith, cleared_to_start c.args.r c.args.c c.args.words.now)

pub loop-i-preserved : goal.loop-i-preserved
loop-i-preserved c =
    let low = c.loop-i.invariant.0 in
    let made = c.loop-i.invariant.1 in
    let inside = c.loop-i-test.true in
    let long = made.long in (
      omega (arith, low),
      cleared_to_more c.args.r c.args.c c.loop-i.i c.args.words.now c.loop-i.words c.cleared_word.result made low (omega (arith, inside)) c.cleared_word.ensures,
    )
