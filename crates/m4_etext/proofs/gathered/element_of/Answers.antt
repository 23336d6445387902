use Rattle.m4_etext.proofs.GatheredWords.{spelled_more}
use Rattle.m4_etext.proofs.gathered.element_of.Goals as goal

pub loop-place-preserved : goal.loop-place-preserved
loop-place-preserved c =
    let now = c.loop-place in
    spelled_more c.args.digits.now c.args.start now.place now.x c.value_or_fault.result c.min-x.result now.invariant c.value_or_fault.ensures.value c.value_or_fault.ensures.most c.min-x.ensures
