use Rattle.std.proofs.Common.{◌+◌, subst, sym, arith}
use Rattle.m4_etext.proofs.BitRows.{IsWordOfFours, fours_more, fours_room, moved}
use Rattle.m4_etext.proofs.bits.word_of_each.Goals as goal

pub overflow_add-word : goal.overflow_add-word
overflow_add-word c =
    let now = c.loop-place in
    let v = c.in-Some.value in
    let few = c.requires in
    let inside = c.loop-place-test.true in
    let room = fours_room now.place now.word v (omega (arith, few, inside)) now.invariant.small c.in-Some.ensures.small in
    let m = moved now.place v c.from.result (omega (arith, few, inside)) c.in-Some.ensures.small c.from.ensures in
    omega (arith, room, m)

pub loop-place-preserved : goal.loop-place-preserved
loop-place-preserved c =
    let now = c.loop-place in
    let v = c.in-Some.value in
    let few = c.requires in
    let inside = c.loop-place-test.true in
    let m = moved now.place v c.from.result (omega (arith, few, inside)) c.in-Some.ensures.small c.from.ensures in
    subst (λ x. IsWordOfFours c.args.digits.now (now.place + 1) (now.word + x)) (sym m)
    (fours_more c.args.digits.now now.place now.word v now.invariant c.in-Some.ensures)

pub returns-in-None-clause-other : goal.returns-in-None-clause-other
returns-in-None-clause-other c = λ all. let (v, is) = all c.loop-place.place c.loop-place-test.true in c.in-None.ensures v is
