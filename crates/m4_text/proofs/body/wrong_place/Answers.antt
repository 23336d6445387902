use Rattle.std.proofs.Common.{arith}
use Rattle.m4_text.proofs.Lines.{wrong_line}
use Rattle.m4_text.proofs.Bares.{digit_missing}
use Rattle.m4_text.proofs.body.wrong_place.Goals as goal

pub returns-then-is_none : goal.returns-then-is_none
returns-then-is_none c =
    let bytes = c.args.bytes.now in
    let place = c.loop-place.place in
    let lacks = digit_missing bytes place c.binary_digit.result c.if-is_none.ensures c.binary_digit.ensures in
    wrong_line c.args.cols bytes place (omega arith) c.loop-place.invariant.within c.loop-place.invariant.digits
    (λ inside short digit. lacks inside digit) (λ inside full. absurd (omega arith))

pub returns : goal.returns
returns c =
    let bytes = c.args.bytes.now in
    let cols = c.args.cols in
    wrong_line cols bytes cols (omega arith) (omega (arith, c.loop-place.invariant.within)) (λ j below. c.loop-place.invariant.digits j (omega arith))
    (λ inside short. absurd (omega arith))
    (λ inside full last. c.requires (record { inside = inside; digits = λ j below. c.loop-place.invariant.digits j (omega arith); ended = last }))
