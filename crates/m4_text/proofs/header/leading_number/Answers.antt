use Rattle.std.proofs.Common.{arith, ◌<◌, ◌^◌, ◌-◌, ◌≡◌, get_or, sym, ap, ◌∙◌, ◌+◌, ◌*◌, decimal}
use Rattle.m4_text.specs.Place.{Lengthens}
use Rattle.m4_text.proofs.Numbers.{spelled_more, small_more, few_digits}
use Rattle.m4_text.proofs.header.leading_number.Goals as goal

-- fewer than nine digits leave room for one more
pub overflow_mul-value : goal.overflow_mul-value
overflow_mul-value c =
    let more : Lengthens c.loop-len.value c.loop-len.len (get_or c.args.bytes.now c.loop-len.len 0) = c.lengthens.ensures.0 c.if-lengthens.true in
    let small : c.loop-len.value < 10 ^ 8 = few_digits _ _ 8 (omega (arith, more.room)) c.loop-len.invariant.small in
    omega arith

pub overflow_add-value : goal.overflow_add-value
overflow_add-value c =
    let more : Lengthens c.loop-len.value c.loop-len.len (get_or c.args.bytes.now c.loop-len.len 0) = c.lengthens.ensures.0 c.if-lengthens.true in
    let small : c.loop-len.value < 10 ^ 8 = few_digits _ _ 8 (omega (arith, more.room)) c.loop-len.invariant.small in
    omega (arith, c.from.ensures, more.digit.1)

pub loop-len-preserved : goal.loop-len-preserved
loop-len-preserved c =
    let bytes = c.args.bytes.now in
    let now = c.loop-len in
    let more : Lengthens now.value now.len (get_or bytes now.len 0) = c.lengthens.ensures.0 c.if-lengthens.true in
    let digit : c.from.result ≡ get_or bytes now.len 0 - 48 = c.from.ensures in
    record {
      within = omega arith;
      few = omega (arith, more.room);
      small = small_more now.value now.len c.from.result now.invariant.small (omega (arith, digit, more.digit.1));
      spelled = λ _. spelled_more bytes now.value now.len c.loop-len-test.true more now.invariant.small now.invariant.few now.invariant.spelled
          ∙ ap (λ d. decimal (10 * now.value + d)) (sym digit);
    }
