use Rattle.std.proofs.Common.{◌≡◌, ◌≤◌, ◌+◌, ◌*◌, length, arith}
use Rattle.m4_bits.proofs.EightLemmas.{eight_more_read, eight_more_small}
use Rattle.m4_bits.proofs.digits.word_of_digits.Goals as goal

pub loop-place-preserved : goal.loop-place-preserved
loop-place-preserved c =
    let n = 8 * c.loop-place.place in
    let next : 8 * (c.loop-place.place + 1) ≡ n + 8 = omega arith in
    let within : n + 8 ≤ length c.args.digits.now = omega arith in
    let few : n + 8 ≤ 64 = omega arith in
    rw next
    (record {
      read =
          eight_more_read c.args.digits.now n c.loop-place.word c.in-Some.bits c.loop-place.invariant.small c.in-Some.ensures.small few
          within c.loop-place.invariant.read c.in-Some.ensures.bits;
      small =
          eight_more_small c.args.digits.now n c.loop-place.word c.in-Some.bits c.loop-place.invariant.small c.in-Some.ensures.small few
          within c.loop-place.invariant.read c.in-Some.ensures.bits;
    })
