use Rattle.std.proofs.Common.{◌<◌, ◌^◌, arith}
use Rattle.m4_text.proofs.Numbers.{few_digits}
use Rattle.m4_text.proofs.tokens.number.Goals as goal

pub overflow_mul-value : goal.overflow_mul-value
overflow_mul-value c =
    let small : c.loop-digit.value < 10 ^ 17 = few_digits _ _ 17 (omega arith) c.loop-digit.invariant.small in
    omega arith

pub overflow_add-value : goal.overflow_add-value
overflow_add-value c =
    let small : c.loop-digit.value < 10 ^ 17 = few_digits _ _ 17 (omega arith) c.loop-digit.invariant.small in
    omega (arith, c.from.ensures)
