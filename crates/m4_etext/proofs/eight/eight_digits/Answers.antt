use Rattle.std.proofs.Common.{arith}
use Rattle.m4_etext.proofs.FourLemmas.{digits_spelled, letters_bound, values_bound}
use Rattle.m4_etext.proofs.eight.eight_digits.Goals as goal

pub overflow_mul-result : goal.overflow_mul-result
overflow_mul-result c = let l = letters_bound c.args.fours c.requires in omega (arith, l)

pub overflow_add-result-2 : goal.overflow_add-result-2
overflow_add-result-2 c =
    let l = letters_bound c.args.fours c.requires in
    let v = values_bound c.args.fours c.requires in
    omega (arith, l, v)

pub returns : goal.returns
returns c = digits_spelled c.args.fours c.requires
