use Rattle.std.proofs.Common.{◌≡◌, ◌+◌, ◌-◌, ◌*◌, ◌/◌, ◌%◌, sym, ap, ◌∙◌, arith}
use Rattle.std.proofs.lemmas.Nat.{mul-mod_second}
use Rattle.m4_mul.proofs.blocks.middle.Goals as goal

pub returns-clause-whole_words : goal.returns-clause-whole_words
returns-clause-whole_words c = λ whole.
    let half = ((c.args.length - 1) / c.args.block + 1) / 2 in
    let none : half * 0 ≡ 0 = omega arith in
    sym (mul-mod_second half c.args.block 64) ∙ ap (λ n. (half * n) % 64) whole ∙ ap (λ n. n % 64) none
