use Rattle.std.proofs.Common.{◌≡◌, ℕ, ◌^◌, ◌<◌, Ok, sym, ◌∙◌, arith, true≢false}
use Rattle.m4_model.specs.Headed.{hexadecimal}
use Rattle.m4_words.proofs.FieldLemmas.{parse-hexadecimal, hexadecimal-some, hexadecimal-none}
use Rattle.m4_words.proofs.field.hexadecimal_of.Goals.{then-number-via-then-number, then-number-via-else-number+then-not-is_hexadecimal}
use Rattle.m4_words.proofs.field.hexadecimal_of.Goals as goal

pub returns-in_default : goal.returns-in_default
returns-in_default c = sym (hexadecimal-none c.args.word.now (λ n small is.
    c.in_default.not-Ok n (parse-hexadecimal n c.args.word.now c.from_str_radix.result (omega (arith, small)) is c.from_str_radix.ensures.value)))

pub returns-then-number : goal.returns-then-number
returns-then-number c = sym (hexadecimal-none c.args.word.now (λ n small is.
    let read : Ok c.in-Ok.number ≡ Ok n = sym c.in-Ok.is ∙ parse-hexadecimal n c.args.word.now c.from_str_radix.result (omega (arith, small)) is c.from_str_radix.ensures.value in
    let number : c.in-Ok.number ≡ n = cc in
    elim c.then-number.branch [
      | then-number-via-then-number w ↦ absurd (let large = w.if-number.true in omega (arith, large, small, number))
      | then-number-via-else-number+then-not-is_hexadecimal w ↦ true≢false (sym (w.is_hexadecimal.ensures.1 (rw number is)) ∙ w.if-not-is_hexadecimal.true)
    ]))

pub returns : goal.returns
returns c = sym (hexadecimal-some c.args.word.now c.in-Ok.number c.if-number.false (c.is_hexadecimal.ensures.0 c.if-not-is_hexadecimal.false))
