use Rattle.std.proofs.Common.{◌≡◌, ◌+◌, ◌-◌, ◌*◌, ◌/◌, ◌%◌, ◌^◌, ◌∙◌, false, ap, sym, inl, inr, get_or, arith}
use Rattle.std.specs.Fmt.{digit_glyph}
use Rattle.std.proofs.lemmas.Bool.{cases_lt}
use Rattle.m4_etext.proofs.TurnedWords.{shifted_four}
use Rattle.m4_etext.proofs.hex.put_fours.Goals as goal

pub loop-place-preserved : goal.loop-place-preserved
loop-place-preserved c = λ k below.
    let place = c.loop-place.place in
    let n = 8 * place in
    elim (cases_lt k n) [
      | inl before ↦ c.put_eight.ensures.before k before ∙ c.loop-place.invariant k before
      | inr past ↦
          let j = k - n in
          let here : n + j ≡ k = omega arith in
          ap (λ i. get_or c.put_eight.new.digits i 0) (sym here) ∙ c.put_eight.ensures.written j (omega arith)
          ∙ ap (digit_glyph false) (shifted_four c.args.word place j ∙ ap (λ i. c.args.word / 16 ^ i % 16) here)
    ]
