use Rattle.std.proofs.Common.{◌≡◌, ◌+◌, ◌-◌, ◌*◌, ◌∙◌, ap, sym, inl, inr, get_or, arith}
use Rattle.std.specs.Int.{bit_at}
use Rattle.std.proofs.lemmas.Bool.{cases_lt}
use Rattle.m4_bits.proofs.TransposeLemmas.{bit_at-shr}
use Rattle.m4_bits.proofs.digits.put_digits.Goals as goal

pub loop-place-preserved : goal.loop-place-preserved
loop-place-preserved c = λ k below.
    let n = 8 * c.loop-place.place in
    elim (cases_lt k n) [
      | inl before ↦ c.put_eight.ensures.before k before ∙ c.loop-place.invariant k before
      | inr past ↦
          let j = k - n in
          let place : n + j ≡ k = omega arith in
          ap (λ i. get_or c.put_eight.new.digits i 0) (sym place) ∙ c.put_eight.ensures.written j (omega arith)
          ∙ ap (λ b. 48 + b) (bit_at-shr c.args.word n j ∙ ap (bit_at c.args.word) place)
    ]
