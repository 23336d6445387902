use Rattle.std.proofs.Common.{◌≡◌, ◌+◌, ◌-◌, ◌*◌, inl, inr, sym, ◌∙◌, ap, arith}
use Rattle.std.specs.Int.{bit_at}
use Rattle.std.proofs.lemmas.Bool.{cases_lt}
use Rattle.std.proofs.lemmas.Nat.Bits.{bit_at-zero}
use Rattle.m4_model.specs.Matrix.{at}
use Rattle.m4_mzd.specs.Seen.{shown}
use Rattle.m4_solve.proofs.ZeroRows.{some_in_word}
use Rattle.m4_solve.proofs.zeros.has_zero_words.Goals as goal

pub returns-then-word-ne0-clause-some : goal.returns-then-word-ne0-clause-some
returns-then-word-ne0-clause-some c told =
    some_in_word (shown c.args.bits.now) c.args.i c.loop-w.w c.word.result c.rows-rows.ensures.matrix c.requires (omega arith) c.if-word-ne0.true c.word.ensures

pub loop-w-preserved : goal.loop-w-preserved
loop-w-preserved c p inside =
    let w = c.loop-w.w in
    elim (cases_lt p (w * 64)) [
      | inl earlier ↦ c.loop-w.invariant p earlier
      | inr from ↦
          let place : w * 64 + (p - w * 64) ≡ p = omega (arith, from) in
          ap (at (shown c.args.bits.now) c.args.i) (sym place)
          ∙ sym (c.word.ensures (p - w * 64) (omega (arith, from, inside)))
          ∙ ap (λ x. bit_at x (p - w * 64)) c.if-word-ne0.false
          ∙ bit_at-zero (p - w * 64)
    ]
