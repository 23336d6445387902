use Rattle.std.proofs.Common.{◌≡◌, ◌+◌, ◌*◌, inl, inr, refl, arith, ◌∙◌}
use Rattle.std.proofs.lemmas.Bool.{cases_eq}
use Rattle.std.proofs.lemmas.Nat.{mul-le}
use Rattle.m4_bits.proofs.TransposeLemmas.{changed_before, changed_after}
use Rattle.m4_bits.proofs.transpose.exchange_squares.Goals as goal

pub loop-place-preserved : goal.loop-place-preserved
loop-place-preserved c =
    let size = c.args.size in
    let words = c.args.words in
    let place = c.loop-place.place in
    record {
      exchanged = λ p i in_p in_i.
          elim (cases_eq p place) [
            | inl here ↦
                let k = p * (2 * words) + i in
                let second : k + words ≡ p * (2 * words) + words + i = omega arith in
                let first : place * (2 * words) ≡ p * (2 * words) = rw here refl in
                let changed = rw second at (c.exchange_rows.ensures.exchanged k (omega arith) (omega arith)) in
                changed_after size c.args.block.now c.loop-place.block c.exchange_rows.new.block k (p * (2 * words) + words + i) changed
                (c.loop-place.invariant.after k (omega arith)) (c.loop-place.invariant.after (p * (2 * words) + words + i) (omega arith))
            | inr other ↦
                let under = mul-le (p + 1) (2 * words) place (2 * words) (omega (arith, other)) (omega arith) in
                changed_before size c.args.block.now c.loop-place.block c.exchange_rows.new.block (p * (2 * words) + i) (p * (2 * words) + words + i)
                (c.loop-place.invariant.exchanged p i (omega (arith, other)) in_i)
                (c.exchange_rows.ensures.before (p * (2 * words) + i) (omega (arith, under)))
                (c.exchange_rows.ensures.before (p * (2 * words) + words + i) (omega (arith, under)))
          ];
      after = λ i past. c.exchange_rows.ensures.after i (omega arith) ∙ c.loop-place.invariant.after i (omega arith);
    }
