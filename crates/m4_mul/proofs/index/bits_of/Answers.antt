use Rattle.std.proofs.Common.{◌≡◌, ℕ, ◌^◌, ◌<◌, subst, arith, ◌∙◌}
use Rattle.std.proofs.lemmas.List.{length-set}
use Rattle.m4_mzd.specs.Seen.{shown}
use Rattle.m4_mul.specs.Parts.{slot_bits}
use Rattle.m4_mul.proofs.GroupLemmas.{index-more}
use Rattle.m4_mul.proofs.index.bits_of.Goals as goal

pub loop-slot-preserved : goal.loop-slot-preserved
loop-slot-preserved g c =
    let slot = c.loop-slot.slot in
    let same : c.min.result ≡ slot_bits c.args.k c.args.width slot = omega (arith, c.min.ensures) in
    let P : ℕ → Type 0 = λ n. c.bits.result < 2 ^ n in
    record {
      is =
          index-more c.loop-slot.index (shown c.args.a.now) c.args.i c.args.first c.args.width c.args.k slot c.bits.result (omega (arith, c.loop-slot.invariant.long)) c.loop-slot.invariant.is
          (λ u inside. c.bits.ensures.bits u (omega (arith, inside, same))) (subst P same c.bits.ensures.small);
      long = length-set c.loop-slot.index slot c.bits.result ∙ c.loop-slot.invariant.long;
    }
