use Rattle.std.proofs.Common.{◌≡◌, ℕ, ◌+◌, ◌*◌, ◌/◌, ◌^◌, ◌<◌, sym, subst, arith, ap, ◌∙◌}
use Rattle.std.proofs.lemmas.List.{length-set}
use Rattle.m4_model.specs.Matrix.{at}
use Rattle.m4_mzd.specs.Seen.{shown}
use Rattle.m4_mul.specs.Parts.{slot_bits}
use Rattle.m4_mul.proofs.GroupLemmas.{index-more}
use Rattle.m4_mul.proofs.index.bytes_of.Goals as goal

pub loop-slot-preserved : goal.loop-slot-preserved
loop-slot-preserved g c =
    let A = shown c.args.a.now in
    let slot = c.loop-slot.slot in
    let first = c.args.first in
    let in_slots : slot < 8 = omega (arith, c.requires.few) in
    let bits : slot_bits 8 64 slot ≡ 8 = omega (arith, in_slots) in
    let P : ℕ → Type 0 = λ n. c.byte_of.result < 2 ^ n in
    record {
      is =
          index-more c.loop-slot.index A c.args.i first 64 8 slot c.byte_of.result (omega (arith, c.loop-slot.invariant.long)) c.loop-slot.invariant.is
          (λ u inside.
          let low : u < 8 = omega (arith, inside, bits) in
          let place : first / 64 * 64 + (slot * 8 + u) ≡ first + slot * 8 + u = omega (arith, c.requires.whole_words) in
          c.byte_of.ensures.bits u low ∙ c.word-word.ensures (slot * 8 + u) (omega (arith, low, in_slots)) ∙ ap (at A c.args.i) place)
          (subst P (sym bits) c.byte_of.ensures.small);
      long = length-set c.loop-slot.index slot c.byte_of.result ∙ c.loop-slot.invariant.long;
    }
