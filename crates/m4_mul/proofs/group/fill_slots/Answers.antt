use Rattle.std.proofs.Common.{◌≡◌, ◌*◌, ◌+◌, ◌-◌, ◌^◌, ◌<◌, ◌≤◌, inl, inr, min, subst, sym, arith, ap, ◌∙◌}
use Rattle.std.proofs.Math.Nat.{mul-le-mul_right}
use Rattle.std.proofs.lemmas.Bool.{cases_lt}
use Rattle.std.proofs.lemmas.Nat.{pow_pos}
use Rattle.m4_mzd.specs.Seen.{shown}
use Rattle.m4_gray.specs.Slots.{Slots, filled, subset_sums}
use Rattle.m4_model.specs.Additions.{additions}
use Rattle.m4_mul.specs.Parts.{IsFilled, slot_bits}
use Rattle.m4_mul.proofs.AdditionsLemmas.{additions-slot}
use Rattle.m4_mul.proofs.GroupLemmas.{filled-more}
use Rattle.m4_mul.proofs.group.fill_slots.Goals as goal

pub loop-slot-preserved : goal.loop-slot-preserved
loop-slot-preserved g c =
    let t = c.loop-slot.tables in
    let B = shown c.args.b.now in
    let first = c.args.first in
    let width = c.args.width in
    let slot = c.loop-slot.slot in
    let k = c.k-k.result in
    let sizes = c.loop-slot.invariant.sizes in
    let same_k : t.k ≡ k = sizes.k ∙ sym c.k-k.ensures.k in
    let before : slot * k < width = c.loop-slot-test.true in
    let some : 0 < k = omega (arith, c.k-k.ensures.k, c.k-k.ensures.shape.some_bits) in
    let bits_k : c.min.result ≡ slot_bits k width slot = omega (arith, c.min.ensures) in
    let filled_by : c.fill.new.self ≡ filled t slot (subset_sums B (first + slot * t.k) (slot_bits t.k width slot)) =
    c.fill.ensures.sums ∙ (λ i. filled t slot (subset_sums B (first + slot * sym same_k i) ((bits_k ∙ ap (λ n. slot_bits n width slot) (sym same_k)) i))) in
    let P : Slots → Type 0 = λ s. IsFilled s B first width (slot + 1) in
    let in_slots : slot < t.count = elim (cases_lt slot t.count) [
      | inl below ↦ below
      | inr past ↦
          let all : t.count * k ≤ slot * k = mul-le-mul_right k past in
          let room : c.args.tables.now.k * c.args.tables.now.count ≡ t.count * k =
          (λ i. sym c.k-k.ensures.k i * sym sizes.count i) ∙ (let turned : k * t.count ≡ t.count * k = omega arith in turned) in
          absurd (omega (arith, all, room, before, c.requires.few))
    ] in
    let wide : B.cols ≤ t.entries.cols = omega (arith, sizes.cols, c.requires.in_cols) in
    let bits = slot_bits k width slot in
    let ticks : additions 0 (min ((slot + 1) * k) width) k ≡ additions 0 (slot * k) k + (2 ^ bits - 1 + 0) = additions-slot 0 width k slot some before in
    let first_slots : min (slot * k) width ≡ slot * k = omega (arith, before) in
    let so_far : additions 0 (min (slot * k) width) k ≡ additions 0 (slot * k) k = ap (λ l. additions 0 l k) first_slots in
    let power : 2 ^ c.min.result ≡ 2 ^ bits = ap (λ n. 2 ^ n) bits_k in
    let positive : 0 < 2 ^ bits = pow_pos bits in
    record {
      filled = subst P (sym filled_by) (filled-more t B first width slot c.cols-cols.ensures.shape c.rows-rows.ensures.matrix in_slots wide c.loop-slot.invariant.filled);
      sizes = record {
        k = ap (λ (s : Slots). s.k) filled_by ∙ sizes.k;
        count = ap (λ (s : Slots). s.count) filled_by ∙ sizes.count;
        cols = ap (λ (s : Slots). s.entries.cols) filled_by ∙ sizes.cols;
      };
      no_more = omega (arith, before);
      ticks = omega (arith, ticks, so_far, power, positive, c.loop-slot.invariant.ticks, c.fill.ensures.ticks);
    }
