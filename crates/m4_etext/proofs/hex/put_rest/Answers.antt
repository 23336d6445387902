use Rattle.std.proofs.Common.{◌≡◌, ℕ, ◌<◌, ◌/◌, ◌%◌, ◌^◌, false, length, get_or, sym, ap, ◌∙◌, inl, inr, set, get_or-set_same, get_or-set_other, ext_get_or, arith}
use Rattle.std.specs.Fmt.{digit_glyph}
use Rattle.std.proofs.lemmas.Bool.{cases_eq}
use Rattle.std.proofs.lemmas.List.{length-set}
use Rattle.std.proofs.lemmas.List.FromFn.{length-map-range_with_len, get_or-map-range_with_len}
use Rattle.m4_etext.proofs.BitRows.{pow_four}
use Rattle.m4_etext.proofs.hex.put_rest.Goals as goal

pub loop-place-preserved : goal.loop-place-preserved
loop-place-preserved c =
    let now = c.loop-place in
    let p = now.place in
    let inside : p < length now.digits = omega (arith, c.loop-place-test.true, now.invariant.long) in
    let here : c.hex_digit.result ≡ digit_glyph false (c.args.word / 16 ^ p % 16) = c.hex_digit.ensures ∙ ap (λ x. digit_glyph false (c.args.word / x % 16)) (pow_four p) in
    record {
      long = length-set now.digits p c.hex_digit.result ∙ now.invariant.long;
      written = λ i below. elim (cases_eq i p) [
        | inl same ↦ ap (λ k. get_or (set now.digits p c.hex_digit.result) k 0) same ∙ get_or-set_same now.digits p c.hex_digit.result 0 inside ∙ here ∙ ap (λ k. digit_glyph false (c.args.word / 16 ^ k % 16)) (sym same)
        | inr other ↦ get_or-set_other now.digits p i c.hex_digit.result 0 other ∙ now.invariant.written i (omega (arith, below, other))
      ];
    }

pub returns : goal.returns
returns c =
    let now = c.loop-place in
    let n = length c.args.digits.now in
    let f : ℕ → ℕ = λ i. digit_glyph false (c.args.word / 16 ^ i % 16) in
    let all = c.loop-place-test.false in
    ext_get_or 0 _ _ (now.invariant.long ∙ sym (length-map-range_with_len f 0 n)) (λ i below.
    now.invariant.written i (omega (arith, below, now.invariant.long, all)) ∙ sym (get_or-map-range_with_len f 0 n i i 0 (omega (arith, below, now.invariant.long)) (omega arith)))
