use Rattle.std.proofs.Common.{◌≡◌, ◌≢◌, ℕ, ◌≤◌, ⊎_elim, ◌/◌, ◌%◌, ◌<◌, ◌∙◌, List, [], length, get_or, map, refl, sym, ap, ap₂, arith, subst, bit_xor}
use Rattle.m4_model.specs.Field.{sum_below, mul}
use Rattle.m4_model.specs.Matrix.{at}
use Rattle.m4_model.proofs.FieldLemmas.{sum_below-more}
use Rattle.m4_erasure.specs.Shards.{gf256}
use Rattle.std.proofs.lemmas.Bool.{cases_lt, cases_eq}
use Rattle.std.proofs.lemmas.List.{get_or_past, length-map}
use Rattle.m4_erasure.specs.Whole.{IsWhole}
use Rattle.m4_erasure.specs.Restored.{body_byte}
use Rattle.m4_erasure.proofs.PowerRows.{at_shard}
use Rattle.m4_erasure.proofs.source.add_shards.Goals as goal

pub loop-j-init : goal.loop-j-init
unfolding sum_below
loop-j-init c = (record { long = refl; sums = λ p inside. c.requires.zeros p }, λ s t before. absurd (omega (arith, before)))

pub loop-j-preserved : goal.loop-j-preserved
loop-j-preserved c =
    let shards = c.args.shards.now in
    let W = c.args.inverse.now in
    let k = length shards in
    let j = c.loop-j.j in
    let body : get_or (map (λ s. s.body.items) shards) j [] ≡ c.index-shards-j.result.body.items
    = at_shard (λ s. s.body.items) [] shards j c.index-shards-j.result c.loop-j-test.true c.index-shards-j.is in (
      record {
        long = c.add_values.ensures.sums.long ∙ c.loop-j.invariant.0.long;
        sums = λ p inside.
            c.add_values.ensures.sums.sums p (omega (arith, inside, c.loop-j.invariant.0.long))
            ∙ ap (λ (r : ℕ). bit_xor (get_or c.loop-j.whole p 0) (mul gf256 (at W (p % r) j) (get_or c.as_slice.result.now (p / r) 0))) c.requires.rows
            ∙ ap₂ bit_xor (c.loop-j.invariant.0.sums p inside)
            (ap (λ (xs : List ℕ). mul gf256 (at W (p % k) j) (get_or xs (p / k) 0)) (c.as_slice.ensures.value ∙ sym body))
            ∙ sym (sum_below-more j (λ s. mul gf256 (at W (p % k) s) (body_byte shards s (p / k))));
      },
      λ s t before. ⊎_elim
          (λ (same : s ≡ j).
          subst (λ (b : ℕ). b < 256) (ap (λ (xs : List ℕ). get_or xs t 0) (c.as_slice.ensures.value ∙ sym body) ∙ ap (λ (r : ℕ). body_byte shards r t) (sym same))
          (c.add_values.ensures.bytes t))
          (λ (other : s ≢ j). c.loop-j.invariant.1 s t (omega (arith, before, other)))
          (cases_eq s j),
    )

pub returns : goal.returns
returns c = record {
  whole = subst (λ (n : ℕ). IsWhole c.args.inverse.now n c.args.shards.now (length c.args.whole.now) c.loop-j.whole) (omega (arith, c.loop-j-test.false, c.loop-j.auto.j-end)) c.loop-j.invariant.0;
  values = λ s t. ⊎_elim
      (λ (before : s < c.loop-j.j). c.loop-j.invariant.1 s t before)
      (λ (past : c.loop-j.j ≤ s).
      subst (λ (xs : List ℕ). get_or xs t 0 < 256)
      (sym (get_or_past (map (λ s. s.body.items) c.args.shards.now) s [] (let n = length-map c.args.shards.now (λ s. s.body.items) in omega (arith, n, past, c.loop-j-test.false))))
      (omega arith))
      (cases_lt s c.loop-j.j);
}
