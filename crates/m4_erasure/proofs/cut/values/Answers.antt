use Rattle.std.proofs.Common.{◌≡◌, ℕ, length, map, ◌++◌, [], ◌∷◌, sym, ◌∙◌, ap, arith}
use Rattle.std.specs.List.{range_with_len}
use Rattle.std.proofs.lemmas.List.FromFn.{map-range_with_len_more}
use Rattle.m4_erasure.specs.Shards.{value, stripes, stripe_value}
use Rattle.m4_erasure.proofs.Values.{whole_stripe, stripe_inside}
use Rattle.m4_erasure.proofs.cut.values.Goals as goal

pub loop-t-preserved : goal.loop-t-preserved
loop-t-preserved c =
    let src = c.args.src.now in
    let f : ℕ → ℕ = stripe_value src c.args.k c.args.at.now.factor in
    let t = c.loop-t.t in
    let inside = stripe_inside (length src) c.args.k t (omega arith) c.loop-t-test.true in
    let one : c.value_of.result ≡ f t = c.value_of.ensures ∙ whole_stripe src c.args.k t c.min-end.result c.args.at.now.factor (omega (arith, c.min-end.ensures, inside)) (omega (arith, c.min-end.ensures)) (omega (arith, c.min-end.ensures)) (λ h. omega (arith, c.min-end.ensures, h)) in
    c.in_ok-push.ensures.items ∙ ap (λ xs. xs ++ c.value_of.result ∷ []) c.loop-t.invariant ∙ ap (λ (v : ℕ). map f (range_with_len 0 t) ++ v ∷ []) one
    ∙ sym (map-range_with_len_more f 0 t t (omega arith))

pub returns : goal.returns
unfolding value
returns c =
    let all : c.loop-t.t ≡ stripes c.args.k (length c.args.src.now) = omega (arith, c.loop-t.auto.t-end, c.loop-t-test.false) in
    c.loop-t.invariant ∙ ap (λ (n : ℕ). map (stripe_value c.args.src.now c.args.k c.args.at.now.factor) (range_with_len 0 n)) all
