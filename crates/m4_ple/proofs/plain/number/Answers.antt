use Rattle.std.proofs.Common.{◌≡◌, ℕ, ◌+◌, ◌++◌, [], ◌∷◌, sym, ◌∙◌, ap, arith, List}
use Rattle.std.specs.List.{range_with_len}
use Rattle.std.proofs.lemmas.List.{length-set, take_more_set}
use Rattle.m4_perm.proofs.OrderLemmas.{range_more}
use Rattle.m4_ple.proofs.plain.number.Goals as goal

pub loop-i-preserved : goal.loop-i-preserved
loop-i-preserved c =
    let i = c.loop-i.i in
    let long = c.loop-i.invariant.0 in
    let inside = c.loop-i-test.true in (
      length-set c.loop-i.p i i ∙ long,
      take_more_set c.loop-i.p i i (omega (arith, long)) ∙ ap (λ (xs : List ℕ). xs ++ i ∷ []) c.loop-i.invariant.1 ∙ ap (λ (k : ℕ). range_with_len 0 i ++ k ∷ []) (let e : i ≡ 0 + i = omega arith in e) ∙ sym (range_more 0 i),
    )
