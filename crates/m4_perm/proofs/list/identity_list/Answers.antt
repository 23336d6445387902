use Rattle.std.proofs.Common.{◌≡◌, ◌+◌, ◌++◌, ◌∷◌, [], ◌∙◌, ap, arith}
use Rattle.std.specs.List.{range_with_len}
use Rattle.m4_perm.proofs.OrderLemmas.{range_more}
use Rattle.m4_perm.proofs.list.identity_list.Goals as goal

pub loop-number-preserved : goal.loop-number-preserved
loop-number-preserved c =
    let number = c.loop-number.number in
    let e : number ≡ 0 + number = omega arith in
    rw (range_more 0 number)
    (c.in_ok-push.ensures.items ∙ ap (λ xs. xs ++ number ∷ []) c.loop-number.invariant ∙ ap (λ x. range_with_len 0 number ++ x ∷ []) e)
