use Rattle.std.proofs.Common.{ℕ, List, length, subst}
use Rattle.m4_perm.specs.Perm.{IsInverseOrder}
use Rattle.m4_perm.proofs.OrderLemmas.{inverse_order, permutation_of}
use Rattle.m4_perm.proofs.perm.Perm.invert.Goals as goal

pub invariant_of-result : goal.invariant_of-result
invariant_of-result c =
    let list = c.self.inside.list.items in
    let P : List ℕ → Type 0 = λ p. IsInverseOrder p c.in_ok-inverse_list.field-0.items in
    let inverse = subst P c.deref.ensures.value c.in_ok-inverse_list.ensures in
    permutation_of (length list) c.in_ok-inverse_list.field-0.items
    (inverse_order (length list) list c.in_ok-inverse_list.field-0.items c.self.invariant.order inverse) c.self.invariant.short
