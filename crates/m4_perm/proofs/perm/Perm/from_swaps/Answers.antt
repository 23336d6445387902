use Rattle.std.proofs.Common.{◌≡◌, ℕ, length, sym, ap, ◌∙◌, subst}
use Rattle.std.proofs.lemmas.List.FromFn.{length-range_with_len}
use Rattle.m4_model.specs.Shapes.{swaps, exchanged}
use Rattle.m4_model.proofs.ExchangeLemmas.{IsOrder-swaps}
use Rattle.m4_perm.specs.Perm.{AreSwaps}
use Rattle.m4_perm.proofs.OrderLemmas.{permutation_of}
use Rattle.m4_perm.proofs.perm.Perm.from_swaps.Goals as goal

pub exchange_all-list-requires : goal.exchange_all-list-requires
exchange_all-list-requires c =
    let P : ℕ → Type 0 = λ n. AreSwaps n c.args.exchanges.now in
    subst P (sym (ap length c.in_ok-identity_list.ensures ∙ length-range_with_len 0 c.args.n)) c.requires

pub invariant_of-result : goal.invariant_of-result
invariant_of-result c =
    let is : c.exchange_all-list.result.items ≡ swaps c.args.n c.args.exchanges.now =
    c.exchange_all-list.ensures ∙ ap (exchanged 0 c.args.exchanges.now) c.in_ok-identity_list.ensures
    in
    let order = IsOrder-swaps c.args.n c.args.exchanges.now c.requires.count c.requires.below in
    rw is (permutation_of c.args.n (swaps c.args.n c.args.exchanges.now) order c.ranges.n.fits)

pub returns-clause-count : goal.returns-clause-count
returns-clause-count c =
    let is : c.exchange_all-list.result.items ≡ swaps c.args.n c.args.exchanges.now =
    c.exchange_all-list.ensures ∙ ap (exchanged 0 c.args.exchanges.now) c.in_ok-identity_list.ensures
    in
    let order = IsOrder-swaps c.args.n c.args.exchanges.now c.requires.count c.requires.below in
    ap length is ∙ order.count
