use Rattle.std.proofs.Common.{◌≡◌, length, sym, ap, arith}
use Rattle.std.proofs.lemmas.List.Edits.{length-swap}
use Rattle.m4_model.proofs.ExchangeLemmas.{IsOrder-swap}
use Rattle.m4_perm.proofs.perm.Perm.swap.Goals as goal

pub invariant_of-self : goal.invariant_of-self
invariant_of-self c =
    let list = c.self.inside.list.items in
    let same : length c.args.self.now ≡ length list = sym (ap length c.self.view_is) in
    let count = length-swap list c.args.i c.args.j in
    rw c.swap.ensures.items
    (record {
      order = rw count (IsOrder-swap (length list) list c.args.i c.args.j (let h = c.requires.first in omega arith) (let h = c.requires.second in omega arith) c.self.invariant.order);
      short = rw count c.self.invariant.short;
    })
