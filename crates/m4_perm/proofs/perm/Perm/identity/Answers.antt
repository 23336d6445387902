use Rattle.std.proofs.lemmas.List.FromFn.{length-range_with_len}
use Rattle.m4_model.proofs.ExchangeLemmas.{IsOrder-range}
use Rattle.m4_perm.proofs.perm.Perm.identity.Goals as goal

pub invariant_of-result : goal.invariant_of-result
invariant_of-result c =
    rw c.in_ok-identity_list.ensures
    (record {
      order = rw (length-range_with_len 0 c.args.n) (IsOrder-range c.args.n);
      short = rw (length-range_with_len 0 c.args.n) c.ranges.n.fits;
    })
