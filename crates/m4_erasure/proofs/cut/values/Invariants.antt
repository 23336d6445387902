use Rattle.std.proofs.Common.{◌≡◌, map}
use Rattle.std.specs.List.{range_with_len}
use Rattle.m4_erasure.specs.Shards.{stripe_value}
use Rattle.m4_erasure.proofs.cut.values.Given as goal

abbrev pub invariant-loop-t : goal.invariant-loop-t
invariant-loop-t l = l.body.items ≡ map (stripe_value l.src l.k l.at.factor) (range_with_len 0 l.t)
