use Rattle.std.proofs.Common.{◌≡◌, ◌+◌, ◌-◌, length, get_or}
use Rattle.m4_model.specs.Field.{mul, sum_below}
use Rattle.m4_erasure.specs.Shards.{gf256, power}
use Rattle.m4_erasure.proofs.multiples.Multiples.value_of.Given as goal

abbrev pub invariant-loop-i : goal.invariant-loop-i
invariant-loop-i l = l.value ≡ sum_below (length l.stripe - l.i) (λ s. mul gf256 (get_or l.stripe (l.i + s) 0) (power l.self.factor s))
