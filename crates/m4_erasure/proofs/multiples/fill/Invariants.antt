use Rattle.std.proofs.Common.{◌≡◌, ℕ, ◌<◌, length, get_or}
use Rattle.m4_model.specs.Field.{mul}
use Rattle.m4_erasure.specs.Shards.{gf256}
use Rattle.m4_erasure.proofs.multiples.fill.Given as goal

abbrev pub invariant-loop-a : goal.invariant-loop-a
invariant-loop-a l = (length l.table ≡ 256) × ((a : ℕ) → a < l.a → get_or l.table a 0 ≡ mul gf256 l.factor a)
