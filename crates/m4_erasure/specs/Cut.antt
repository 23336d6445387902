-- A shard as contracts see it, and what it is cut from.
use Rattle.std.specs.Prelude.{◌≡◌, ℕ, List, length}
use Rattle.m4_erasure.specs.Shards.{value}
use Rattle.m4_erasure.specs.declared.shard.Shard.{Shard}

-- The shard of the source at x, of which k restore it.
pub record IsShardOf (src : List ℕ) (k x : ℕ) (shard : Shard) : Type 0 where
  pub count : shard.k ≡ k
  pub point : shard.x ≡ x
  pub len : shard.len ≡ length src
  pub body : shard.body.items ≡ value src k x
