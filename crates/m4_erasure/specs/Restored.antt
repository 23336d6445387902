-- What a set of shards restores.
use Rattle.std.specs.Prelude.{◌≡◌, ℕ, ◌<◌, ◌≤◌, List, [], map, length, slice_index, slice_index_or}
use Rattle.std.specs.List.{All}
use Rattle.m4_erasure.specs.Shards.{IsCount, AreDiffering, most_source, stripes, value}
use Rattle.m4_erasure.specs.declared.shard.Shard.{Shard}
use Rattle.m4_erasure.specs.declared.shard.Restored.{Restored}
use Rattle.m4_erasure.specs.declared.shard.Restored.TheVariants.{Is, Damaged}

-- The points of shards.
abbrev pub points_of : List Shard → List ℕ
points_of shards = map (λ shard. shard.x) shards

-- Byte t of the values of shard j.
abbrev pub body_byte : List Shard → ℕ → ℕ → ℕ
body_byte shards j t = slice_index (slice_index_or (map (λ shard. shard.body.items) shards) j []) t

-- The shard is one of k for a source of n bytes, and has a value for each stripe.
pub record IsOneOf (k n : ℕ) (shard : Shard) : Type 0 where
  pub count : shard.k ≡ k
  pub len : shard.len ≡ n
  pub long : length shard.body.items ≡ stripes k n

-- They are k shards for a source of one length, with differing points.
pub record AreShards (shards : List Shard) : Type 0 where
  pub count : IsCount (length shards)
  pub len : ℕ
  pub few : len ≤ most_source
  pub each : All (IsOneOf (length shards) len) shards
  pub points : AreDiffering (points_of shards)

-- The source has the length that the shard says, and its values at the shard's point are those of the shard.
pub record HasShard (src : List ℕ) (shard : Shard) : Type 0 where
  pub len : length src ≡ shard.len
  pub body : shard.body.items ≡ value src shard.k shard.x

-- Bytes of which each of them is a shard.
pub record IsSourceOf (shards : List Shard) (src : List ℕ) : Type 0 where
  pub bytes : All (λ byte. byte < 256) src
  pub each : All (HasShard src) shards

-- What is restored from shards is a source of them; they are damaged where they have none.
abbrev pub Restores : List Shard → Restored → Type 0
Restores shards (Is src) = IsSourceOf shards src.items
Restores shards Damaged = (src : List ℕ) → IsSourceOf shards src → ⊥

-- What is restored is this source.
abbrev pub GivesBack : List ℕ → Restored → Type 0
GivesBack src (Is found) = found.items ≡ src
GivesBack src Damaged = ⊥
