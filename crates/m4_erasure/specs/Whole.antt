-- The coefficients of all stripes, with those that fill the last one.
use Rattle.std.specs.Prelude.{◌≡◌, ℕ, ◌*◌, ◌/◌, ◌%◌, ◌<◌, ◌≤◌, List, length, slice_index}
use Rattle.std.specs.List.{All}
use Rattle.m4_model.specs.Field.{sum_below, mul}
use Rattle.m4_model.specs.Matrix.{Matrix, at}
use Rattle.m4_erasure.specs.Shards.{gf256}
use Rattle.m4_erasure.specs.Restored.{body_byte}
use Rattle.m4_erasure.specs.declared.shard.Shard.{Shard}

-- There are so many coefficients as values and shards say.
abbrev pub AreLong : ℕ → List Shard → Type 0
AreLong n shards = All (λ shard. n ≡ length shard.body.items * length shards) shards

-- Each coefficient is the product of its row of W and the values of the first so many shards for its stripe.
pub record IsWhole (W : Matrix) (count : ℕ) (shards : List Shard) (n : ℕ) (whole : List ℕ) : Type 0 where
  pub long : length whole ≡ n
  pub sums : (p : ℕ) → p < n → slice_index whole p ≡ sum_below count (λ s. mul gf256 (at W (p % length shards) s) (body_byte shards s (p / length shards)))

-- All bytes from this place on are 0.
abbrev pub IsPadded : ℕ → List ℕ → Type 0
IsPadded len whole = (p : ℕ) → len ≤ p → p < length whole → slice_index whole p ≡ 0
