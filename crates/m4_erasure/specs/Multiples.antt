-- The multiples of an element by all elements.
use Rattle.std.specs.Prelude.{◌≡◌, ℕ, ◌<◌, List, length, slice_index}
use Rattle.m4_model.specs.Field.{mul}
use Rattle.m4_erasure.specs.Shards.{gf256}

-- The number at each place is the factor times the place.
pub record AreMultiples (factor : ℕ) (table : List ℕ) : Type 0 where
  pub long : length table ≡ 256
  pub product : (a : ℕ) → a < 256 → slice_index table a ≡ mul gf256 factor a
