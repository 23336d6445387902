-- Multiples of the values of shards, added to the coefficients of stripes.
use Rattle.std.specs.Prelude.{◌≡◌, ◌≢◌, ℕ, ◌/◌, ◌%◌, ◌<◌, List, length, slice_index, bit_xor}
use Rattle.m4_model.specs.Field.{mul}
use Rattle.m4_model.specs.Matrix.{Matrix, at}
use Rattle.m4_erasure.specs.Shards.{gf256}

-- To coefficient i of each stripe of k bytes the multiple of its value was added, and all others stayed.
pub record IsAddedAt (k i factor : ℕ) (body old new : List ℕ) : Type 0 where
  pub long : length new ≡ length old
  pub own : (p : ℕ) → p < length old → p % k ≡ i → slice_index new p ≡ bit_xor (slice_index old p) (mul gf256 factor (slice_index body (p / k)))
  pub others : (p : ℕ) → p % k ≢ i → slice_index new p ≡ slice_index old p

-- To each coefficient of each stripe was added the multiple of its value by that entry of column j.
pub record IsAddedBy (W : Matrix) (j : ℕ) (body old new : List ℕ) : Type 0 where
  pub long : length new ≡ length old
  pub sums : (p : ℕ) → p < length old → slice_index new p ≡ bit_xor (slice_index old p) (mul gf256 (at W (p % W.rows) j) (slice_index body (p / W.rows)))
