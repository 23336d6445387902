-- Powers of a point in a row of a matrix.
use Rattle.std.specs.Prelude.{◌≡◌, ◌≢◌, ℕ, ◌<◌, ◌≤◌}
use Rattle.m4_model.specs.Matrix.{Matrix, at}
use Rattle.m4_erasure.specs.Shards.{power}

-- The first so many entries of row j are the powers of x, and all else is as it was.
pub record HasPowers (x j count : ℕ) (old new : Matrix) : Type 0 where
  pub field : new.field ≡ old.field
  pub rows : new.rows ≡ old.rows
  pub cols : new.cols ≡ old.cols
  pub own : (i : ℕ) → i < count → at new j i ≡ power x i
  pub later : (i : ℕ) → count ≤ i → at new j i ≡ at old j i
  pub others : (r i : ℕ) → r ≢ j → at new r i ≡ at old r i
