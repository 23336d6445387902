-- A list of inverses.
use Rattle.std.specs.Prelude.{◌≡◌, ◌≢◌, ℕ, ◌^◌, ◌<◌, List, length, slice_index}
use Rattle.m4_model.specs.Field.{Field, IsElement, mul}

-- The entry at each element below n that isn't 0 is its inverse.
pub record AreInverses (F : Field) (n : ℕ) (list : List ℕ) : Type 0 where
  pub long : length list ≡ 2 ^ F.degree
  pub inverse : (a : ℕ) → a < n → a ≢ 0 → mul F a (slice_index list a) ≡ 1
  pub element : (a : ℕ) → a < n → a ≢ 0 → IsElement F (slice_index list a)
