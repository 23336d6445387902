-- What contracts see of the engine that multiplies by tables.
use Rattle.std.specs.Prelude.{ℕ}

-- How many columns its products may have, and that it has so many tables of 2^k entries.
pub record Sizes : Type 0 where
  pub cols : ℕ
  pub k : ℕ
  pub tables : ℕ
