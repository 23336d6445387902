-- Bits of one row that were copied into another.
use Rattle.std.specs.Prelude.{◌≡◌, ℕ, ◌+◌, ◌<◌, ◌≤◌, List}
use Rattle.m4_bits.specs.Bits.{bit}

-- So many bits of the new row, from bit `to` on, are those of another from bit `from` on; all others are as in the old row.
pub record AreCopied (old new src : List ℕ) (to from count : ℕ) : Type 0 where
  pub copied : (k : ℕ) → k < count → bit new (to + k) ≡ bit src (from + k)
  pub before : (k : ℕ) → k < to → bit new k ≡ bit old k
  pub after : (k : ℕ) → to + count ≤ k → bit new k ≡ bit old k
