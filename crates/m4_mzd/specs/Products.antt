-- Rows of bits that hold small numbers side by side, multiplied word by word.
use Rattle.std.specs.Prelude.{◌≡◌, ℕ, ◌+◌, ◌*◌, ◌/◌, ◌%◌, ◌<◌, List, length, slice_index}
use Rattle.std.specs.Int.{bit_at}
use Rattle.m4_bits.specs.Products.{products}

-- The bits ys are those of the products of the words of the bits xs, which are followed by zeros.
pub record AreProducts (n low : ℕ) (patterns xs ys : List ℕ) : Type 0 where
  pub long : length ys ≡ length xs
  pub bits : (word j : ℕ) → j < length xs → ((i : ℕ) → i < 64 → bit_at word i ≡ slice_index xs (j / 64 * 64 + i))
      → slice_index ys j ≡ bit_at (products n low patterns word) (j % 64)
