-- Words of small numbers, each multiplied by one factor.
use Rattle.std.specs.Prelude.{ℕ, ◌-◌, ◌*◌, ◌/◌, ◌%◌, ◌^◌, List, map, bit_and, slice_index}
use Rattle.m4_model.specs.Field.{sum_below}
use Rattle.m4_bits.specs.Bits.{masked}

-- A word of 64 bits with n ones in place of each one of `ones`, which are so far apart: from its place on.
abbrev pub filled : ℕ → ℕ → ℕ
filled n ones = ones * (2 ^ n - 1) % 2 ^ 64

-- The sum, for each i below n, of the bits of pattern i where n places are filled from each one of `low` on above which by i
-- the word has a one.
unfoldable pub products : ℕ → ℕ → List ℕ → ℕ → ℕ
products n low patterns word = sum_below n (λ i. bit_and (filled n (bit_and (word / 2 ^ i) low)) (slice_index patterns i))

-- Those of the words of a row, of whose last word the bits of the mask are taken.
abbrev pub row_products : ℕ → ℕ → List ℕ → List ℕ → ℕ → List ℕ
row_products n low patterns words mask = map (products n low patterns) (masked words mask)
