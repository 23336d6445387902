-- Where the generator stands, and the bits that its words give to a matrix.
use Rattle.std.specs.Prelude.{◌≡◌, ℕ, ◌+◌, ◌*◌, ◌/◌, ◌%◌, ◌^◌, bit_and}
use Rattle.std.specs.Int.{bit_at}
use Rattle.m4_model.specs.Text.{words_per_row}
use Rattle.rand_core.specs.Steps.{stream_of}
use Rattle.rand_xoshiro.specs.SplitMix64.{splitmix_steps}
use Rattle.m4_model.specs.Generated.{word}

-- The generator of the seed has given k words.
abbrev pub HasGiven : ℕ → ℕ → ℕ → Type 0
HasGiven seed k source = stream_of splitmix_steps source ≡ stream_of splitmix_steps ((seed + k * 0x9e3779b97f4a7c15) % 2 ^ 64)

-- Bit p of row i, where a row has n bits and each word is taken under a mask.
abbrev pub masked_bit : ℕ → ℕ → ℕ → ℕ → ℕ → ℕ
masked_bit n mask seed i p = bit_at (bit_and (word seed (i * words_per_row n + p / 64)) mask) (p % 64)
