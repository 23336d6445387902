-- Rows of words of 64 bits: their bits, the bits that a row of columns uses in its last word, and a mask on that word.
use Rattle.std.specs.Prelude.{ℕ, ◌-◌, ◌/◌, ◌%◌, List, [], ◌∷◌, length, bit_and, bit_xor, slice_index, slice_set, ◌==◌, if◌then◌else◌}
use Rattle.std.specs.Int.{bit_at}
use Rattle.m4_model.specs.Matrix.{row_sum}

-- Bit j of a row of words: bit j mod 64, counted from the least significant, of word j div 64.
abbrev pub bit : List ℕ → ℕ → ℕ
bit row j = bit_at (slice_index row (j / 64)) (j % 64)

-- How many bits of its last word a row of columns uses: those past the last multiple of 64, or all 64.
abbrev pub last_bits : ℕ → ℕ
last_bits cols = if cols % 64 == 0 then 64 else cols % 64

-- The words, with the bits of the mask alone left in the last one.
abbrev pub masked : List ℕ → ℕ → List ℕ
masked words mask = slice_set words (length words - 1) (bit_and (slice_index words (length words - 1)) mask)

-- A row with each of the other rows added to it in turn. Of their last words the bits of the mask alone are added.
abbrev pub rows_added : List ℕ → List (List ℕ) → ℕ → List ℕ
rows_added row [] mask = row
rows_added row (x ∷ xs) mask = rows_added (row_sum row (masked x mask)) xs mask

-- The bits of `new` under the mask, and those of `old` elsewhere: to `old` are added the bits under the mask that differ.
abbrev pub merged : ℕ → ℕ → ℕ → ℕ
merged mask old new = bit_xor old (bit_and (bit_xor old new) mask)

-- The words of `new`, but of the last word the bits under the mask alone, with those of `old` elsewhere.
abbrev pub overlaid : List ℕ → List ℕ → ℕ → List ℕ
overlaid old new mask =
    slice_set new (length new - 1) (merged mask (slice_index old (length new - 1)) (slice_index new (length new - 1)))
