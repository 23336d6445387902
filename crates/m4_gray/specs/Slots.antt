-- Tables of the sums of a few rows.
use Rattle.std.specs.Prelude.{◌≡◌, ℕ, ◌+◌, ◌*◌, ◌^◌, ◌≤◌, List, ◌++◌, length, map, take, drop, slice_index}
use Rattle.std.specs.List.{range_with_len}
use Rattle.std.specs.Int.{bit_at}
use Rattle.m4_model.specs.Field.{gf2, sum_below}
use Rattle.m4_model.specs.Matrix.{Matrix, IsMatrix, matrix_of, row, row_sum, at}
use Rattle.m4_model.specs.Shapes.{replace}
use Rattle.m4_mzd.specs.declared.TheConstants.{MOST_SIDE}
use Rattle.m4_gray.specs.declared.TheConstants.{MOST_K, MOST_TABLES}

-- So many tables of 2^k entries each: the entries of all of them are the rows of a matrix, slot after slot.
pub record Slots : Type 0 where
  pub k : ℕ
  pub count : ℕ
  pub entries : Matrix

-- What is true of all tables.
pub record IsSlots (t : Slots) : Type 0 where
  pub some_bits : 1 ≤ t.k
  pub few_bits : t.k ≤ MOST_K
  pub some : 1 ≤ t.count
  pub few : t.count ≤ MOST_TABLES
  pub matrix : IsMatrix t.entries
  pub over_gf2 : t.entries.field ≡ gf2
  pub rows : t.entries.rows ≡ t.count * 2 ^ t.k
  pub few_cols : t.entries.cols ≤ MOST_SIDE

-- The first columns of entry x of a slot.
abbrev pub entry : Slots → ℕ → ℕ → ℕ → List ℕ
entry t cols slot x = take cols (row t.entries (slot * 2 ^ t.k + x))

-- The entries with these numbers, one of each slot from the first on.
abbrev pub picked : Slots → ℕ → List ℕ → List (List ℕ)
picked t cols index = map (λ slot. entry t cols slot (slice_index index slot)) (range_with_len 0 (length index))

-- In column j the sum of the rows first + i of B over the set bits i of x, of its lowest bits.
abbrev pub subset_sum : Matrix → ℕ → ℕ → ℕ → ℕ → ℕ
subset_sum B first bits x j = sum_below bits (λ i. bit_at x i * at B (first + i) j)

-- Row x is the sum for the set bits of x, for each x of so many bits.
abbrev pub subset_sums : Matrix → ℕ → ℕ → Matrix
subset_sums B first bits = matrix_of gf2 (2 ^ bits) B.cols (subset_sum B first bits)

-- Each row with the row v added.
abbrev pub each_added : List ℕ → List (List ℕ) → List (List ℕ)
each_added v rows = map (λ xs. row_sum xs v) rows

-- The first n rows, behind them the same with the row v added, and behind these the rows that stood there.
abbrev pub doubled : ℕ → List ℕ → List (List ℕ) → List (List ℕ)
doubled n v rows = take n rows ++ (each_added v (take n rows) ++ drop n (drop n rows))

-- The tables with these rows for the first entries of a slot, in their first columns.
abbrev pub filled : Slots → ℕ → Matrix → Slots
filled t slot sums = record t { entries = replace t.entries (slot * 2 ^ t.k) 0 sums }
