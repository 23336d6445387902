-- A part of a product, and the tables that it is added by.
use Rattle.std.specs.Prelude.{◌≡◌, ℕ, ◌+◌, ◌-◌, ◌*◌, ◌^◌, ◌<◌, List, min, bit_xor, slice_index}
use Rattle.std.specs.Int.{bit_at}
use Rattle.m4_model.specs.Field.{gf2, sum_below, mul}
use Rattle.m4_model.specs.Matrix.{Matrix, matrix_of, row, at}
use Rattle.m4_gray.specs.Slots.{Slots, entry, subset_sums}

-- The terms of entry (i, j) of the product for so many columns of A from the first on.
abbrev pub part_of_entry : Matrix → Matrix → ℕ → ℕ → ℕ → ℕ → ℕ
part_of_entry A B first width i j = sum_below width (λ t. mul A.field (at A i (first + t)) (at B (first + t) j))

-- C with these terms added to each entry.
abbrev pub with_part : Matrix → Matrix → Matrix → ℕ → ℕ → Matrix
with_part C A B first width = matrix_of gf2 C.rows C.cols (λ i j. bit_xor (at C i j) (part_of_entry A B first width i j))

-- How many columns a slot stands for: k, or those that are left over.
abbrev pub slot_bits : ℕ → ℕ → ℕ → ℕ
slot_bits k width slot = min k (width - slot * k)

-- The first slots stand for the columns from the first on: each has the sums of its rows of B.
pub record IsFilled (t : Slots) (B : Matrix) (first width slots : ℕ) : Type 0 where
  pub sums : (s x : ℕ) → s < slots → x < 2 ^ slot_bits t.k width s
      → entry t B.cols s x ≡ row (subset_sums B (first + s * t.k) (slot_bits t.k width s)) x

-- The tables have the sizes of others.
pub record HasSizes (new old : Slots) : Type 0 where
  pub k : new.k ≡ old.k
  pub count : new.count ≡ old.count
  pub cols : new.entries.cols ≡ old.entries.cols

-- For each slot the entry that stands for row i of A: its bits are the entries of the row in the columns of the slot.
pub record IsIndex (index : List ℕ) (A : Matrix) (i first width k slots : ℕ) : Type 0 where
  pub bits : (s u : ℕ) → s < slots → u < slot_bits k width s → bit_at (slice_index index s) u ≡ at A i (first + s * k + u)
  pub small : (s : ℕ) → s < slots → slice_index index s < 2 ^ slot_bits k width s
