-- A table of all multiples of one row.
use Rattle.std.specs.Prelude.{◌≡◌, ℕ, ◌+◌, ◌-◌, ◌*◌, ◌^◌, ◌<◌, ◌≤◌, List, min, take, if◌then◌else◌, nat_le}
use Rattle.m4_model.specs.Field.{Field, IsCarried}
use Rattle.m4_model.specs.Matrix.{Matrix, row}
use Rattle.m4_mzed.specs.Rows.{multiples}

-- The field, how many columns the row may have, and the row whose multiples the table has: the empty row at first.
pub record Filled : Type 0 where
  pub field : Field
  pub cols : ℕ
  pub row : List ℕ

-- How many entries there are: one for each number of the lowest 8 bits of an element, and one for each of the others.
abbrev pub entries_for : ℕ → ℕ
entries_for degree = if nat_le degree 8 then 2 ^ degree else 256 + 2 ^ (degree - 8)

-- Of so many columns, entry x is the row times x, and entry 256 + x, over a field of a degree above 8, the row times 256 x. The
-- row itself is entry 1.
pub record IsNjTable (entries : Matrix) (filled : ℕ) : Type 0 where
  pub carried : IsCarried entries.field
  pub rows : entries.rows ≡ entries_for entries.field.degree
  pub few : filled ≤ entries.cols
  pub low : (x : ℕ) → x < 2 ^ min entries.field.degree 8 → take filled (row entries x) ≡ multiples entries.field x (take filled (row entries 1))
  pub high : (x : ℕ) → 8 < entries.field.degree → x < 2 ^ (entries.field.degree - 8)
      → take filled (row entries (256 + x)) ≡ multiples entries.field (x * 2 ^ 8) (take filled (row entries 1))

-- What contracts see of a table.
abbrev pub filled_of : Matrix → ℕ → Filled
filled_of entries filled = record { field = entries.field; cols = entries.cols; row = take filled (row entries 1) }
