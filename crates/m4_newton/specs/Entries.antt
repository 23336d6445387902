-- Entries of a table of multiples, in the rows of a window.
use Rattle.std.specs.Prelude.{◌≡◌, ℕ, ◌+◌, ◌-◌, ◌*◌, ◌^◌, ◌<◌, List, min}
use Rattle.m4_model.specs.Matrix.{row}
use Rattle.m4_mzed.specs.EWindow.{EWindow, content, showing}
use Rattle.m4_mzed.specs.Rows.{multiples}

-- So many rows from the base on are the row xs times 0, 1 and so on, times x^shift. Those before stay.
pub record AreEntries (old new : EWindow) (xs : List ℕ) (base shift count : ℕ) : Type 0 where
  pub kept : new ≡ showing old (content new)
  pub entries : (x : ℕ) → x < count → row (content new) (base + x) ≡ multiples old.field (x * 2 ^ shift) xs
  pub before : (i : ℕ) → i < base → row (content new) i ≡ row (content old) i

-- The rows are the entries of a table for the row xs.
pub record AreBoth (old new : EWindow) (xs : List ℕ) : Type 0 where
  pub kept : new ≡ showing old (content new)
  pub low : (x : ℕ) → x < 2 ^ min old.field.degree 8 → row (content new) x ≡ multiples old.field x xs
  pub high : (x : ℕ) → 8 < old.field.degree → x < 2 ^ (old.field.degree - 8) → row (content new) (256 + x) ≡ multiples old.field (x * 2 ^ 8) xs
