-- Rows of bits as rows of elements.
use Rattle.std.specs.Prelude.{◌≡◌, ℕ, zero, suc, ◌+◌, ◌*◌, List, [], ◌∷◌, ◌++◌, length, map, take, drop}
use Rattle.std.specs.List.{All, range_with_len}
use Rattle.std.specs.Int.{bit_at}
use Rattle.m4_model.specs.Field.{Field, IsElement}
use Rattle.m4_model.specs.Field.{IsCarried}
use Rattle.m4_mzd.specs.Window.{Window}
use Rattle.m4_model.specs.Field.{width}
use Rattle.m4_mzed.specs.EWindow.{EWindow}

-- The number of the bits, the lowest first.
unfoldable pub number_of : List ℕ → ℕ
number_of [] = 0
number_of (b ∷ bs) = number_of bs * 2 + b

-- The first n elements of a row of bits, each of so many.
unfoldable pub unpacked : ℕ → ℕ → List ℕ → List ℕ
unpacked w zero bits = []
unpacked w (suc n) bits = number_of (take w bits) ∷ unpacked w n (drop w bits)

-- The bits of the elements, so many of each, the lowest first.
unfoldable pub packed : ℕ → List ℕ → List ℕ
packed w [] = []
packed w (x ∷ xs) = map (bit_at x) (range_with_len 0 w) ++ packed w xs

-- The window of elements over a window of bits.
abbrev pub elements : Field → ℕ → Window → EWindow
elements F cols w = record {
  field = F;
  place = w.place;
  skip = w.skip;
  rows = w.rows;
  cols = cols;
  entries = map (unpacked (width F) cols) w.bits;
  past = w.past;
}

-- A row of bits holds so many elements of the field, so that the spare bits of each are 0.
pub record IsPackedRow (F : Field) (cols : ℕ) (bits : List ℕ) : Type 0 where
  pub long : length bits ≡ cols * width F
  pub elements : All (IsElement F) (unpacked (width F) cols bits)

-- What is true of the window of bits.
pub record IsPacked (F : Field) (cols : ℕ) (w : Window) : Type 0 where
  pub carried : IsCarried F
  pub wide : w.cols ≡ cols * width F
  pub count : length w.bits ≡ w.rows
  pub packed : All (IsPackedRow F cols) w.bits
