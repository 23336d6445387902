-- What contracts see of a rectangle of words.
use Rattle.std.specs.Prelude.{◌≡◌, ℕ, ◌+◌, ◌*◌, ◌^◌, ◌<◌, List, length}
use Rattle.std.specs.List.{All}

-- Where the words lie that a rectangle is cut from: a block of memory, the byte there at which they begin, and the
-- number of words from one row to the next.
pub record Place : Type 0 where
  pub block : ℕ
  pub base : ℕ
  pub stride : ℕ

-- A rectangle: where it was cut from, the words before its first one, its rows, the words in a row, and the words.
pub record Rectangle : Type 0 where
  pub place : Place
  pub skip : ℕ
  pub rows : ℕ
  pub width : ℕ
  pub words : List (List ℕ)

-- What is true of every rectangle.
pub record HasShape (r : Rectangle) : Type 0 where
  pub strided : 0 < r.place.stride
  pub count : length r.words ≡ r.rows
  pub widths : All (λ row. length row ≡ r.width) r.words
  pub small : r.skip + r.rows * r.place.stride + r.width < 2 ^ 60
