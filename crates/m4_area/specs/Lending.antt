-- What a rectangle holds once a row that it lent for writing is given back.
use Rattle.std.specs.Prelude.{ℕ, List}
use Rattle.std.specs.Borrow.{Array, Fml, Lends, MutBor, u64}
use Rattle.m4_area.specs.Rows.{with_row}
use Rattle.m4_area.specs.Rectangle.{Rectangle}
use Rattle.m4_area.specs.contracts.words.Words.{the_row}

-- The rectangle, with row r as it was left.
abbrev pub row_left : Rectangle → ℕ → List ℕ → Rectangle
row_left v r new = record v { words = with_row v.words r new }

-- The rectangle ends with row r as it was left.
abbrev pub LendsRow : MutBor Rectangle → ℕ → MutBor (List ℕ) → Fml
LendsRow v r out = Lends the_row (Array u64 0) v out (row_left v.now r)
