-- What an area holds once a row that it lent for writing is given back.
use Rattle.std.specs.Prelude.{ℕ, List}
use Rattle.std.specs.Borrow.{Array, Fml, Lends, MutBor, u64}
use Rattle.m4_area.specs.Rows.{with_row}
use Rattle.m4_area.specs.declared.area.Area.{Area}
use Rattle.m4_area.specs.contracts.area.Area.{the_row}

-- The area, with row r as it was left.
abbrev pub row_left : Area → ℕ → List ℕ → Area
row_left a r new = record a { rows = with_row a.rows r new }

-- The area ends with row r as it was left.
abbrev pub LendsRow : MutBor Area → ℕ → MutBor (List ℕ) → Fml
LendsRow a r out = Lends the_row (Array u64 0) a out (row_left a.now r)
