-- Rows of words, as lists.
use Rattle.std.specs.Prelude.{ℕ, List, [], ◌++◌, length, get_or, set, take, drop}

-- The words of row r.
abbrev pub row_of : List (List ℕ) → ℕ → List ℕ
row_of rows r = get_or rows r []

-- The words `new`, brought to the length of the row `old`. A row for writing keeps its length, so there it is `new`.
unfoldable pub refill : List ℕ → List ℕ → List ℕ
refill old new = take (length old) (new ++ drop (length new) old)

-- The rows, with the words of row r written anew. Every other row stays.
abbrev pub with_row : List (List ℕ) → ℕ → List ℕ → List (List ℕ)
with_row rows r new = set rows r (refill (row_of rows r) new)

-- The rows, with two of them swapped.
abbrev pub swapped : List (List ℕ) → ℕ → ℕ → List (List ℕ)
swapped rows r s = set (set rows r (row_of rows s)) s (row_of rows r)
