-- What contracts see of a part of a rectangle that is read.
use Rattle.std.specs.Prelude.{ℕ, List, take, drop, map}
use Rattle.m4_area.specs.declared.view.View.{View}

-- The words of so many rows from one row on, and of so many words in each from one word on.
abbrev pub part_of : List (List ℕ) → ℕ → ℕ → ℕ → ℕ → List (List ℕ)
part_of words first_row rows first_word width = map (λ row. take width (drop first_word row)) (take rows (drop first_row words))

-- The words of a view.
abbrev pub seen : View → List (List ℕ)
seen v = part_of v.words.now.words v.first_row v.rows v.first_word v.width
