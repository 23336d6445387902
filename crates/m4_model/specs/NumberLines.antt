-- Numbers in a line of text.
use Rattle.std.specs.Prelude.{ℕ, List, ◌++◌, flat_map, codes, decimal}

-- Numbers in digits, a space before each.
abbrev pub numbers_text : List ℕ → List ℕ
numbers_text numbers = flat_map (λ n. codes " " ++ decimal n) numbers

-- A line of a name and numbers.
abbrev pub numbers_line : List ℕ → List ℕ → List ℕ
numbers_line name numbers = name ++ (numbers_text numbers ++ codes "\n")
