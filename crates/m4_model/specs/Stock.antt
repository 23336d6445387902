-- Files, and what stands in them.
use Rattle.std.specs.Prelude.{ℕ, List, Option, option_map, find, bytes_eq}

-- Files: names with their bytes. Of two with one name the first counts.
abbrev pub Stock : Type 0
Stock = List (List ℕ × List ℕ)

-- The bytes of the file of this name.
abbrev pub bytes_of : Stock → List ℕ → Option (List ℕ)
bytes_of stock name = option_map (λ file. file.1) (find (λ file. bytes_eq file.0 name) stock)
