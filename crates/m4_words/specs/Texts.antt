-- The words of the code, as the definitions see them.
use Rattle.std.specs.Prelude.{List, ℕ, map, String, string_bytes}
use Rattle.std.specs.declared.alloc.Global.{Global}

-- The bytes of each word.
abbrev pub texts : List (String Global) → List (List ℕ)
texts words = map string_bytes words
