-- The elements of a word.
use Rattle.std.specs.Prelude.{ℕ, ◌*◌, ◌/◌, ◌%◌, ◌^◌, ◌<◌}
use Rattle.m4_model.specs.Field.{Field, IsElement}

-- Element k of a word, of w bits each, counted from the lowest bits.
abbrev pub element : ℕ → ℕ → ℕ → ℕ
element w k word = word / 2 ^ (k * w) % 2 ^ w

-- Each place of a word holds an element of the field, so that its spare bits are 0.
abbrev pub AreElements : Field → ℕ → ℕ → Type 0
AreElements F w word = (k : ℕ) → k < 64 / w → IsElement F (element w k word)
