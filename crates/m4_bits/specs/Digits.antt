-- The digits of a word.
use Rattle.std.specs.Prelude.{◌≡◌, ℕ, ◌+◌, ◌⊎◌, List, map}
use Rattle.std.specs.List.{range_with_len, All}
use Rattle.std.specs.Int.{bit_at}

-- The digits `0` and `1` of the lowest n bits of a word, the lowest bit first.
abbrev pub digits_of : ℕ → ℕ → List ℕ
digits_of word n = map (λ k. 48 + bit_at word k) (range_with_len 0 n)

-- Each byte is the digit `0` or `1`.
abbrev pub AreDigits : List ℕ → Type 0
AreDigits bytes = All (λ byte. (byte ≡ 48) ⊎ (byte ≡ 49)) bytes
