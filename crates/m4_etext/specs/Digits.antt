-- The hexadecimal digits of words and of elements.
use Rattle.std.specs.Prelude.{ℕ, ◌-◌, ◌/◌, ◌%◌, ◌^◌, false, List, map}
use Rattle.std.specs.List.{range_with_len}
use Rattle.std.specs.Fmt.{digit_glyph}
use Rattle.m4_mzed.specs.Words.{element}

-- The digits of the lowest n fours of bits of a word, the lowest first.
abbrev pub fours_of : ℕ → ℕ → List ℕ
fours_of word n = map (λ i. digit_glyph false (word / 16 ^ i % 16)) (range_with_len 0 n)

-- Digit p of the elements of a word, of w bits and k digits each, the highest digit of each first.
abbrev pub digit_of_elements : ℕ → ℕ → ℕ → ℕ → ℕ
digit_of_elements w k word p = element w (p / k) word / 16 ^ (k - 1 - p % k) % 16

-- The first n of these digits.
abbrev pub elements_of : ℕ → ℕ → ℕ → ℕ → List ℕ
elements_of w k word n = map (λ p. digit_glyph false (digit_of_elements w k word p)) (range_with_len 0 n)
