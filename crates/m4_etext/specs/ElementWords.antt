-- Words of elements, as they are read from digits.
use Rattle.std.specs.Prelude.{◌≡◌, ℕ, ◌+◌, ◌-◌, ◌*◌, ◌/◌, ◌%◌, ◌^◌, ◌<◌, ◌≤◌, ◌==◌, if◌then◌else◌, List, length, map, slice_index}
use Rattle.std.specs.List.{range_with_len}
use Rattle.m4_mzed.specs.Words.{element}
use Rattle.m4_etext.specs.Place.{IsValue}
use Rattle.m4_etext.specs.Digits.{digit_of_elements}

-- A row with the elements of a word, of w bits each, in the columns of the word with number v, as far as it has them.
abbrev pub with_elements : ℕ → ℕ → ℕ → List ℕ → List ℕ
with_elements w v word entries =
    map (λ c. if c / (64 / w) == v then element w (c % (64 / w)) word else slice_index entries c) (range_with_len 0 (length entries))

-- So many digits from `start` on spell x, unless x is past all elements.
pub record IsSpelled (digits : List ℕ) (start count x : ℕ) : Type 0 where
  pub most : x ≤ 65536
  pub spelled : x < 65536 → (i : ℕ) → i < count → IsValue (slice_index digits (start + i)) (x / 16 ^ (count - 1 - i) % 16)

-- A word has the first m elements that the digits spell, of w bits and k digits each and below `end`, and zeros behind them.
pub record IsWordOfElements (digits : List ℕ) (w k end m word : ℕ) : Type 0 where
  pub elements : (j : ℕ) → j < m → element w j word < end
  pub rest : (j : ℕ) → m ≤ j → element w j word ≡ 0
  pub values : (i : ℕ) → i < m * k → IsValue (slice_index digits i) (digit_of_elements w k word i)
