-- How a window stands in a rectangle of words: each row in as many words as its columns take.
use Rattle.std.specs.Prelude.{◌≡◌, ℕ, ◌≤◌, List, [], ◌∷◌, ◌++◌, map, take, drop}
use Rattle.std.specs.List.{range_with_len}
use Rattle.std.specs.Int.{bit_at}
use Rattle.m4_model.specs.Text.{words_per_row}
use Rattle.m4_area.specs.Rectangle.{Rectangle, HasShape}
use Rattle.m4_mzd.specs.Window.{Window}
use Rattle.m4_mzd.specs.declared.TheConstants.{MOST_SIDE}

-- The lowest n bits of a word, from the least significant on.
unfoldable pub digits : ℕ → ℕ → List ℕ
digits n word = map (λ i. bit_at word i) (range_with_len 0 n)

-- The bits of a row of words.
abbrev pub bits_of : List ℕ → List ℕ
bits_of [] = []
bits_of (word ∷ words) = digits 64 word ++ bits_of words

-- The bits of its first columns, and those past them.
abbrev pub bits_within : ℕ → List ℕ → List ℕ
bits_within cols words = take cols (bits_of words)

abbrev pub bits_past : ℕ → List ℕ → List ℕ
bits_past cols words = drop cols (bits_of words)

-- The window over the first columns of a rectangle of words.
abbrev pub window : Rectangle → ℕ → Window
window v cols = record {
  place = v.place;
  skip = v.skip;
  rows = v.rows;
  cols = cols;
  bits = map (bits_within cols) v.words;
  past = map (bits_past cols) v.words;
}

-- The rows have as many words as the columns take, and there are not too many of either.
pub record IsFramed (v : Rectangle) (cols : ℕ) : Type 0 where
  pub shape : HasShape v
  pub wide : v.width ≡ words_per_row cols
  pub few_rows : v.rows ≤ MOST_SIDE
  pub few_cols : cols ≤ MOST_SIDE
