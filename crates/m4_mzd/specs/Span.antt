-- The room that windows are cut from: words that lie side by side.
use Rattle.std.specs.Prelude.{◌≡◌, ℕ, ◌+◌, ◌-◌, ◌*◌, ◌≤◌, max}
use Rattle.m4_model.specs.Text.{words_per_row}
use Rattle.m4_area.specs.Rectangle.{Place, Rectangle}
use Rattle.m4_area.specs.Storage.{Frame}
use Rattle.m4_mzd.specs.Window.{Window}
use Rattle.m4_mzd.specs.declared.TheConstants.{MOST_WORDS}

-- Where the words of a room lie, the words before its first one there, and how many are left. What they hold isn't told.
pub record Span : Type 0 where
  pub place : Place
  pub skip : ℕ
  pub left : ℕ

-- The words that lie in one row of memory.
abbrev pub span_of : Rectangle → Span
span_of v = record { place = v.place; skip = v.skip; left = v.width }

-- They are one row, and not too many.
pub record IsOneRow (v : Rectangle) : Type 0 where
  pub one_row : v.rows ≡ 1
  pub few_words : v.skip + v.width ≤ MOST_WORDS
  pub near : v.place.stride ≤ MOST_WORDS + 1

-- The words of a window with no gap between its rows.
abbrev pub window_words : Window → ℕ
window_words w = w.rows * words_per_row w.cols

-- The rows of the window follow each other with no gap, in the memory of the room.
abbrev pub IsFolded : Window → Span → Type 0
IsFolded w room = w.place ≡ record room.place { stride = max (words_per_row w.cols) 1 }

-- The room without its first words.
abbrev pub without_first : ℕ → Span → Span
without_first words room = record room { skip = room.skip + words; left = room.left - words }

-- The frame of a whole room.
abbrev pub frame_of_room : Span → Frame
frame_of_room room = record { place = room.place; skip = room.skip; rows = 1; width = room.left }
