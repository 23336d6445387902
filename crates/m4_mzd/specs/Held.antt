-- What a matrix that owns its words holds, and the frame of a window that its words go back from.
use Rattle.std.specs.Prelude.{◌≡◌, ℕ, length, replicate}
use Rattle.std.specs.List.{All}
use Rattle.m4_model.specs.Matrix.{Matrix}
use Rattle.m4_model.specs.Text.{words_per_row}
use Rattle.m4_area.specs.Rectangle.{Rectangle}
use Rattle.m4_area.specs.Storage.{Frame}
use Rattle.m4_mzd.specs.Window.{Window, content}
use Rattle.m4_mzd.specs.Shown.{window, IsFramed}

-- The matrix whose rows lie in a rectangle of words.
abbrev pub held : Rectangle → ℕ → Matrix
held v cols = content (window v cols)

-- Every bit past the last column is 0.
abbrev pub IsPadded : Window → Type 0
IsPadded w = All (λ row. row ≡ replicate (length row) 0) w.past

-- What is true of every matrix that owns its words.
pub record IsHeld (v : Rectangle) (cols : ℕ) : Type 0 where
  pub framed : IsFramed v cols
  pub padded : IsPadded (window v cols)

-- The words of a window: where they lie, and how many.
abbrev pub words_of : Window → Frame
words_of w = record { place = w.place; skip = w.skip; rows = w.rows; width = words_per_row w.cols }
