-- What contracts see of a window: a rectangle of entries that may be read and written.
use Rattle.std.specs.Prelude.{◌≡◌, ℕ, ◌-◌, ◌*◌, ◌≤◌, List, length}
use Rattle.std.specs.List.{All}
use Rattle.m4_model.specs.Field.{gf2}
use Rattle.m4_model.specs.Matrix.{Matrix, IsMatrix}
use Rattle.m4_model.specs.Text.{words_per_row}
use Rattle.m4_area.specs.Rectangle.{Place}
use Rattle.m4_mzd.specs.declared.TheConstants.{MOST_SIDE}

-- A window: the memory that it was cut from, the words before its first one there, its rows and columns, the rows of
-- its entries, and for each row the bits past the last column in the row's last word, which belong to others.
pub record Window : Type 0 where
  pub place : Place
  pub skip : ℕ
  pub rows : ℕ
  pub cols : ℕ
  pub bits : List (List ℕ)
  pub past : List (List ℕ)

-- The matrix that a window stands for.
abbrev pub content : Window → Matrix
content w = record { field = gf2; rows = w.rows; cols = w.cols; entries = w.bits }

-- The window with the entries of this matrix. All else stays.
abbrev pub showing : Window → Matrix → Window
showing w A = record w { bits = A.entries }

-- What is true of every window.
pub record IsWindow (w : Window) : Type 0 where
  pub matrix : IsMatrix (content w)
  pub past_rows : length w.past ≡ w.rows
  pub past_widths : All (λ row. length row ≡ words_per_row w.cols * 64 - w.cols) w.past
  pub few_rows : w.rows ≤ MOST_SIDE
  pub few_cols : w.cols ≤ MOST_SIDE
