-- What contracts see of a window over any field: a rectangle of entries that may be read and written.
use Rattle.std.specs.Prelude.{◌≡◌, ℕ, ◌+◌, ◌*◌, ◌/◌, ◌%◌, ◌≤◌, List}
use Rattle.m4_model.specs.Field.{Field, width}
use Rattle.m4_model.specs.Matrix.{Matrix}
use Rattle.m4_area.specs.Rectangle.{Place}
use Rattle.m4_mzd.specs.declared.TheConstants.{MOST_SIDE}

-- A window: its field, the memory that it was cut from, the words before its first one there, its rows and columns, the
-- rows of its entries, and for each row the bits past the last column in the row's last word, which belong to others.
pub record EWindow : Type 0 where
  pub field : Field
  pub place : Place
  pub skip : ℕ
  pub rows : ℕ
  pub cols : ℕ
  pub entries : List (List ℕ)
  pub past : List (List ℕ)

-- The matrix that a window stands for.
abbrev pub content : EWindow → Matrix
content w = record { field = w.field; rows = w.rows; cols = w.cols; entries = w.entries }

-- The window with the entries of this matrix. All else stays.
abbrev pub showing : EWindow → Matrix → EWindow
showing w A = record w { entries = A.entries }

-- The second window lies right below the first.
pub record IsBelow (above below : EWindow) : Type 0 where
  pub field : below.field ≡ above.field
  pub place : below.place ≡ above.place
  pub cols : below.cols ≡ above.cols
  pub meets : below.skip ≡ above.skip + above.rows * above.place.stride
  pub few_rows : above.rows + below.rows ≤ MOST_SIDE

-- The second window lies right beside the first, which ends where a word does.
pub record IsBeside (left right : EWindow) : Type 0 where
  pub field : right.field ≡ left.field
  pub place : right.place ≡ left.place
  pub rows : right.rows ≡ left.rows
  pub whole_words : left.cols * width left.field % 64 ≡ 0
  pub meets : right.skip ≡ left.skip + left.cols * width left.field / 64
  pub few_bits : (left.cols + right.cols) * width left.field ≤ MOST_SIDE

-- Four windows are the quarters of one: top left, top right, bottom left and bottom right.
pub record AreQuarters (top_left top_right bottom_left bottom_right : EWindow) : Type 0 where
  pub top : IsBeside top_left top_right
  pub bottom : IsBeside bottom_left bottom_right
  pub left : IsBelow top_left bottom_left
  pub right_cols : bottom_right.cols ≡ top_right.cols
