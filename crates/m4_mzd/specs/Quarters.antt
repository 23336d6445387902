-- Windows that touch each other in a matrix.
use Rattle.std.specs.Prelude.{◌≡◌, ◌+◌, ◌*◌, ◌/◌, ◌%◌, ◌≤◌}
use Rattle.m4_mzd.specs.Window.{Window}
use Rattle.m4_mzd.specs.declared.TheConstants.{MOST_SIDE}

-- The second window lies right below the first.
pub record IsBelow (above below : Window) : Type 0 where
  pub place : below.place ≡ above.place
  pub cols : below.cols ≡ above.cols
  pub meets : below.skip ≡ above.skip + above.rows * above.place.stride
  pub few_rows : above.rows + below.rows ≤ MOST_SIDE

-- The second window lies right beside the first, which ends where a word does.
pub record IsBeside (left right : Window) : Type 0 where
  pub place : right.place ≡ left.place
  pub rows : right.rows ≡ left.rows
  pub whole_words : left.cols % 64 ≡ 0
  pub meets : right.skip ≡ left.skip + left.cols / 64
  pub few_cols : left.cols + right.cols ≤ MOST_SIDE

-- Four windows are the quarters of one: top left, top right, bottom left and bottom right.
pub record AreQuarters (top_left top_right bottom_left bottom_right : Window) : Type 0 where
  pub top : IsBeside top_left top_right
  pub bottom : IsBeside bottom_left bottom_right
  pub left : IsBelow top_left bottom_left
  pub right_cols : bottom_right.cols ≡ top_right.cols
