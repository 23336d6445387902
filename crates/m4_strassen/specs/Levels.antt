-- The windows of a level with what they show, and how the quarters of a window are joined.
use Rattle.std.specs.Prelude.{◌≡◌, ℕ, ◌+◌, ◌++◌}
use Rattle.std.specs.Simd.Lanes.{zip2}
use Rattle.m4_model.specs.Matrix.{Matrix}
use Rattle.m4_model.specs.Recursion.{Quartered}
use Rattle.m4_mzd.specs.Window.{Window, showing}
use Rattle.m4_mzd.specs.Quarters.{AreQuarters}
use Rattle.m4_mzd.specs.Span.{Span, IsFolded, window_words}
use Rattle.m4_strassen.specs.declared.level.Level.{Level}
use Rattle.m4_strassen.specs.declared.level.Written.{Written}

-- The windows of a level have the sides of the quarters of an m x l matrix, an l x n matrix, and their product.
pub record IsLevel (m l n : ℕ) (v : Level) : Type 0 where
  pub s_rows : v.s.rows ≡ m
  pub s_cols : v.s.cols ≡ l
  pub t_rows : v.t.rows ≡ l
  pub t_cols : v.t.cols ≡ n
  pub p_rows : v.p.rows ≡ m
  pub p_cols : v.p.cols ≡ n
  pub u_rows : v.u.rows ≡ m
  pub u_cols : v.u.cols ≡ n

-- The quarters have the sides of m x n matrices.
pub record HaveSides (m n : ℕ) (w : Written) : Type 0 where
  pub first_rows : w.top_left.rows ≡ m
  pub first_cols : w.top_left.cols ≡ n
  pub second_rows : w.top_right.rows ≡ m
  pub second_cols : w.top_right.cols ≡ n
  pub third_rows : w.bottom_left.rows ≡ m
  pub third_cols : w.bottom_left.cols ≡ n
  pub fourth_rows : w.bottom_right.rows ≡ m
  pub fourth_cols : w.bottom_right.cols ≡ n

-- The level with these matrices in its windows. All else stays.
abbrev pub with_matrices : Level → Matrix → Matrix → Matrix → Matrix → Level
with_matrices v S T P U = record { s = showing v.s S; t = showing v.t T; p = showing v.p P; u = showing v.u U }

-- The four windows follow each other in the room's memory, up to where what is left of it begins.
pub record IsCarved (v : Level) (room : Span) : Type 0 where
  pub s_folded : IsFolded v.s room
  pub t_folded : IsFolded v.t room
  pub p_folded : IsFolded v.p room
  pub u_folded : IsFolded v.u room
  pub t_follows : v.t.skip ≡ v.s.skip + window_words v.s
  pub p_follows : v.p.skip ≡ v.t.skip + window_words v.t
  pub u_follows : v.u.skip ≡ v.p.skip + window_words v.p
  pub room_follows : room.skip ≡ v.u.skip + window_words v.u

-- The words of the four windows.
abbrev pub words_of_level : Level → ℕ
words_of_level v = window_words v.s + window_words v.t + window_words v.p + window_words v.u

-- The quarters with these matrices in them. All else stays.
abbrev pub with_quarters : Written → Quartered → Written
with_quarters w X = record {
  top_left = showing w.top_left X.top_left;
  top_right = showing w.top_right X.top_right;
  bottom_left = showing w.bottom_left X.bottom_left;
  bottom_right = showing w.bottom_right X.bottom_right;
}

-- The quarters touch each other as those of one window do.
abbrev pub Touch : Written → Type 0
Touch w = AreQuarters w.top_left w.top_right w.bottom_left w.bottom_right

-- That window.
abbrev pub unquartered : Written → Window
unquartered w = record w.top_left {
  rows = w.top_left.rows + w.bottom_left.rows;
  cols = w.top_left.cols + w.top_right.cols;
  bits = zip2 (λ l r. l ++ r) w.top_left.bits w.top_right.bits ++ zip2 (λ l r. l ++ r) w.bottom_left.bits w.bottom_right.bits;
  past = w.top_right.past ++ w.bottom_right.past;
}
