-- A window that was taken out of a matrix, and what lies around it.
use Rattle.std.specs.Prelude.{◌≡◌, ℕ, ◌+◌, ◌-◌, ◌*◌, ◌/◌, ◌%◌, map, take, drop}
use Rattle.m4_model.specs.Matrix.{Matrix}
use Rattle.m4_model.specs.Text.{words_per_row}
use Rattle.m4_area.specs.Rectangle.{Rectangle}
use Rattle.m4_area.specs.Storage.{frame_of}
use Rattle.m4_mzd.specs.Window.{Window}
use Rattle.m4_mzd.specs.Shown.{bits_past}
use Rattle.m4_mzd.specs.Held.{held, IsHeld}
use Rattle.m4_mzd.specs.Rectangles.{IsInside}
use Rattle.m4_mzd.specs.declared.rect.Rect.{Rect}
use Rattle.m4_mzd.specs.declared.mzd.around.Around.{Around}

-- The parts of a rectangle of words: the first r rows and those below, the first w words of each row and the others.
abbrev pub upper : Rectangle → ℕ → Rectangle
upper v r = record v { rows = r; words = take r v.words }

abbrev pub lower : Rectangle → ℕ → Rectangle
lower v r = record v { skip = v.skip + r * v.place.stride; rows = v.rows - r; words = drop r v.words }

abbrev pub lefts : Rectangle → ℕ → Rectangle
lefts v w = record v { width = w; words = map (take w) v.words }

abbrev pub rights : Rectangle → ℕ → Rectangle
rights v w = record v { skip = v.skip + w; width = v.width - w; words = map (drop w) v.words }

-- The rows of a rectangle, and its words from its first column on.
abbrev pub rows_of_rect : Rectangle → Rect → Rectangle
rows_of_rect v rect = lower (upper v rect.r1) rect.r0

abbrev pub words_of_rect : Rectangle → Rect → Rectangle
words_of_rect v rect = lefts (rights (rows_of_rect v rect) (rect.c0 / 64)) (words_per_row (rect.c1 - rect.c0))

-- The window is the rectangle of the matrix A, but for its entries, and the rest of A lies around it.
pub record IsAround (around : Around) (part : Window) (rect : Rect) (A : Matrix) : Type 0 where
  pub whole : Rectangle
  pub matrix : held whole around.cols ≡ A
  pub is_held : IsHeld whole around.cols
  pub inside : IsInside rect A.rows A.cols
  pub whole_words : rect.c0 % 64 ≡ 0
  pub above : around.above ≡ upper (upper whole rect.r1) rect.r0
  pub below : around.below ≡ lower whole rect.r1
  pub left : around.left ≡ lefts (rows_of_rect whole rect) (rect.c0 / 64)
  pub right : around.right ≡ rights (rights (rows_of_rect whole rect) (rect.c0 / 64)) (words_per_row (rect.c1 - rect.c0))
  pub storage : around.storage ≡ frame_of whole
  pub place : part.place ≡ whole.place
  pub skip : part.skip ≡ (words_of_rect whole rect).skip
  pub rows : part.rows ≡ rect.r1 - rect.r0
  pub cols : part.cols ≡ rect.c1 - rect.c0
  pub past : part.past ≡ map (bits_past (rect.c1 - rect.c0)) (words_of_rect whole rect).words

-- The window was taken out of some rectangle of some matrix, of which the rest lies around it.
pub record IsTakenOut (around : Around) (part : Window) : Type 0 where
  pub rect : Rect
  pub matrix : Matrix
  pub is : IsAround around part rect matrix
