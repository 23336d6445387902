-- The memory that a whole rectangle lies in.
use Rattle.std.specs.Prelude.{◌≡◌, ℕ, zero, suc, ◌⊎◌, List, [], ◌∷◌, take, drop}
use Rattle.m4_area.specs.Rectangle.{Place, Rectangle}

-- The frame of a rectangle: all but its words.
pub record Frame : Type 0 where
  pub place : Place
  pub skip : ℕ
  pub rows : ℕ
  pub width : ℕ

abbrev pub frame_of : Rectangle → Frame
frame_of v = record { place = v.place; skip = v.skip; rows = v.rows; width = v.width }

-- Words that lie one after another, as so many rows of this width.
unfoldable pub rows_of : ℕ → ℕ → List ℕ → List (List ℕ)
rows_of zero width words = []
rows_of (suc n) width words = take width words ∷ rows_of n width (drop width words)

-- A whole rectangle begins at the first word of the memory, and its rows follow each other with no gap. One with no
-- words has rows of none, wherever they begin.
pub record IsWhole (f : Frame) : Type 0 where
  pub skip : f.skip ≡ 0
  pub tight : (f.place.stride ≡ f.width) ⊎ (f.width ≡ 0)
