-- The reduced form in place, and the room that it takes.
use Rattle.std.specs.Prelude.{◌≡◌, ℕ, ◌≤◌, ◌⊎◌, min, List, length}
use Rattle.m4_model.specs.Field.{Field}
use Rattle.m4_model.specs.Matrix.{Matrix}
use Rattle.m4_model.specs.Forms.{IsReduced}
use Rattle.m4_solve.specs.declared.room.Room.{Room}

-- R is the reduced form of A, with these pivots.
pub record IsReducedAt (R A : Matrix) (pivots : List ℕ) : Type 0 where
  pub form : IsReduced R A
  pub at_pivots : form.pivots ≡ pivots

-- Room for a matrix over this field of so many rows and columns.
pub record IsRoomFor (F : Field) (rows cols : ℕ) (room : Room) : Type 0 where
  pub exchanges : length room.exchanges.items ≡ rows
  pub pivots : (length room.pivots.items ≡ rows) ⊎ (cols ≤ length room.pivots.items)
  pub row_rows : room.row.rows ≡ 1
  pub row_cols : room.row.cols ≡ cols
  pub row_over : room.row.field ≡ F
  pub corner_rows : room.corner.rows ≡ min rows cols
  pub corner_cols : room.corner.cols ≡ min rows cols
  pub corner_over : room.corner.field ≡ F
