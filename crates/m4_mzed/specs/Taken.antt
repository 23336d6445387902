-- A window that was taken out of a packed matrix, and what lies around it.
use Rattle.std.specs.Prelude.{◌≡◌, ℕ, ◌-◌, ◌*◌, []}
use Rattle.m4_model.specs.Matrix.{Matrix, IsMatrix}
use Rattle.m4_model.specs.Field.{gf2}
use Rattle.m4_model.specs.Field.{width}
use Rattle.m4_mzd.specs.Window.{Window}
use Rattle.m4_mzd.specs.declared.rect.Rect.{Rect}
use Rattle.m4_mzd.specs.declared.mzd.around.Around.{Around}
use Rattle.m4_mzd.specs.Around as around_bits
use Rattle.m4_mzed.specs.EWindow.{EWindow}
use Rattle.m4_mzed.specs.Owned.{e_matrix}
use Rattle.m4_mzed.specs.PackedIn.{IsPackedIn}

-- The rectangle of bits.
abbrev pub scaled : ℕ → Rect → Rect
scaled k rect = record { r0 = rect.r0; c0 = rect.c0 * k; r1 = rect.r1; c1 = rect.c1 * k }

-- The window's place in the bits, without entries.
abbrev pub place_of : EWindow → Window
place_of w = record { place = w.place; skip = w.skip; rows = w.rows; cols = w.cols * width w.field; bits = []; past = w.past }

-- The window is the rectangle of the matrix A, but for its entries, and the rest of A lies around it.
pub record IsAround (around : Around) (part : EWindow) (rect : Rect) (A : Matrix) : Type 0 where
  pub bits : Matrix
  pub shows : e_matrix A.field A.cols bits ≡ A
  pub packed : IsPackedIn A.field A.cols bits
  pub matrix : IsMatrix bits
  pub over : bits.field ≡ gf2
  pub field : part.field ≡ A.field
  pub cols : part.cols ≡ rect.c1 - rect.c0
  pub is : around_bits.IsAround around (place_of part) (scaled (width A.field) rect) bits

-- The window was taken out of some rectangle of some matrix, of which the rest lies around it.
pub record IsTakenOut (around : Around) (part : EWindow) : Type 0 where
  pub rect : Rect
  pub matrix : Matrix
  pub is : IsAround around part rect matrix
