-- Solves row by row.
use Rattle.std.specs.Prelude.{◌≡◌, ℕ, ◌-◌, ◌<◌, Bool, true, false, List, length, slice_index, if◌then◌else◌}
use Rattle.m4_model.specs.Field.{sum_below, mul}
use Rattle.m4_model.specs.Matrix.{Matrix, at}
use Rattle.m4_trsm.specs.Triangles.{unit_triangle}
use Rattle.m4_trsm.specs.declared.side.Side.{Side}
use Rattle.m4_trsm.specs.declared.side.Side.TheVariants.{Lower, Upper}

-- The place that comes after so many of n, from the first on or from the last on.
abbrev pub place : Bool → ℕ → ℕ → ℕ
place rising n step = if rising then step else n - 1 - step

-- A triangle on the left is solved from its first row on, or from its last; one on the right from its first column on, or
-- from its last.
abbrev pub rises_on_left : Side → Bool
rises_on_left Lower = true
rises_on_left Upper = false

abbrev pub rises_on_right : Side → Bool
rises_on_right Lower = false
rises_on_right Upper = true

-- The row x is as long as the row b, and x times the triangle is b.
pub record SolvesRow (side : Side) (T : Matrix) (b x : List ℕ) : Type 0 where
  pub long : length x ≡ length b
  pub solves : (k : ℕ) → k < length b → sum_below T.rows (λ s. mul T.field (slice_index x s) (at (unit_triangle side T) s k)) ≡ slice_index b k
