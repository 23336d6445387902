-- Triangles with ones on their diagonals, told by a square matrix of which only the entries below or above its diagonal
-- count.
use Rattle.std.specs.Prelude.{ℕ, Bool, nat_lt, ◌==◌, if◌then◌else◌}
use Rattle.m4_model.specs.Matrix.{Matrix, matrix_of, at}
use Rattle.m4_trsm.specs.declared.side.Side.{Side}
use Rattle.m4_trsm.specs.declared.side.Side.TheVariants.{Lower, Upper}

-- The place in row i and column j lies below the diagonal, or above it.
abbrev pub is_inside : Side → ℕ → ℕ → Bool
is_inside Lower i j = nat_lt j i
is_inside Upper i j = nat_lt i j

-- T's entry in row i and column j where it lies on this side of the diagonal, else 0.
abbrev pub inside : Side → Matrix → ℕ → ℕ → ℕ
inside side T i j = if is_inside side i j then at T i j else 0

-- The triangle on this side, with ones on its diagonal and zeros on the other side.
abbrev pub unit_triangle : Side → Matrix → Matrix
unit_triangle side T = matrix_of T.field T.rows T.cols (λ i j. if i == j then 1 else inside side T i j)

abbrev pub unit_lower : Matrix → Matrix
unit_lower T = unit_triangle Lower T

abbrev pub unit_upper : Matrix → Matrix
unit_upper T = unit_triangle Upper T
