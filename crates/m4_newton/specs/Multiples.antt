-- The multiples of rows by powers of x.
use Rattle.std.specs.Prelude.{◌≡◌, ℕ, ◌+◌, ◌*◌, ◌^◌, ◌<◌}
use Rattle.m4_model.specs.Field.{width}
use Rattle.m4_model.specs.Matrix.{Matrix, row}
use Rattle.m4_mzed.specs.Rows.{multiples}

-- M has for each of the first rows of B, so many of them, as many rows as an element has bits: the multiples by the powers of x
-- below the degree, and others.
pub record HasMultiples (M B : Matrix) (count : ℕ) : Type 0 where
  pub powers : (t u : ℕ) → t < count → u < M.field.degree → row M (t * width M.field + u) ≡ multiples M.field (2 ^ u) (row B t)
