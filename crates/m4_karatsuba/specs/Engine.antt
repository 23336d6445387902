-- What contracts see of the engine that multiplies by slices, and what is true of it.
use Rattle.std.specs.Prelude.{ℕ, ◌-◌, ◌*◌, ◌≤◌}
use Rattle.m4_model.specs.Field.{Field, IsCarried, rem}
use Rattle.m4_model.specs.Matrix.{Matrix, matrix_of}
use Rattle.m4_mzd.specs.Reach.{IsReached}
use Rattle.m4_mzd.specs.declared.add_mul.Shape.{Shape}
use Rattle.m4_mzd.specs.declared.TheConstants.{MOST_SIDE}
use Rattle.m4_karatsuba.specs.Factors.{product_of}
use Rattle.m4_karatsuba.specs.Rooms.{words_with_sums}
use Rattle.m4_karatsuba.specs.declared.factors.Factors.{Factors}

-- The field, and the largest product.
pub record Slicing : Type 0 where
  pub field : Field
  pub reach : Shape

-- All slices of the largest product fit in matrices, the engine below reaches as far as one slice, and there are so many words as
-- the largest product takes.
pub record CanSlice (s : Slicing) (limits : Shape) (words : ℕ) : Type 0 where
  pub carried : IsCarried s.field
  pub few_rows : (2 * s.field.degree - 1) * s.reach.m ≤ MOST_SIDE
  pub few_inner : s.field.degree * s.reach.l ≤ MOST_SIDE
  pub few_cols : s.reach.n ≤ MOST_SIDE
  pub reached : IsReached limits s.reach.m s.reach.l s.reach.n
  pub enough : words_with_sums s.field.degree s.reach ≤ words

-- The matrix of the remainders of the product of two factors.
abbrev pub remainders_of : Field → Factors → Matrix
remainders_of F f = matrix_of F f.shape.m f.shape.n (λ i j. rem F (product_of f i j))
