-- What the calls of this crate ask of their context.
use Rattle.std.specs.Prelude.{ℕ, ◌≤◌}
use Rattle.m4_mzd.specs.Reach.{IsReached}
use Rattle.m4_mzd.specs.declared.add_mul.Shape.{Shape}

-- An engine with these limits and this side of the parts that are not halved serve for a matrix of so many rows and columns.
pub record Serves (limits : Shape) (side rows cols : ℕ) : Type 0 where
  pub reached : (l : ℕ) → l ≤ rows → l ≤ cols → IsReached limits rows l cols
  pub cutoff : 64 ≤ side
