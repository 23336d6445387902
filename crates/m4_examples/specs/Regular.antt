-- Regular matrices.
use Rattle.std.specs.Prelude.{◌≡◌, ℕ}
use Rattle.m4_model.specs.Field.{gf2}
use Rattle.m4_model.specs.Matrix.{Matrix}
use Rattle.m4_model.specs.Rank.{IsRank}

-- M is an n x n matrix over GF(2) of rank n.
pub record IsRegular (n : ℕ) (M : Matrix) : Type 0 where
  pub over_gf2 : M.field ≡ gf2
  pub rows : M.rows ≡ n
  pub cols : M.cols ≡ n
  pub rank : IsRank M n
