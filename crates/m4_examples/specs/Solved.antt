-- Equations with a list of right sides.
use Rattle.std.specs.Prelude.{◌≡◌, List, [], ◌∷◌, Option}
use Rattle.m4_model.specs.Field.{gf2}
use Rattle.m4_model.specs.Matrix.{Matrix}
use Rattle.m4_elim.specs.Answers.{TellsSolution}

-- B is over GF(2) and as high as A.
pub record IsSideOf (A B : Matrix) : Type 0 where
  pub over_gf2 : B.field ≡ gf2
  pub rows : B.rows ≡ A.rows

-- For each B of the list the solution of A X = B, or that there is none.
abbrev pub AreSolved : Matrix → List Matrix → List (Option Matrix) → Type 0
AreSolved A [] [] = Unit {0}
AreSolved A (B ∷ Bs) (answer ∷ answers) = TellsSolution A B answer × AreSolved A Bs answers
AreSolved A [] (answer ∷ answers) = ⊥
AreSolved A (B ∷ Bs) [] = ⊥
