-- The definitions, computed on small cases.
use Rattle.std.proofs.Common.{◌≡◌, [], ◌∷◌, refl}
use Rattle.m4_model.specs.Field.{Field, gf2, sum_below}
use Rattle.m4_model.specs.Matrix.{Matrix, table}
use Rattle.m4_slice.specs.Sliced.{slice_of, sliced, joined}

-- one row of the elements x and x + 1 of GF(4)
four : Field
four = record { degree = 2; poly = 7 }

elements : Matrix
elements = record { field = record { degree = 2; poly = 7 }; rows = 1; cols = 2; entries = (2 ∷ 3 ∷ []) ∷ [] }

-- their lower bits are 0 and 1, and their upper ones 1 and 1
two_slices : (sliced elements).entries ≡ (0 ∷ 1 ∷ []) ∷ (1 ∷ 1 ∷ []) ∷ []
unfolding elements table
two_slices = refl

upper_slice : (slice_of 1 elements).entries ≡ (1 ∷ 1 ∷ []) ∷ []
unfolding elements table
upper_slice = refl

-- two slices of two rows each join to a matrix of two rows
two_rows : (joined four 2 2 (record { field = gf2; rows = 4; cols = 1; entries = (1 ∷ []) ∷ (0 ∷ []) ∷ (1 ∷ []) ∷ (1 ∷ []) ∷ [] })).entries ≡ (3 ∷ []) ∷ (2 ∷ []) ∷ []
unfolding four table sum_below
two_rows = refl
