-- The text of factors on a small case that a reader can work by hand.
use Rattle.std.proofs.Common.{◌≡◌, ℕ, List, [], ◌∷◌, refl, codes}
use Rattle.std.specs.Fmt.{digits}
use Rattle.m4_model.specs.Field.{gf2}
use Rattle.m4_model.specs.Matrix.{Matrix}
use Rattle.m4_model.specs.NumberLines.{numbers_line}
use Rattle.m4_outcome.specs.Outcome.{factors_text}

-- a matrix over GF(2)
abbrev bits : ℕ → ℕ → List (List ℕ) → Matrix
bits m n entries = record { field = gf2; rows = m; cols = n; entries = entries }

-- the text of the factors of a 2 x 2 matrix of rank 1
factors_of_one_row : factors_text 1 (1 ∷ 0 ∷ []) (numbers_line (codes "pivots") (1 ∷ [])) (bits 2 2 ((1 ∷ 0 ∷ []) ∷ (0 ∷ 1 ∷ []) ∷ [])) (bits 2 2 ((0 ∷ 1 ∷ []) ∷ (0 ∷ 0 ∷ []) ∷ []))
    ≡ codes "rank 1\nrows 1 0\npivots 1\ngf2 2 2\n10\n01\ngf2 2 2\n01\n00\n"
unfolding digits
factors_of_one_row = refl
