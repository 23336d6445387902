-- The definitions of texts on small cases that a reader can work by hand.
use Rattle.std.proofs.Common.{◌≡◌, ℕ, List, [], ◌∷◌, refl, codes, Some, None, true, false}
use Rattle.std.specs.Fmt.{digits}
use Rattle.m4_model.specs.Field.{gf2}
use Rattle.m4_model.specs.Matrix.{Matrix}
use Rattle.m4_model.specs.Bare.{bare_text}
use Rattle.m4_model.specs.Jcf.{tokens, tokens_from, number, entry, jcf_text, nonzero_columns}

-- a matrix over GF(2)
abbrev bits : ℕ → ℕ → List (List ℕ) → Matrix
bits m n entries = record { field = gf2; rows = m; cols = n; entries = entries }

-- bare text
two_lines : bare_text (bits 2 2 ((1 ∷ 0 ∷ []) ∷ (0 ∷ 1 ∷ []) ∷ [])) ≡ codes "10\n01\n"
two_lines = refl

no_columns : bare_text (bits 2 0 ([] ∷ [] ∷ [])) ≡ codes "\n\n"
no_columns = refl

no_rows : bare_text (bits 0 0 []) ≡ []
no_rows = refl

-- the tokens of a text, with their places
some_tokens : tokens (codes " 2\t-34\n") ≡ record { place = 1; bytes = codes "2" } ∷ record { place = 3; bytes = codes "-34" } ∷ []
unfolding tokens_from
some_tokens = refl

-- numbers and entries
a_number : number (codes "0012") ≡ Some 12
a_number = refl

no_plus : number (codes "+12") ≡ None
no_plus = refl

nineteen_digits : number (codes "0000000000000000001") ≡ None
nineteen_digits = refl

first_in_row : entry (codes "-3") ≡ Some (record { next_row = true; column = 3 })
first_in_row = refl

further_in_row : entry (codes "3") ≡ Some (record { next_row = false; column = 3 })
further_in_row = refl

a_lone_sign : entry (codes "-") ≡ None
a_lone_sign = refl

-- JCF of 101/010 and of 01/00
jcf_of_three : jcf_text (bits 2 3 ((1 ∷ 0 ∷ 1 ∷ []) ∷ (0 ∷ 1 ∷ 0 ∷ []) ∷ [])) ≡ codes "2 3 2\n3\n-1 3\n-2\n"
unfolding digits nonzero_columns
jcf_of_three = refl

jcf_of_one : jcf_text (bits 2 2 ((0 ∷ 1 ∷ []) ∷ (0 ∷ 0 ∷ []) ∷ [])) ≡ codes "2 2 2\n1\n-2\n"
unfolding digits nonzero_columns
jcf_of_one = refl
