-- Words that name a field, a trial's text, and the entries that aren't zero, on small cases.
use Rattle.std.proofs.Common.{◌≡◌, ℕ, List, [], ◌∷◌, refl, Option, Some, None, codes}
use Rattle.std.specs.Fmt.{digits}
use Rattle.m4_model.specs.Field.{Field, gf2, clmul, sum_below, bits_within}
use Rattle.m4_model.specs.Matrix.{Matrix}
use Rattle.m4_outcome.specs.FieldWords.{field_named, seed_of, some_below}
use Rattle.m4_outcome.specs.RankLines.{trial_text}
use Rattle.m4_outcome.specs.Seeds.{nonzeros}

bits_are_a_field : field_named (codes "gf2") ≡ Some gf2
bits_are_a_field = refl

four_elements : field_named (codes "2:7") ≡ Some (record { degree = 2; poly = 7 })
unfolding digits some_below clmul sum_below bits_within
four_elements = refl

sixteen_elements : field_named (codes "4:13") ≡ Some (record { degree = 4; poly = 0x13 })
unfolding digits some_below clmul sum_below bits_within
sixteen_elements = refl

a_product : field_named (codes "2:5") ≡ None
unfolding digits some_below clmul sum_below bits_within
a_product = refl

degree_one : field_named (codes "1:2") ≡ None
unfolding digits some_below clmul sum_below bits_within
degree_one = refl

another_degree : field_named (codes "3:7") ≡ None
unfolding digits some_below clmul sum_below bits_within
another_degree = refl

no_colon : field_named (codes "27") ≡ None
unfolding digits some_below clmul sum_below bits_within
no_colon = refl

a_zero_before_the_polynomial : field_named (codes "2:07") ≡ None
unfolding digits some_below clmul sum_below bits_within
a_zero_before_the_polynomial = refl

a_capital_letter : field_named (codes "3:B") ≡ None
unfolding digits some_below clmul sum_below bits_within
a_capital_letter = refl

greatest_seed : seed_of (codes "18446744073709551615") ≡ Some 18446744073709551615
unfolding digits
greatest_seed = refl

too_great_a_seed : seed_of (codes "18446744073709551616") ≡ None
unfolding digits
too_great_a_seed = refl

text_of_a_trial : trial_text 2 10 ≡ codes "rank 2\nnonzeros 10\n"
unfolding digits
text_of_a_trial = refl

three_of_four : nonzeros (record { field = gf2; rows = 2; cols = 2; entries = (1 ∷ 0 ∷ []) ∷ (1 ∷ 1 ∷ []) ∷ [] }) ≡ 3
three_of_four = refl
