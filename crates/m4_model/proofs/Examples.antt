-- The definitions on small cases that a reader can work by hand.
use Rattle.std.proofs.Common.{◌≡◌, ℕ, List, [], ◌∷◌, refl, codes, arith}
use Rattle.std.specs.Fmt.{digits}
use Rattle.m4_model.specs.Field.{gf2, IsExtension, clmul, mul, sum_below, bits_within, rem_within}
use Rattle.m4_model.specs.Matrix.{Matrix, table, product}
use Rattle.m4_model.specs.Additions.{additions}
use Rattle.m4_model.specs.Recursion.{Quartered, half, within_levels, need, products, joined, winograd}
use Rattle.m4_model.specs.Shapes.{transposed, above, beside, cut, replace, swaps, exchanged}
use Rattle.m4_model.specs.Text.{text}

-- a matrix over GF(2)
abbrev pub bits : ℕ → ℕ → List (List ℕ) → Matrix
bits m n entries = record { field = gf2; rows = m; cols = n; entries = entries }

-- a matrix of four entries, a quarter each
abbrev pub entries_of : ℕ → ℕ → ℕ → ℕ → Quartered
entries_of a b c d = record {
  top_left = bits 1 1 ((a ∷ []) ∷ []);
  top_right = bits 1 1 ((b ∷ []) ∷ []);
  bottom_left = bits 1 1 ((c ∷ []) ∷ []);
  bottom_right = bits 1 1 ((d ∷ []) ∷ []);
}

-- 53 and ca are inverse to each other modulo 11b, and x times x^3 is 1 modulo 1f
inverse_elements : mul (record { degree = 8; poly = 0x11b }) 0x53 0xca ≡ 1
unfolding mul clmul sum_below bits_within rem_within
inverse_elements = refl

x_to_the_fourth : mul (record { degree = 4; poly = 0x1f }) 2 8 ≡ 0xf
unfolding mul clmul sum_below bits_within rem_within
x_to_the_fourth = refl

-- x times x^3 is x + 1 modulo 13, and x times x is x + 1 modulo 7
x_to_the_fourth_by_another : mul (record { degree = 4; poly = 0x13 }) 2 8 ≡ 3
unfolding mul clmul sum_below bits_within rem_within
x_to_the_fourth_by_another = refl

x_squared : mul (record { degree = 2; poly = 7 }) 2 2 ≡ 3
unfolding mul clmul sum_below bits_within rem_within
x_squared = refl

-- hexadecimal 15 is 7 times 7, so it makes no field
reducible_makes_no_field : IsExtension (record { degree = 4; poly = 0x15 }) → ⊥
unfolding clmul sum_below bits_within
reducible_makes_no_field extension = extension.irreducible 7 7 (omega arith) (omega arith) (omega arith) (omega arith) refl

-- 11/01 times 10/11 is 01/11
small_product : text (product (bits 2 2 ((1 ∷ 1 ∷ []) ∷ (0 ∷ 1 ∷ []) ∷ [])) (bits 2 2 ((1 ∷ 0 ∷ []) ∷ (1 ∷ 1 ∷ []) ∷ []))) ≡ codes "gf2 2 2\n01\n11\n"
unfolding mul clmul sum_below bits_within rem_within table digits
small_product = refl

-- with no inner columns the product is zero
no_inner_columns : text (product (bits 2 0 ([] ∷ [] ∷ [])) (bits 0 3 [])) ≡ codes "gf2 2 3\n000\n000\n"
unfolding mul clmul sum_below bits_within rem_within table digits
no_inner_columns = refl

-- a row of no columns is a line feed alone
no_columns : text (bits 2 0 ([] ∷ [] ∷ [])) ≡ codes "gf2 2 0\n\n\n"
unfolding digits
no_columns = refl

-- the parts of 110/011
rows_and_columns : text (transposed (bits 2 3 ((1 ∷ 1 ∷ 0 ∷ []) ∷ (0 ∷ 1 ∷ 1 ∷ []) ∷ []))) ≡ codes "gf2 3 2\n10\n11\n01\n"
unfolding table digits
rows_and_columns = refl

one_over_another : text (above (bits 1 2 ((1 ∷ 0 ∷ []) ∷ [])) (bits 1 2 ((0 ∷ 1 ∷ []) ∷ []))) ≡ codes "gf2 2 2\n10\n01\n"
unfolding table digits
one_over_another = refl

one_beside_another : text (beside (bits 1 2 ((1 ∷ 0 ∷ []) ∷ [])) (bits 1 2 ((0 ∷ 1 ∷ []) ∷ []))) ≡ codes "gf2 1 4\n1001\n"
unfolding table digits
one_beside_another = refl

a_part : text (cut (bits 2 3 ((1 ∷ 1 ∷ 0 ∷ []) ∷ (0 ∷ 1 ∷ 1 ∷ []) ∷ [])) 0 1 2 3) ≡ codes "gf2 2 2\n10\n11\n"
unfolding table digits
a_part = refl

a_part_replaced : text (replace (bits 2 3 ((1 ∷ 1 ∷ 0 ∷ []) ∷ (0 ∷ 1 ∷ 1 ∷ []) ∷ [])) 1 1 (bits 1 2 ((0 ∷ 0 ∷ []) ∷ []))) ≡ codes "gf2 2 3\n110\n000\n"
unfolding table digits
a_part_replaced = refl

exchanges : swaps 3 (2 ∷ 2 ∷ 2 ∷ []) ≡ 2 ∷ 0 ∷ 1 ∷ []
unfolding exchanged
exchanges = refl

-- row additions: a table of 8 rows takes 255 to fill, and one for each row of the product; without a column there are none
many_additions : additions 1000 1000 8 ≡ 156875
many_additions = refl

additions_for_one_row : additions 1 64 8 ≡ 2048
additions_for_one_row = refl

no_addition : additions 1 0 8 ≡ 0
no_addition = refl

additions_with_a_column_left_over : additions 3 5 2 ≡ 16
additions_with_a_column_left_over = refl

-- products by halves: 128 x 128 matrices are cut once at cutoff 64, into quarters of 64 x 64
words_of_one_level : need 128 128 128 64 ≡ 256
unfolding within_levels
words_of_one_level = refl

products_of_one_level : products 128 128 128 64 ≡ 10
unfolding within_levels
products_of_one_level = refl

words_of_two_levels : need 256 256 256 64 ≡ 1280
unfolding within_levels
words_of_two_levels = refl

products_of_two_levels : products 256 256 256 64 ≡ 73
unfolding within_levels
products_of_two_levels = refl

-- a side below twice the cutoff, or no cutoff
no_words_for_a_small_product : need 127 128 128 64 ≡ 0
unfolding within_levels
no_words_for_a_small_product = refl

a_small_product_is_one : products 127 128 128 64 ≡ 1
unfolding within_levels
a_small_product_is_one = refl

no_cutoff_cuts_nothing : products 4096 4096 4096 0 ≡ 1
unfolding within_levels
no_cutoff_cuts_nothing = refl

half_of_a_side_with_a_border : half 195 ≡ 64
half_of_a_side_with_a_border = refl

-- in a level of 2 x 2 matrices of one entry each, the bottom left of the product is a22 b21 alone where no other entry stands
small_quarter : (joined (winograd (entries_of 0 0 0 1) (entries_of 0 0 1 0))).entries ≡ (0 ∷ 0 ∷ []) ∷ (1 ∷ 0 ∷ []) ∷ []
unfolding mul clmul sum_below bits_within rem_within table
small_quarter = refl
