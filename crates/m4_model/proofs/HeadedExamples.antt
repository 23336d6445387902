-- Headed texts over every field, in both versions, on small cases that a reader can work by hand.
use Rattle.std.proofs.Common.{◌≡◌, ℕ, List, [], ◌∷◌, get_or, refl, ap, codes, arith, lit<, lit≤}
use Rattle.std.specs.Fmt.{digits}
use Rattle.m4_model.specs.Field.{Field, gf2, width, clmul, sum_below, bits_within}
use Rattle.m4_model.specs.Matrix.{Matrix}
use Rattle.m4_model.specs.Text.{IsWithinLimits}
use Rattle.m4_model.specs.Headed.{BadDegreeAt, ReducibleAt, headed_text, hex_text, Refusal}

abbrev over : Field → ℕ → ℕ → List (List ℕ) → Matrix
over F m n entries = record { field = F; rows = m; cols = n; entries = entries }

abbrev ext : ℕ → ℕ → Field
ext e poly = record { degree = e; poly = poly }

-- 10/01 over GF(2), in both versions
two_by_two : headed_text (over gf2 2 2 ((1 ∷ 0 ∷ []) ∷ (0 ∷ 1 ∷ []) ∷ [])) ≡ codes "gf2 2 2\n10\n01\n"
unfolding digits
two_by_two = refl

two_by_two_hex : hex_text (over gf2 2 2 ((1 ∷ 0 ∷ []) ∷ (0 ∷ 1 ∷ []) ∷ [])) ≡ codes "gf2x 2 2\n1\n2\n"
unfolding digits
two_by_two_hex = refl

-- the first column is the lowest bit of the first digit
eight_columns : hex_text (over gf2 1 8 ((1 ∷ 1 ∷ 1 ∷ 1 ∷ 0 ∷ 1 ∷ 0 ∷ 1 ∷ []) ∷ [])) ≡ codes "gf2x 1 8\nfa\n"
unfolding digits
eight_columns = refl

not_the_highest : hex_text (over gf2 1 8 ((1 ∷ 1 ∷ 1 ∷ 1 ∷ 0 ∷ 1 ∷ 0 ∷ 1 ∷ []) ∷ [])) ≡ codes "gf2x 1 8\nf5\n" → ⊥
unfolding digits
not_the_highest e =
    let second : 97 ≡ 53 = ap (λ w. get_or w 10 0) e in omega (arith, second)

five_columns : hex_text (over gf2 1 5 ((1 ∷ 1 ∷ 1 ∷ 1 ∷ 1 ∷ []) ∷ [])) ≡ codes "gf2x 1 5\nf1\n"
unfolding digits
five_columns = refl

no_columns : hex_text (over gf2 2 0 ([] ∷ [] ∷ [])) ≡ codes "gf2x 2 0\n\n\n"
unfolding digits
no_columns = refl

-- one digit, two digits and four digits an element, the highest first; both versions are one
over_four : headed_text (over (ext 2 7) 1 2 ((1 ∷ 3 ∷ []) ∷ [])) ≡ codes "gf2e 2 7 1 2\n13\n"
unfolding digits
over_four = refl

over_four_hex : hex_text (over (ext 2 7) 1 1 ((3 ∷ []) ∷ [])) ≡ codes "gf2e 2 7 1 1\n3\n"
unfolding digits
over_four_hex = refl

over_512 : headed_text (over (ext 9 515) 1 2 ((26 ∷ 285 ∷ []) ∷ [])) ≡ codes "gf2e 9 203 1 2\n01a11d\n"
unfolding digits
over_512 = refl

not_the_lowest : headed_text (over (ext 9 515) 1 2 ((26 ∷ 285 ∷ []) ∷ [])) ≡ codes "gf2e 9 203 1 2\na10d11\n" → ⊥
unfolding digits
not_the_lowest e =
    let first : 48 ≡ 97 = ap (λ w. get_or w 15 0) e in omega (arith, first)

over_65536 : headed_text (over (ext 16 65579) 1 2 ((52698 ∷ 45 ∷ []) ∷ [])) ≡ codes "gf2e 16 1002b 1 2\ncdda002d\n"
unfolding digits
over_65536 = refl

-- a degree that is none stands behind five letters
no_degree : Refusal (codes "gf2e 1 2 0 0\n") (BadDegreeAt 5)
unfolding digits
no_degree = record {
  field = ext 1 2;
  rows = 0;
  cols = 0;
  begins = (record { spelling = (lit< tt, lit< tt); rows = lit< tt; cols = lit< tt }, [], refl);
  refused = λ is. omega (arith, is.0);
  here = refl;
}

not_behind_it : Refusal (codes "gf2e 1 2 0 0\n") (BadDegreeAt 7) → ⊥
not_behind_it refused = omega (arith, refused.here)

-- (x + 1)^2 stands behind the degree
no_polynomial : Refusal (codes "gf2e 2 5 1 1\n1\n") (ReducibleAt 7)
unfolding digits clmul sum_below bits_within
no_polynomial = record {
  field = ext 2 5;
  rows = 1;
  cols = 1;
  begins = (record { spelling = (lit< tt, lit< tt); rows = lit< tt; cols = lit< tt }, codes "1\n", refl);
  degree = (lit≤ tt, lit≤ tt);
  refused = λ is. is.irreducible 3 3 (lit≤ tt) (lit< tt) (lit≤ tt) (lit< tt) refl;
  here = refl;
}

-- the limits count the bits that entries take: of 16 bits each, 2,048 take 512 words
within_16_bits : IsWithinLimits (width (ext 16 65579)) 8192 2048
within_16_bits = record { rows = lit≤ tt; cols = lit≤ tt; words = lit≤ tt }

past_16_bits : IsWithinLimits (width (ext 16 65579)) 8193 2048 → ⊥
past_16_bits within = omega (arith, within.words)
