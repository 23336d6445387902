-- Which operands have an answer: those over one field.
use Rattle.std.proofs.Common.{◌≡◌, ℕ, inl, inr, [], ◌∷◌, ap, refl, sym, arith, Bool, true, not, ◌||◌, leb, eqb, leb-true, true≢false}
use Rattle.std.proofs.lemmas.Bool.{eqb-false, or_cases}
use Rattle.std.proofs.lemmas.List.Elements.{All-nil, All-cons}
use Rattle.m4_model.specs.Field.{Field, gf2, IsExtension, IsIrreducible, IsElement, clmul, mul, sum_below, bits_within, rem_within}
use Rattle.m4_model.specs.Matrix.{Matrix, HasShape, table}
use Rattle.m4_outcome.specs.Outcome.{ShareField, HasAnswer, OneMatrix}
use Rattle.m4_outcome.specs.declared.command.Command.TheVariants.{Mul, Inverse}
use Rattle.m4_model.proofs.ExampleTests.{every, every_at}

-- the fields of four elements and of sixteen, the second by two polynomials
abbrev gf4 : Field
gf4 = record { degree = 2; poly = 7 }

abbrev gf16 : Field
gf16 = record { degree = 4; poly = 0x13 }

abbrev gf16_otherwise : Field
gf16_otherwise = record { degree = 4; poly = 0x19 }

-- a matrix of one entry
abbrev of_one : Field → ℕ → Matrix
of_one F a = record { field = F; rows = 1; cols = 1; entries = (a ∷ []) ∷ [] }

-- over GF(4) matrices are multiplied: x + 1 times x + 1 is x
multiplied : HasAnswer Mul (of_one gf4 3 ∷ of_one gf4 3 ∷ []) (OneMatrix (of_one gf4 2))
unfolding mul clmul sum_below bits_within rem_within table
multiplied = record {
  shared = All-cons (λ (A : Matrix). A.field ≡ gf4) (of_one gf4 3) [] refl (All-nil (λ (A : Matrix). A.field ≡ gf4));
  fits = refl;
  bounds = grind arith;
  is = refl;
}

-- no two polynomials of degree 1 have the product x^2 + x + 1
abbrev is_split : ℕ → ℕ → Bool
is_split a b = leb a 1 || (leb b 1 || not (eqb (clmul a b) 7))

gf4_irreducible : IsIrreducible gf4
unfolding clmul sum_below bits_within
gf4_irreducible a b some_a small_a some_b small_b made =
    let passed : is_split a b ≡ true = every_at 4 (is_split a) (every_at 4 (λ a. every 4 (is_split a)) refl a small_a) b small_b in
    elim (or_cases (leb a 1) (leb b 1 || not (eqb (clmul a b) 7)) passed) [
      | inl few ↦ absurd (let less = leb-true a 1 few in omega (arith, less, some_a))
      | inr rest ↦ elim (or_cases (leb b 1) (not (eqb (clmul a b) 7)) rest) [
        | inl few ↦ absurd (let less = leb-true b 1 few in omega (arith, less, some_b))
        | inr other ↦ absurd (true≢false (sym (rw made at other)))
      ]
    ]

gf4_extension : IsExtension gf4
gf4_extension = record {
  degree_low = omega arith;
  degree_high = omega arith;
  poly_low = omega arith;
  poly_high = omega arith;
  irreducible = gf4_irreducible;
}

shape_of_one : (a : ℕ) → IsElement gf4 a → HasShape gf4 1 1 (of_one gf4 a)
shape_of_one a small = record {
  is_matrix = record {
    over_field = inr gf4_extension;
    height = refl;
    width = λ i below. let first : i ≡ 0 = omega (arith, below) in rw first refl;
    elements = λ i j in_rows in_cols.
        let first : i ≡ 0 = omega (arith, in_rows) in
        let left : j ≡ 0 = omega (arith, in_cols) in
        rw (first, left) small;
  };
  over = refl;
  rows = refl;
  cols = refl;
}

-- and inverted: the inverse of x + 1 is x
inverted : HasAnswer Inverse (of_one gf4 3 ∷ []) (OneMatrix (of_one gf4 2))
unfolding mul clmul sum_below bits_within rem_within table
inverted = record {
  shared = All-nil (λ (A : Matrix). A.field ≡ gf4);
  fits = refl;
  bounds = tt;
  is = record { square = refl; shape = shape_of_one 2 (omega arith); right = refl; left = refl };
}

-- a matrix over GF(4) and one over GF(2) aren't multiplied
fields_differ : ShareField (of_one gf4 3 ∷ of_one gf2 1 ∷ []) → ⊥
fields_differ shared = eqb-false 1 2 refl (ap (λ (F : Field). F.degree) (shared 0 (of_one gf2 1) (omega arith)))

-- nor are two added of one degree with different polynomials
polynomials_differ : ShareField (of_one gf16 3 ∷ of_one gf16_otherwise 3 ∷ []) → ⊥
polynomials_differ shared = eqb-false 0x19 0x13 refl (ap (λ (F : Field). F.poly) (shared 0 (of_one gf16 3) (omega arith)))
