-- The decision whether a degree and a polynomial make an extension field, against its definition.
use Rattle.std.proofs.Common.{◌≡◌, ℕ, zero, suc, ◌+◌, ◌^◌, ◌<◌, ◌≤◌, ⊎_elim, refl, sym, ◌∙◌, ap, arith, Bool, true, false, not, ◌&&◌, ◌||◌, cond, Option, Some, None, eqb-true, ltb-true, leb-true, ltb, leb, eqb, true≢false, lt-ltb, le-leb}
use Rattle.std.proofs.lemmas.Bool.{and_parts, and_from, or_cases, not-true, eq-eqb, cases_lt}
use Rattle.m4_model.specs.Field.{Field, IsExtension, IsIrreducible, clmul}
use Rattle.m4_outcome.specs.FieldWords.{some_below, is_product, is_extension, extension_of}

-- a test that some number below n passes
some_at : (n : ℕ) (test : ℕ → Bool) → some_below n test ≡ true → (i : ℕ) × (i < n) × (test i ≡ true)
unfolding some_below
some_at zero test passed = absurd (true≢false (sym passed))
some_at (suc n) test passed = ⊎_elim
    (λ (sooner : some_below n test ≡ true). let found = some_at n test sooner in (found.0, (let less = found.1 in omega (arith, less)), found.2))
    (λ (here : test n ≡ true). (n, omega arith, here))
    (or_cases (some_below n test) (test n) passed)

or_true : (a : Bool) → (a || true) ≡ true
or_true true = refl
or_true false = refl

some_from : (n : ℕ) (test : ℕ → Bool) (i : ℕ) → i < n → test i ≡ true → some_below n test ≡ true
unfolding some_below
some_from zero test i below passed = absurd (omega (arith, below))
some_from (suc n) test i below passed = ⊎_elim
    (λ (sooner : i < n). rw (some_from n test i sooner passed) refl)
    (λ (last : n ≤ i). let same : i ≡ n = omega (arith, last, below) in let here : test n ≡ true = ap test (sym same) ∙ passed in rw here (or_true (some_below n test)))
    (cases_lt i n)

-- the test of two factors
abbrev are_factors : ℕ → ℕ → ℕ → Bool
are_factors poly a b = leb 2 a && (leb 2 b && eqb (clmul a b) poly)

abbrev has_second : ℕ → ℕ → ℕ → Bool
has_second e poly a = some_below (2 ^ e) (are_factors poly a)

-- what isn't false is true
not_false : (b : Bool) → (b ≡ true → ⊥) → not b ≡ true
not_false true none = absurd (none refl)
not_false false none = refl

module _ (F : Field) where
  -- a polynomial that is no product is irreducible
  irreducible : is_product F.degree F.poly ≡ false → IsIrreducible F
  irreducible none a b some_a small_a some_b small_b made =
      let factors : are_factors F.poly a b ≡ true =
      and_from _ _ (le-leb 2 a some_a) (and_from _ _ (le-leb 2 b some_b) (eq-eqb (clmul a b) F.poly made)) in
      true≢false (sym (some_from (2 ^ F.degree) (has_second F.degree F.poly) a small_a (some_from (2 ^ F.degree) (are_factors F.poly a) b small_b factors)) ∙ none)

  -- and an irreducible one is none
  no_product : IsIrreducible F → not (is_product F.degree F.poly) ≡ true
  no_product holds = not_false (is_product F.degree F.poly) (λ product.
      let first = some_at (2 ^ F.degree) (has_second F.degree F.poly) product in
      let second = some_at (2 ^ F.degree) (are_factors F.poly first.0) first.2 in
      let parts = and_parts _ _ second.2 in
      let rest = and_parts _ _ parts.1 in
      holds first.0 second.0 (leb-true 2 first.0 parts.0) first.1 (leb-true 2 second.0 rest.0) second.1 (eqb-true _ _ rest.1))

  -- the decision that there is an extension field
  pub passes : is_extension F.degree F.poly ≡ true → IsExtension F
  passes passed =
      let one = and_parts _ _ passed in
      let two = and_parts _ _ one.1 in
      let three = and_parts _ _ two.1 in
      let four = and_parts _ _ three.1 in
      record {
        degree_low = leb-true 2 F.degree one.0;
        degree_high = leb-true F.degree 16 two.0;
        poly_low = leb-true (2 ^ F.degree) F.poly three.0;
        poly_high = ltb-true F.poly (2 ^ (F.degree + 1)) four.0;
        irreducible = irreducible (not-true (is_product F.degree F.poly) four.1);
      }

  pub decided : IsExtension F → is_extension F.degree F.poly ≡ true
  decided holds =
      and_from _ _ (le-leb 2 F.degree holds.degree_low) (and_from _ _ (le-leb F.degree 16 holds.degree_high)
      (and_from _ _ (le-leb (2 ^ F.degree) F.poly holds.poly_low) (and_from _ _ (lt-ltb F.poly (2 ^ (F.degree + 1)) holds.poly_high) (no_product holds.irreducible))))

  -- the field of a degree and a polynomial
  pub extension_is : IsExtension F → extension_of F.degree F.poly ≡ Some F
  extension_is holds = let decision = decided holds in rw decision refl

  pub no_extension : (IsExtension F → ⊥) → extension_of F.degree F.poly ≡ None
  no_extension none = cases (is_extension F.degree F.poly) refl
    where
      cases : (b : Bool) → is_extension F.degree F.poly ≡ b → cond b (Some F) None ≡ None
      cases true is = absurd (none (passes is))
      cases false is = refl
