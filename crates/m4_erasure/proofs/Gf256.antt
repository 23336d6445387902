-- GF(2^8) of the polynomial x^8 + x^4 + x^3 + x^2 + 1 is a field.
use Rattle.std.proofs.Common.{◌≡◌, ℕ, zero, suc, ◌+◌, ◌-◌, ◌<◌, ◌≤◌, Bool, IsTrue, inl, inr, refl, sym, ◌∙◌, ap, subst, arith, nat_lt, lit<, lit≤}
use Rattle.std.specs.Int.Bits.{xor_zero_r}
use Rattle.std.proofs.lemmas.Bool.{cases_lt, true≢false}
use Rattle.m4_model.specs.Field.{Field, IsField, IsExtension, IsIrreducible, clmul, rem, rem_within, bit_length, bits_within}
use Rattle.m4_model.proofs.FieldLaws.{FieldLaws}
use Rattle.m4_model.proofs.FieldProofs.{field_laws}
use Rattle.m4_model.proofs.Polynomials.{clmul_comm}
use Rattle.m4_model.proofs.Division.{has_top}
use Rattle.m4_model.proofs.Remainder.{rem_same}
use Rattle.m4_field.proofs.FactorSteps.{one_is_small}
use Rattle.m4_erasure.specs.Shards.{gf256}

-- a polynomial, to divide by
divisor : ℕ → Field
divisor a = record { degree = bit_length a - 1; poly = a }

-- whether the division of the field's polynomial leaves a rest
leaves : ℕ → Bool
unfolding divisor
leaves a = nat_lt 0 (rem (divisor a) 0x11d)

-- each number from 2 on, of so many, passes the test
AllFrom2 : ℕ → (ℕ → Bool) → Type 0
AllFrom2 zero test = Unit {0}
AllFrom2 (suc n) test = IsTrue (test (n + 2)) × AllFrom2 n test

one_from_all : (n : ℕ) (test : ℕ → Bool) → AllFrom2 n test → (a : ℕ) → 2 ≤ a → a < n + 2 → IsTrue (test a)
unfolding AllFrom2
one_from_all zero test all a some few = absurd (omega (arith, some, few))
one_from_all (suc n) test all a some few = elim (cases_lt a (n + 2)) [
  | inl before ↦ one_from_all n test all.1 a some before
  | inr here ↦ let is : n + 2 ≡ a = omega (arith, here, few) in subst (λ (a : ℕ). IsTrue (test a)) is all.0
]

-- no polynomial of a degree from 1 to 4 divides it
all_leave : AllFrom2 30 leaves
unfolding AllFrom2 leaves divisor rem_within bits_within
all_leave = (refl, (refl, (refl, (refl, (refl, (refl, (refl, (refl, (refl, (refl, (refl, (refl, (refl, (refl, (refl, (refl, (refl, (refl, (refl, (refl, (refl, (refl, (refl, (refl, (refl, (refl, (refl, (refl, (refl, (refl, tt))))))))))))))))))))))))))))))

-- a divisor leaves no rest
no_leave : (a q : ℕ) → 0 < a → clmul a q ≡ 0x11d → IsTrue (leaves a) → ⊥
unfolding leaves divisor rem_within bits_within
no_leave a q some product left =
    let same : rem (divisor a) (clmul a q) ≡ rem (divisor a) 0 =
    rem_same (divisor a) (has_top a some) (clmul a q) 0 (record { multiple = q; difference = xor_zero_r (clmul a q) }) in
    let none : rem (divisor a) 0x11d ≡ 0 = ap (rem (divisor a)) (sym product) ∙ same in
    true≢false (sym left ∙ ap (nat_lt 0) none)

irreducible : IsIrreducible gf256
irreducible a b a_some a_small b_some b_small product = elim (cases_lt a 32) [
  | inl first ↦ no_leave a b (omega (arith, a_some)) product (one_from_all 30 leaves all_leave a a_some first)
  | inr big_a ↦ elim (cases_lt b 32) [
    | inl second ↦ no_leave b a (omega (arith, b_some)) (clmul_comm b a ∙ product) (one_from_all 30 leaves all_leave b b_some second)
    | inr big_b ↦ one_is_small 8 5 0x11d a b (lit< tt) (lit< tt) product big_a big_b
  ]
]

pub extension : IsExtension gf256
extension = record {
  degree_low = lit≤ tt;
  degree_high = lit≤ tt;
  poly_low = lit≤ tt;
  poly_high = lit< tt;
  irreducible = irreducible;
}

pub gf256_field : IsField gf256
gf256_field = inr extension

pub gf256_laws : FieldLaws gf256
gf256_laws = field_laws gf256 gf256_field
