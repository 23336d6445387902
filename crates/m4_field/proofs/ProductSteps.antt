-- One step of a product of elements.
use Rattle.std.proofs.Common.{◌≡◌, ℕ, suc, ◌+◌, ◌*◌, ◌/◌, ◌%◌, ◌^◌, ◌<◌, ◌≤◌, refl, sym, ◌∙◌, ap, ap₂, arith, inl, inr, bit_xor}
use Rattle.std.specs.Int.{bit_at}
use Rattle.std.specs.Int.Bits.{xor_zero_l, xor_comm}
use Rattle.std.proofs.Math.Nat.{pow-suc, div-div-eq-div-mul, div-le_self}
use Rattle.m4_model.specs.Field.{Field, IsField, gf2, clmul, rem, mul}
use Rattle.std.proofs.lemmas.Bool.{cases_lt}
use Rattle.m4_model.specs.Field.{IsCarried}
use Rattle.m4_model.proofs.FieldLaws.{FieldLaws}
use Rattle.m4_model.proofs.FieldProofs.{field_laws}
use Rattle.m4_model.proofs.SumLemmas.{mul-one_right}
use Rattle.m4_model.proofs.Polynomials.{xor_twice, halves, clmul_comm}
use Rattle.m4_model.proofs.Division.{IsTop, xor_tops, clmul-power}
use Rattle.m4_model.proofs.Remainder.{rem_element, rem_same}

pub carried_top : (F : Field) → IsCarried F → IsTop F.degree F.poly
carried_top F carried =
    record { low = carried.poly_low; high = let h = carried.poly_high in let e : F.degree + 1 ≡ suc F.degree = omega arith in rw e at h }

-- it is a field of the definition
pub carried_field : (F : Field) → IsCarried F → IsField F
carried_field F is = elim (cases_lt 1 F.degree) [
  | inl more ↦ inr (record { degree_low = more; degree_high = is.degree_high; poly_low = is.poly_low; poly_high = is.poly_high; irreducible = is.irreducible })
  | inr one ↦
      let degree : F.degree ≡ 1 = let l = is.degree_low in omega (arith, one, l) in
      inl (λ i. record { degree = degree i; poly = is.first degree i })
]

pub carried_gf2 : IsCarried gf2
carried_gf2 = record {
  degree_low = omega arith;
  degree_high = omega arith;
  poly_low = omega arith;
  poly_high = omega arith;
  irreducible = λ a b a_some a_small b_some b_small product. absurd (omega (arith, a_some, a_small));
  first = λ _. refl;
}

pub carried_laws : (F : Field) → IsCarried F → FieldLaws F
carried_laws F carried = field_laws F (carried_field F carried)

-- x times a polynomial
times_two : (a : ℕ) → clmul 2 a ≡ a * 2
times_two a = clmul_comm 2 a ∙ clmul-power a 1

-- x times an element that has no highest bit
pub times_x-low : (F : Field) → IsCarried F → (a : ℕ) → a * 2 < 2 ^ F.degree → mul F 2 a ≡ a * 2
unfolding mul
times_x-low F carried a small = ap (rem F) (times_two a) ∙ rem_element F (carried_top F carried) (a * 2) small

doubled_top : (F : Field) (a : ℕ) → a < 2 ^ F.degree → 2 ^ F.degree ≤ a * 2 → IsTop F.degree (a * 2)
doubled_top F a small large = let p = pow-suc 2 F.degree in record { low = large; high = omega arith }

-- x times an element that has it
pub times_x-high_element : (F : Field) → IsCarried F → (a : ℕ) → a < 2 ^ F.degree → 2 ^ F.degree ≤ a * 2 → bit_xor (a * 2) F.poly < 2 ^ F.degree
times_x-high_element F carried a small large =
    xor_tops F.degree (a * 2) F.poly (doubled_top F a small large) (carried_top F carried)

pub times_x-high : (F : Field) → IsCarried F → (a : ℕ) → a < 2 ^ F.degree → 2 ^ F.degree ≤ a * 2 → mul F 2 a ≡ bit_xor (a * 2) F.poly
unfolding mul
times_x-high F carried a small large =
    let top = carried_top F carried in
    let one : F.poly ≡ clmul F.poly 1 = let e : F.poly * 1 ≡ F.poly = omega arith in sym (clmul-power F.poly 0 ∙ e) in
    ap (rem F) (times_two a)
    ∙ rem_same F top (a * 2) (bit_xor (a * 2) F.poly) (record { multiple = 1; difference = xor_twice (a * 2) F.poly ∙ one })
    ∙ rem_element F top (bit_xor (a * 2) F.poly) (times_x-high_element F carried a small large)

-- the product with a number by its lowest bit and its half
pub product_half : (F : Field) → IsCarried F → (a n : ℕ) → n < 2 ^ F.degree → mul F a n ≡ bit_xor (mul F a (n % 2)) (mul F 2 (mul F a (n / 2)))
product_half F carried a n small =
    let laws = carried_laws F carried in
    let h = n / 2 in
    ap (mul F a) (sym (halves n))
    ∙ laws.distrib a (n % 2) (h * 2)
    ∙ ap (bit_xor (mul F a (n % 2)))
    (ap (mul F a) (sym (times_x-low F carried h (omega arith)))
    ∙ sym (laws.assoc a 2 h) ∙ ap (λ x. mul F x h) (laws.comm a 2) ∙ laws.assoc 2 a h)

half_shift : (b i : ℕ) → b / 2 ^ i / 2 ≡ b / 2 ^ suc i
half_shift b i = div-div-eq-div-mul b (2 ^ i) 2 ∙ ap (λ p. b / p) (sym (pow-suc 2 i))

shift_below : (b i p : ℕ) → b < p → b / 2 ^ i < p
shift_below b i p below = let q = div-le_self b (2 ^ i) in omega arith

-- a step of the product: bit i of b is 0, or 1
pub horner-zero : (F : Field) → IsCarried F → (a b i : ℕ) → b < 2 ^ F.degree → bit_at b i ≡ 0
    → mul F a (b / 2 ^ i) ≡ mul F 2 (mul F a (b / 2 ^ suc i))
horner-zero F carried a b i small none =
    let laws = carried_laws F carried in
    product_half F carried a (b / 2 ^ i) (shift_below b i (2 ^ F.degree) small)
    ∙ ap₂ bit_xor (ap (mul F a) none ∙ laws.annihilates a) (ap (λ x. mul F 2 (mul F a x)) (half_shift b i))
    ∙ xor_zero_l (mul F 2 (mul F a (b / 2 ^ suc i)))

pub horner-one : (F : Field) → IsCarried F → (a b i : ℕ) → a < 2 ^ F.degree → b < 2 ^ F.degree → bit_at b i ≡ 1
    → mul F a (b / 2 ^ i) ≡ bit_xor (mul F 2 (mul F a (b / 2 ^ suc i))) a
horner-one F carried a b i element small one =
    let laws = carried_laws F carried in
    product_half F carried a (b / 2 ^ i) (shift_below b i (2 ^ F.degree) small)
    ∙ ap₂ bit_xor (ap (mul F a) one ∙ mul-one_right F laws a element) (ap (λ x. mul F 2 (mul F a x)) (half_shift b i))
    ∙ xor_comm a (mul F 2 (mul F a (b / 2 ^ suc i)))
