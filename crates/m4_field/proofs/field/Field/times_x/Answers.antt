use Rattle.std.proofs.Common.{◌≡◌, ◌+◌, ◌*◌, ◌/◌, ◌%◌, ◌^◌, ◌<◌, ◌≤◌, bit_xor, ℕ, ◌∙◌, ap, sym, arith, mod-eq_of_lt, inl, inr}
use Rattle.std.proofs.Math.Nat.{div-eq_of_lt, lt-mul-div-succ}
use Rattle.std.proofs.Math.Pow.{pow_mono, pow_pos}
use Rattle.std.proofs.lemmas.Bool.{cases_lt}
use Rattle.m4_model.specs.Field.{Field, mul}
use Rattle.m4_model.specs.Field.{IsCarried}
use Rattle.m4_field.specs.Fields.{the_field}
use Rattle.m4_field.proofs.ProductSteps.{times_x-low, times_x-high, times_x-high_element}
use Rattle.m4_field.proofs.field.Field.times_x.Goals as goal

fits : (F : Field) → IsCarried F → (a : ℕ) → a < 2 ^ F.degree → a * 2 % 2 ^ 32 ≡ a * 2
fits F carried a small =
    let h = pow_mono {i = F.degree} {j = 16} carried.degree_high in
    mod-eq_of_lt (omega (arith, h, small))

quotient_zero : (x k : ℕ) → x / 2 ^ k ≡ 0 → x < 2 ^ k
quotient_zero x k none = let h : x < 2 ^ k * (x / 2 ^ k + 1) = lt-mul-div-succ x (pow_pos k) in let one : 2 ^ k * (0 + 1) ≡ 2 ^ k = omega arith in rw (none, one) at h

-- the doubled element, by the test
low : (F : Field) → IsCarried F → (a d : ℕ) → a < 2 ^ F.degree → d ≡ a * 2 → d / 2 ^ F.degree ≡ 0 → d ≡ mul F 2 a
low F carried a d small is none =
    is ∙ sym (times_x-low F carried a (let q = quotient_zero d F.degree none in omega (arith, q, is)))

not_below : (d k : ℕ) → (d / 2 ^ k ≡ 0 → ⊥) → 2 ^ k ≤ d
not_below d k some = elim (cases_lt d (2 ^ k)) [
  | inl below ↦ absurd (some (div-eq_of_lt below))
  | inr above ↦ above
]

pub returns-then-doubled-self-eq0-clause-product : goal.returns-then-doubled-self-eq0-clause-product
returns-then-doubled-self-eq0-clause-product c =
    let F = the_field c.args.self.now in
    low F c.args.self.now.carried c.args.a _ c.requires (fits F c.args.self.now.carried c.args.a c.requires) c.if-doubled-self-eq0.true

pub returns-else-doubled-self-eq0-clause-product : goal.returns-else-doubled-self-eq0-clause-product
returns-else-doubled-self-eq0-clause-product c =
    let F = the_field c.args.self.now in
    let e = fits F c.args.self.now.carried c.args.a c.requires in
    let large = not_below _ c.args.self.now.degree c.if-doubled-self-eq0.false in
    ap (λ d. bit_xor d c.args.self.now.poly) e ∙ sym (times_x-high F c.args.self.now.carried c.args.a c.requires (rw e at large))

pub returns-else-doubled-self-eq0-clause-element : goal.returns-else-doubled-self-eq0-clause-element
returns-else-doubled-self-eq0-clause-element c =
    let F = the_field c.args.self.now in
    let e = fits F c.args.self.now.carried c.args.a c.requires in
    let large = not_below _ c.args.self.now.degree c.if-doubled-self-eq0.false in
    rw e (times_x-high_element F c.args.self.now.carried c.args.a c.requires (rw e at large))
