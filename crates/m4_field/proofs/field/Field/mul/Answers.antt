use Rattle.std.proofs.Common.{◌≡◌, suc, ◌-◌, ◌/◌, ◌^◌, ◌<◌, bit_xor, ℕ, ◌∙◌, ap, sym, arith, inl, inr}
use Rattle.std.specs.Int.{bit_at}
use Rattle.std.specs.Int.Bits.{xor_lt}
use Rattle.std.proofs.Math.Nat.{div-eq_of_lt}
use Rattle.std.proofs.Math.Pow.{pow_pos}
use Rattle.std.proofs.lemmas.Bool.{cases_eq}
use Rattle.std.proofs.lemmas.Nat.Bits.{shr_and_one, bit_at-lt}
use Rattle.m4_model.specs.Field.{Field, mul}
use Rattle.m4_model.specs.Field.{IsCarried}
use Rattle.m4_field.specs.Fields.{the_field}
use Rattle.m4_field.proofs.ProductSteps.{carried_laws, horner-zero, horner-one}
use Rattle.m4_field.proofs.field.Field.mul.Goals as goal

pub loop-i-init : goal.loop-i-init
loop-i-init c =
    let F = the_field c.args.self.now in
    (sym (ap (mul F c.args.a) (div-eq_of_lt c.requires.second) ∙ (carried_laws F c.args.self.now.carried).annihilates c.args.a), pow_pos c.args.self.now.degree)

-- a step of the loop
one_more : (F : Field) → IsCarried F → (a b i k p next : ℕ) → i ≡ suc k → a < 2 ^ F.degree → b < 2 ^ F.degree → p ≡ mul F a (b / 2 ^ i)
    → next ≡ mul F 2 p → bit_at b k ≡ 1 → bit_xor next a ≡ mul F a (b / 2 ^ k)
one_more F carried a b i k p next is first second so_far steps one =
    ap (λ x. bit_xor x a) (steps ∙ ap (mul F 2) (so_far ∙ ap (λ n. mul F a (b / 2 ^ n)) is)) ∙ sym (horner-one F carried a b k first second one)

none_more : (F : Field) → IsCarried F → (a b i k p next : ℕ) → i ≡ suc k → b < 2 ^ F.degree → p ≡ mul F a (b / 2 ^ i)
    → next ≡ mul F 2 p → (bit_at b k ≡ 1 → ⊥) → next ≡ mul F a (b / 2 ^ k)
none_more F carried a b i k p next is second so_far steps other =
    let bit : bit_at b k ≡ 0 = let l = bit_at-lt b k in elim (cases_eq (bit_at b k) 1) [ inl one ↦ absurd (other one) | inr away ↦ omega (arith, l, away) ] in
    steps ∙ ap (mul F 2) (so_far ∙ ap (λ n. mul F a (b / 2 ^ n)) is) ∙ sym (horner-zero F carried a b k second bit)

pub loop-i-preserved-then-b-i-eq1 : goal.loop-i-preserved-then-b-i-eq1
loop-i-preserved-then-b-i-eq1 c =
    let k = c.loop-i.i - 1 in (
      one_more (the_field c.args.self.now) c.args.self.now.carried c.args.a c.args.b c.loop-i.i k c.loop-i.product _ (omega arith) c.requires.first c.requires.second
          c.loop-i.invariant.0 c.times_x-product.ensures.product (sym (shr_and_one c.args.b k) ∙ c.if-b-i-eq1.true),
      xor_lt c.args.self.now.degree _ c.args.a c.times_x-product.ensures.element c.requires.first,
    )

pub loop-i-preserved : goal.loop-i-preserved
loop-i-preserved c =
    let k = c.loop-i.i - 1 in (
      none_more (the_field c.args.self.now) c.args.self.now.carried c.args.a c.args.b c.loop-i.i k c.loop-i.product _ (omega arith) c.requires.second
          c.loop-i.invariant.0 c.times_x-product.ensures.product (λ one. c.if-b-i-eq1.false (shr_and_one c.args.b k ∙ one)),
      c.times_x-product.ensures.element,
    )
