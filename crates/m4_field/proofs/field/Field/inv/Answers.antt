use Rattle.std.proofs.Common.{◌≡◌, ◌≢◌, suc, ◌+◌, ◌^◌, ◌<◌, ◌≤◌, ℕ, ◌∙◌, ap, arith}
use Rattle.std.proofs.Math.Pow.{pow_mono}
use Rattle.m4_model.specs.Field.{Field, mul}
use Rattle.m4_model.specs.Field.{IsCarried}
use Rattle.m4_model.proofs.Division.{IsTop}
use Rattle.m4_model.proofs.SumLemmas.{mul-one_right}
use Rattle.m4_field.specs.Fields.{the_field}
use Rattle.m4_field.proofs.ProductSteps.{carried_laws}
use Rattle.m4_field.proofs.FactorSteps.{exponent_lt, quotient_small, rest_is_product, rest_is_some}
use Rattle.m4_field.proofs.field.Field.inv.Goals as goal

pub loop-rest-init : goal.loop-rest-init
loop-rest-init c =
    let F = the_field c.args.self.now in (
      mul-one_right F (carried_laws F c.args.self.now.carried) c.args.a c.requires.element,
      c.requires.element,
      c.requires.some,
      (let e = c.requires.element in let s = c.requires.some in let d = c.args.self.now.carried.degree_low in let m = pow_mono {i = 1} {j = c.args.self.now.degree} (omega arith) in omega (arith, m)),
    )

small_poly : (F : Field) → IsCarried F → F.poly < 2 ^ 17
small_poly F carried =
    let m = pow_mono {i = F.degree + 1} {j = 17} (let d = carried.degree_high in omega arith) in let h = carried.poly_high in omega (arith, m, h)

pub divide-quotient-requires-clause-dividend : goal.divide-quotient-requires-clause-dividend
divide-quotient-requires-clause-dividend c = small_poly (the_field c.args.self.now) c.args.self.now.carried

top_is : (k n : ℕ) → 2 ^ k ≤ n → n < 2 ^ (k + 1) → IsTop k n
top_is k n low high = let e : k + 1 ≡ suc k = omega arith in record { low = low; high = rw e at high }

top_small : (F : Field) → IsCarried F → (k n : ℕ) → 2 ^ k ≤ n → n < 2 ^ F.degree → k < F.degree
top_small F carried k n low small = exponent_lt k F.degree n low small

pub divide-quotient-requires-clause-few : goal.divide-quotient-requires-clause-few
divide-quotient-requires-clause-few c =
    let l = top_small (the_field c.args.self.now) c.args.self.now.carried c.degree.result c.loop-rest.rest c.degree.ensures.low c.loop-rest.invariant.1 in
    let d = c.args.self.now.carried.degree_high in omega (arith, l, d)

two : (n : ℕ) → n ≢ 0 → n ≢ 1 → 2 ≤ n
two n some more = omega (arith, some, more)

top_some : (k n : ℕ) → 2 ≤ n → n < 2 ^ (k + 1) → 1 ≤ k
top_some k n some high = let l = exponent_lt 1 (k + 1) n some high in omega arith

pub mul-factor-requires-clause-first : goal.mul-factor-requires-clause-first
mul-factor-requires-clause-first c =
    let F = the_field c.args.self.now in
    let x = c.args.self.now.carried in
    let some = two c.loop-rest.rest c.loop-rest.invariant.2 c.loop-rest-test.true in
    let high : F.poly < 2 ^ suc F.degree = let h = x.poly_high in let e : F.degree + 1 ≡ suc F.degree = omega arith in rw e at h in
    let l = top_small F x c.degree.result c.loop-rest.rest c.degree.ensures.low c.loop-rest.invariant.1 in
    quotient_small F.degree c.degree.result F.poly c.loop-rest.rest c.divide-quotient.result.0 c.divide-quotient.result.1 high
    (top_is c.degree.result c.loop-rest.rest c.degree.ensures.low c.degree.ensures.high) (top_some c.degree.result c.loop-rest.rest some c.degree.ensures.high)
    (omega (arith, l)) c.divide-quotient.ensures.whole c.divide-quotient.ensures.small

pub loop-rest-preserved : goal.loop-rest-preserved
loop-rest-preserved c =
    let F = the_field c.args.self.now in
    let x = c.args.self.now.carried in
    let some = two c.loop-rest.rest c.loop-rest.invariant.2 c.loop-rest-test.true in
    let small : c.divide-quotient.result.1 < 2 ^ F.degree =
    let s = c.divide-quotient.ensures.small in let l = c.degree.ensures.low in let r = c.loop-rest.invariant.1 in omega (arith, s, l, r) in (
      ap (mul F c.args.a) c.mul-factor.ensures.product
          ∙ rest_is_product F x c.args.a c.loop-rest.rest c.loop-rest.factor c.divide-quotient.result.0 c.divide-quotient.result.1 c.degree.result c.loop-rest.invariant.0 c.divide-quotient.ensures.whole small,
      small,
      rest_is_some F x c.loop-rest.rest c.divide-quotient.result.0 c.divide-quotient.result.1 c.degree.result some c.loop-rest.invariant.1
          (top_is c.degree.result c.loop-rest.rest c.degree.ensures.low c.degree.ensures.high) c.divide-quotient.ensures.whole,
      c.mul-factor.ensures.element,
    )
