use Rattle.std.proofs.Common.{◌≡◌, suc, ◌+◌, ◌*◌, ◌/◌, ◌%◌, ◌^◌, ◌<◌, ◌≤◌, ℕ, refl, sym, ◌∙◌, ap, arith, inl, inr, mod-eq_of_lt}
use Rattle.std.proofs.Math.Nat.{pow-suc}
use Rattle.std.proofs.Math.Pow.{pow_mono}
use Rattle.std.proofs.lemmas.Bool.{cases_lt, true≢false}
use Rattle.m4_model.specs.Field.{clmul}
use Rattle.m4_model.proofs.Division.{IsTop}
use Rattle.m4_model.proofs.Polynomials.{clmul_comm}
use Rattle.m4_field.specs.Factor.{HasFactor}
use Rattle.m4_field.proofs.FactorSteps.{exponent_lt, no_rest, factor_from_rest, one_is_small}
use Rattle.m4_field.proofs.division.has_factor.Goals as goal

small_poly : (poly e : ℕ) → poly < 2 ^ (e + 1) → e ≤ 16 → poly < 2 ^ 17
small_poly poly e high few = let m = pow_mono {i = e + 1} {j = 17} (omega arith) in omega arith

top_is : (k n : ℕ) → 2 ^ k ≤ n → n < 2 ^ (k + 1) → IsTop k n
top_is k n low high = let e : k + 1 ≡ suc k = omega arith in record { low = low; high = rw e at high }

-- the end of the loop
end_is : (e x : ℕ) → e ≤ 16 → x ≡ 2 * 2 ^ (e / 2) % 2 ^ 32 → x ≡ 2 ^ suc (e / 2)
end_is e x few is =
    let m = pow_mono {i = suc (e / 2)} {j = 16} (omega arith) in
    let p = pow-suc 2 (e / 2) in
    is ∙ mod-eq_of_lt (omega (arith, m, p)) ∙ omega (arith, p)

below_end : (e a x : ℕ) → 2 ≤ e → e ≤ 16 → x ≡ 2 * 2 ^ (e / 2) % 2 ^ 32 → a < x → a < 2 ^ e
below_end e a x some few is below =
    let m = pow_mono {i = suc (e / 2)} {j = e} (omega arith) in
    let q = end_is e x few is in
    omega (arith, m, q)

few_top : (e a k : ℕ) → a < 2 ^ e → 2 ^ k ≤ a → e ≤ 16 → k ≤ 16
few_top e a k small low few = let l = exponent_lt k e a low small in omega arith

pub divide-rest-requires-clause-dividend : goal.divide-rest-requires-clause-dividend
divide-rest-requires-clause-dividend c = small_poly c.args.poly c.args.e c.requires.high c.requires.few

pub divide-rest-requires-clause-few : goal.divide-rest-requires-clause-few
divide-rest-requires-clause-few c =
    few_top c.args.e c.loop-a.a c.degree.result (below_end c.args.e c.loop-a.a _ c.requires.some c.requires.few refl c.loop-a-test.true) c.degree.ensures.low c.requires.few

pub returns-then-rest-eq0 : goal.returns-then-rest-eq0
returns-then-rest-eq0 c = (
  λ _. factor_from_rest c.args.e c.degree.result c.args.poly c.loop-a.a c.divide-rest.result.0 c.divide-rest.result.1
      (top_is c.args.e c.args.poly c.requires.low c.requires.high) (top_is c.degree.result c.loop-a.a c.degree.ensures.low c.degree.ensures.high)
      (let a = c.loop-a.auto.a in omega arith)
      (below_end c.args.e c.loop-a.a _ c.requires.some c.requires.few refl c.loop-a-test.true) c.divide-rest.ensures.whole c.if-rest-eq0.true,
  λ _. refl,
)

pub loop-a-preserved : goal.loop-a-preserved
loop-a-preserved c = λ x some below q product. elim (cases_lt x c.loop-a.a) [
  | inl before ↦ c.loop-a.invariant x some before q product
  | inr here ↦
      let is : x ≡ c.loop-a.a = omega arith in
      let product' : clmul c.loop-a.a q ≡ c.args.poly = ap (λ y. clmul y q) (sym is) ∙ product in
      c.if-rest-eq0.false (no_rest c.loop-a.a c.degree.result q c.divide-rest.result.0 c.divide-rest.result.1 c.args.poly
      (top_is c.degree.result c.loop-a.a c.degree.ensures.low c.degree.ensures.high) c.divide-rest.ensures.whole c.divide-rest.ensures.small product')
]

none_found : (e poly x : ℕ) → poly < 2 ^ (e + 1) → e ≤ 16 → 2 * 2 ^ (e / 2) % 2 ^ 32 ≤ x
    → ((a : ℕ) → 2 ≤ a → a < x → (q : ℕ) → clmul a q ≡ poly → ⊥) → HasFactor e poly → ⊥
none_found e poly x high few past none (a, b, a_some, a_small, b_some, b_small, product) =
    let p : e + 1 ≡ suc e = omega arith in
    let q = end_is e (2 * 2 ^ (e / 2) % 2 ^ 32) few refl in
    elim (cases_lt a x) [
      | inl first ↦ none a a_some first b product
      | inr big_a ↦ elim (cases_lt b x) [
        | inl second ↦ none b b_some second a (clmul_comm b a ∙ product)
        | inr big_b ↦ one_is_small e (suc (e / 2)) poly a b (rw p at high) (omega arith) product (omega (arith, q, past, big_a)) (omega (arith, q, past, big_b))
      ]
    ]

pub returns : goal.returns
returns c =
    (λ is. absurd (true≢false (sym is)), λ f. absurd (none_found c.args.e c.args.poly c.loop-a.a c.requires.high c.requires.few c.loop-a-test.false c.loop-a.invariant f))
