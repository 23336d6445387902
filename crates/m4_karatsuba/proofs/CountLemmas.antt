-- The number of products of a product of polynomials.
use Rattle.std.proofs.Common.{eqb, ◌≡◌, ℕ, zero, suc, ◌+◌, ◌-◌, ◌*◌, ◌/◌, ◌<◌, ◌≤◌, inl, inr, Bool, true, ◌&&◌, refl, ◌∙◌, ap, ap₂, arith}
use Rattle.std.proofs.lemmas.Bool.{cases_eq, eqb-true, and_parts}
use Rattle.m4_karatsuba.specs.Counts.{karatsuba, karatsuba_within}

-- whether the rule holds for 2, 3 and so on, n numbers of coefficients
rule_holds : ℕ → Bool
rule_holds zero = true
rule_holds (suc n) = eqb (karatsuba (n + 2)) (2 * karatsuba ((n + 2 + 1) / 2) + karatsuba (n + 2 - (n + 2 + 1) / 2)) && rule_holds n

rule_holds-at : (n k : ℕ) → rule_holds n ≡ true → k < n → karatsuba (k + 2) ≡ 2 * karatsuba ((k + 2 + 1) / 2) + karatsuba (k + 2 - (k + 2 + 1) / 2)
unfolding rule_holds
rule_holds-at zero k is below = absurd (omega arith)
rule_holds-at (suc n) k is below =
    let parts = and_parts (eqb (karatsuba (n + 2)) (2 * karatsuba ((n + 2 + 1) / 2) + karatsuba (n + 2 - (n + 2 + 1) / 2))) (rule_holds n) is in
    elim (cases_eq k n) [
      | inl here ↦ rw here (eqb-true _ _ parts.0)
      | inr other ↦ rule_holds-at n k parts.1 (omega (arith, other))
    ]

rule_to_16 : rule_holds 15 ≡ true
unfolding rule_holds karatsuba_within
rule_to_16 = refl

pub karatsuba-halves : (e h k : ℕ) → 2 ≤ e → e ≤ 16 → h ≡ (e + 1) / 2 → k ≡ e - h → karatsuba e ≡ 2 * karatsuba h + karatsuba k
karatsuba-halves e h k some few half rest =
    let n : ℕ = e - 2 in
    let is : e - 2 + 2 ≡ e = omega (arith, some) in
    ap karatsuba (omega (arith, is)) ∙ rule_holds-at 15 (e - 2) rule_to_16 (omega (arith, few))
    ∙ ap₂ (λ x y. 2 * karatsuba x + karatsuba y) (omega (arith, some, half)) (omega (arith, some, half, rest))

-- one product for one coefficient
pub karatsuba-one : (e : ℕ) → 1 ≤ e → e ≤ 1 → karatsuba e ≡ 1
unfolding karatsuba_within
karatsuba-one e some one = (let is : e ≡ 1 = omega (arith, some, one) in ap karatsuba is)
