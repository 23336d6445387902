-- Factors of a polynomial, and the rest of a division by one.
use Rattle.std.proofs.Common.{◌≡◌, ℕ, zero, suc, ◌+◌, ◌*◌, ◌^◌, ◌<◌, ◌≤◌, sym, ◌∙◌, ap, subst, arith, inl, inr, bit_xor}
use Rattle.std.specs.Int.Bits.{xor_assoc, xor_self, xor_lt, xor_zero_r}
use Rattle.std.proofs.Math.Pow.{pow_pos, pow_mono}
use Rattle.std.proofs.lemmas.Bool.{cases_lt}
use Rattle.m4_model.specs.Field.{Field, clmul, mul}
use Rattle.m4_model.specs.Field.{IsCarried}
use Rattle.m4_model.proofs.Polynomials.{xor_twice, clmul-zero, clmul-sum_right}
use Rattle.m4_model.proofs.Division.{IsTop, product_top, top_of, clmul-power}
use Rattle.m4_model.proofs.Remainder.{congruent_small, congruent_multiple, rem_same, rem_element}
use Rattle.m4_field.specs.Factor.{HasFactor}
use Rattle.m4_field.proofs.ProductSteps.{carried_top, carried_laws}

pub exponent_lt : (i j x : ℕ) → 2 ^ i ≤ x → x < 2 ^ j → i < j
exponent_lt i j x low high = elim (cases_lt i j) [
  | inl less ↦ less
  | inr more ↦ absurd (let h = pow_mono {i = j} {j = i} more in omega arith)
]

-- a multiple that is as small as the divisor's highest bit is 0
pub no_rest : (a top q q0 rest poly : ℕ) → IsTop top a → poly ≡ bit_xor (clmul a q0) rest → rest < 2 ^ top → clmul a q ≡ poly → rest ≡ 0
no_rest a top q q0 rest poly is whole small product =
    congruent_small top a rest 0 is small (pow_pos top) (record {
      multiple = bit_xor q0 q;
      difference = xor_zero_r rest ∙ sym (clmul-sum_right a q0 q ∙ ap (bit_xor (clmul a q0)) (product ∙ whole) ∙ xor_twice (clmul a q0) rest);
    })

-- the quotient has a lower degree
pub quotient_small : (e k poly a q r : ℕ) → poly < 2 ^ suc e → IsTop k a → 1 ≤ k → k ≤ e → poly ≡ bit_xor (clmul a q) r → r < 2 ^ k → q < 2 ^ e
quotient_small e k poly a zero r high is some few whole small = pow_pos e
quotient_small e k poly a (suc q) r high is some few whole small =
    let t = top_of (suc q) (omega arith) in
    let big = product_top t.0 k a (suc q) is t.2 in
    let back : clmul a (suc q) ≡ bit_xor poly r = sym (ap (λ x. bit_xor x r) whole ∙ xor_assoc (clmul a (suc q)) r r ∙ ap (bit_xor (clmul a (suc q))) (xor_self r) ∙ xor_zero_r (clmul a (suc q))) in
    let r_small : r < 2 ^ suc e = let m = pow_mono {i = k} {j = suc e} (omega arith) in omega arith in
    let below : clmul a (suc q) < 2 ^ suc e = let P : ℕ → Type 0 = λ x. x < 2 ^ suc e in subst P (sym back) (xor_lt (suc e) poly r high r_small) in
    let less = exponent_lt (t.0 + k) (suc e) (clmul a (suc q)) big.low below in
    let m = pow_mono {i = suc t.0} {j = e} (omega (arith, less)) in
    let h = t.2.high in
    omega (arith, m, h)

-- the other factor is neither 0 nor 1, and of lower degree
pub cofactor_some : (e poly a q : ℕ) → 2 ^ e ≤ poly → a < 2 ^ e → clmul a q ≡ poly → 2 ≤ q
cofactor_some e poly a zero low small whole = absurd (let p = pow_pos e in let z = clmul-zero a in omega (arith, p, z, whole, low))
cofactor_some e poly a (suc zero) low small whole = absurd (let o : clmul a 1 ≡ a * 1 = clmul-power a 0 in omega (arith, o, whole, low, small))
cofactor_some e poly a (suc (suc q)) low small whole = omega arith

-- the divisor is a factor where nothing is left
pub factor_from_rest : (e top poly a q rest : ℕ) → IsTop e poly → IsTop top a → 2 ≤ a → a < 2 ^ e → poly ≡ bit_xor (clmul a q) rest → rest ≡ 0 → HasFactor e poly
factor_from_rest e top poly a q rest is high some small whole none =
    let product : clmul a q ≡ poly = sym (whole ∙ ap (bit_xor (clmul a q)) none ∙ xor_zero_r (clmul a q)) in
    let some_top : 1 ≤ top = let l = exponent_lt 1 (suc top) a some high.high in omega arith in
    let few : top ≤ e = let l = exponent_lt top e a high.low small in omega arith in
    let zero_small : rest < 2 ^ top = let p = pow_pos top in omega (arith, p, none) in
    (a, q, some, small, cofactor_some e poly a q is.low small product, quotient_small e top poly a q rest is.high high some_top few whole zero_small, product)

-- one of two factors has at most half the degree
pub one_is_small : (e h poly a b : ℕ) → poly < 2 ^ suc e → e < h + h → clmul a b ≡ poly → 2 ^ h ≤ a → 2 ^ h ≤ b → ⊥
one_is_small e h poly a b high half whole big_a big_b =
    let p = pow_pos h in
    let s = top_of a (omega (arith, p, big_a)) in
    let t = top_of b (omega (arith, p, big_b)) in
    let big = product_top t.0 s.0 a b s.2 t.2 in
    let i = exponent_lt h (suc s.0) a big_a s.2.high in
    let j = exponent_lt h (suc t.0) b big_b t.2.high in
    let n = exponent_lt (t.0 + s.0) (suc e) (clmul a b) big.low (rw whole high) in
    omega (arith, i, j, n, half)

-- a step towards an inverse
pub rest_is_product : (F : Field) → IsCarried F → (a rest factor q next top : ℕ) → mul F a factor ≡ rest → F.poly ≡ bit_xor (clmul rest q) next → next < 2 ^ F.degree
    → mul F a (mul F q factor) ≡ next
unfolding mul
rest_is_product F carried a rest factor q next top so_far whole small =
    let laws = carried_laws F carried in
    sym (laws.assoc a q factor) ∙ ap (λ x. mul F x factor) (laws.comm a q) ∙ laws.assoc q a factor ∙ ap (mul F q) so_far ∙ laws.comm q rest
    ∙ rem_same F (carried_top F carried) (clmul rest q) next (congruent_multiple F.poly rest q next whole)
    ∙ rem_element F (carried_top F carried) next small

pub rest_is_some : (F : Field) → IsCarried F → (rest q next top : ℕ) → 2 ≤ rest → rest < 2 ^ F.degree → IsTop top rest → F.poly ≡ bit_xor (clmul rest q) next → next ≡ 0 → ⊥
rest_is_some F carried rest q next top some small high whole none =
    let f = factor_from_rest F.degree top F.poly rest q next (carried_top F carried) high some small whole none in
    carried.irreducible f.0 f.1 f.2 f.3 f.4 f.5 f.6
