use Rattle.std.proofs.Common.{◌≡◌, ◌+◌, ◌-◌, ◌*◌, ◌%◌, ◌^◌, ◌<◌, ◌≤◌, suc, bit_xor, ℕ, ◌∙◌, ap, sym, arith}
use Rattle.std.specs.Int.{bit_at}
use Rattle.std.specs.Int.Bits.{xor_zero_l}
use Rattle.std.proofs.lemmas.Nat.Bits.{shr_and_one}
use Rattle.m4_model.specs.Field.{clmul}
use Rattle.m4_model.proofs.Polynomials.{clmul-zero}
use Rattle.m4_field.proofs.DivisionSteps.{lower_from_bit, shift_fits, taken, taken_lower}
use Rattle.m4_field.proofs.division.divide.Goals as goal

pub loop-i-init : goal.loop-i-init
loop-i-init c =
    let all : c.args.top + (17 - c.args.top) ≡ 17 = let f = c.requires.few in omega arith in
    (sym (ap (λ x. bit_xor x c.args.c) (clmul-zero c.args.a) ∙ xor_zero_l c.args.c), rw all c.requires.dividend)

step : (c a q rest top i k one cut : ℕ) → i ≡ suc k → top + k ≤ 16 → one ≡ 2 ^ k → cut ≡ a * 2 ^ k → 2 ^ top ≤ a → a < 2 ^ (top + 1)
    → c ≡ bit_xor (clmul a q) rest → rest < 2 ^ (top + i) → bit_at rest (k + top) ≡ 1
    → (c ≡ bit_xor (clmul a (bit_xor q one)) (bit_xor rest cut)) × (bit_xor rest cut < 2 ^ (top + k))
step c a q rest top i k one cut is few ones cuts low high whole below bit =
    let e : top + i ≡ suc (top + k) = omega arith in
    let below' : rest < 2 ^ suc (top + k) = rw (← e) below in
    rw (ones, cuts) (taken c a q rest k whole, taken_lower a top rest k low high below' bit)

pub loop-i-preserved-then-rest-i-eq1 : goal.loop-i-preserved-then-rest-i-eq1
loop-i-preserved-then-rest-i-eq1 c =
    let k = c.loop-i.i - 1 in
    let few : c.args.top + k ≤ 16 = omega arith in
    let one : 1 * 2 ^ k % 2 ^ 32 ≡ 2 ^ k = shift_fits 1 0 k (omega arith) (omega arith) ∙ omega arith in
    step c.args.c c.args.a c.loop-i.quotient c.loop-i.rest c.args.top c.loop-i.i k _ _ (omega arith) few one
    (shift_fits c.args.a c.args.top k c.requires.high few) c.requires.low c.requires.high c.loop-i.invariant.0 c.loop-i.invariant.1
    (sym (shr_and_one c.loop-i.rest (k + c.args.top)) ∙ c.if-rest-i-eq1.true)

pub loop-i-preserved : goal.loop-i-preserved
loop-i-preserved c =
    let k = c.loop-i.i - 1 in
    let e : c.args.top + c.loop-i.i ≡ suc (c.args.top + k) = omega arith in
    let place : k + c.args.top ≡ c.args.top + k = omega arith in
    let below : c.loop-i.rest < 2 ^ suc (c.args.top + k) = rw (← e) c.loop-i.invariant.1 in
    (c.loop-i.invariant.0, lower_from_bit (c.args.top + k) c.loop-i.rest below (λ one. c.if-rest-i-eq1.false (shr_and_one c.loop-i.rest (k + c.args.top) ∙ ap (bit_at c.loop-i.rest) place ∙ one)))
