-- One step of a division of polynomials.
use Rattle.std.proofs.Common.{◌≡◌, ℕ, zero, suc, ◌+◌, ◌-◌, ◌*◌, ◌%◌, ◌^◌, ◌<◌, ◌≤◌, refl, sym, ◌∙◌, ap, arith, bit_xor, mod-eq_of_lt, ⊎_elim}
use Rattle.std.specs.Int.{bit_at}
use Rattle.std.specs.Int.Bits.{xor_assoc, xor_comm}
use Rattle.std.proofs.Math.Nat.{pow-suc}
use Rattle.std.proofs.Math.Pow.{pow_pos, pow_mono}
use Rattle.std.proofs.lemmas.Nat.Bits.{bit_at_above, bit_at_cat_high}
use Rattle.m4_model.specs.Field.{clmul}
use Rattle.m4_model.proofs.Polynomials.{xor_twice, clmul-sum_right}
use Rattle.m4_model.proofs.Division.{IsTop, xor_tops, below_or_top, shift_top, clmul-power}

-- the highest bit is 1
pub top_bit : (k n : ℕ) → IsTop k n → bit_at n k ≡ 1
top_bit k n top =
    let whole : n ≡ 1 * 2 ^ k + (n - 2 ^ k) = let l = top.low in omega arith in
    let rest : n - 2 ^ k < 2 ^ k = let l = top.low in let h = top.high in let p = pow-suc 2 k in omega arith in
    let place : k - k ≡ 0 = omega arith in
    ap (λ x. bit_at x k) whole ∙ bit_at_cat_high 1 k (n - 2 ^ k) k rest (omega arith) ∙ ap (bit_at 1) place

-- a bit that is 1 where nothing lies above it is the highest
pub top_from_bit : (k n : ℕ) → n < 2 ^ suc k → bit_at n k ≡ 1 → IsTop k n
top_from_bit k n below one = ⊎_elim
    (λ (small : n < 2 ^ k). absurd (let none = bit_at_above n k k small (omega arith) in omega (arith, one, none)))
    (λ (top : IsTop k n). top)
    (below_or_top k n below)

-- and one that isn't 1 has nothing there
pub lower_from_bit : (k n : ℕ) → n < 2 ^ suc k → (bit_at n k ≡ 1 → ⊥) → n < 2 ^ k
lower_from_bit k n below other = ⊎_elim
    (λ (small : n < 2 ^ k). small)
    (λ (top : IsTop k n). absurd (other (top_bit k n top)))
    (below_or_top k n below)

-- a shifted polynomial is not cut off
pub shift_fits : (a top i : ℕ) → a < 2 ^ (top + 1) → top + i ≤ 16 → a * 2 ^ i % 2 ^ 32 ≡ a * 2 ^ i
shift_fits a top i high few =
    let p : top + 1 ≡ suc top = omega arith in
    let high' : a < 2 ^ suc top = rw (← p) high in
    mod-eq_of_lt (below (2 ^ suc top) (2 ^ i) (2 ^ 32) high' (sym (pow_sum (suc top) i)) (pow_mono {i = suc top + i} {j = 32} (omega arith)) (pow_pos i))
  where
    pow_sum : (m n : ℕ) → 2 ^ (m + n) ≡ 2 ^ m * 2 ^ n
    pow_sum m zero = let e : m + 0 ≡ m = omega arith in let f : 2 ^ m * 1 ≡ 2 ^ m = omega arith in rw (e, f) refl
    pow_sum m (suc n) =
        let e : m + suc n ≡ suc (m + n) = omega arith in
        rw (e, pow-suc 2 (m + n), pow_sum m n, pow-suc 2 n) (omega arith)

    times_lt : (x p q : ℕ) → x < p → 0 < q → x * q < p * q
    times_lt x p q l s = grind arith

    below : (p q r : ℕ) → a < p → p * q ≡ 2 ^ (suc top + i) → 2 ^ (suc top + i) ≤ r → 0 < q → a * q < r
    below p q r l e le s = let t = times_lt a p q l s in omega (arith, t, e, le)

-- a multiple of a with the same highest bit is taken off
pub taken : (c a quotient rest i : ℕ) → c ≡ bit_xor (clmul a quotient) rest
    → c ≡ bit_xor (clmul a (bit_xor quotient (2 ^ i))) (bit_xor rest (a * 2 ^ i))
taken c a quotient rest i is =
    is ∙ sym (ap (λ x. bit_xor x (bit_xor rest (a * 2 ^ i))) (clmul-sum_right a quotient (2 ^ i) ∙ ap (bit_xor (clmul a quotient)) (clmul-power a i))
    ∙ xor_assoc (clmul a quotient) (a * 2 ^ i) (bit_xor rest (a * 2 ^ i))
    ∙ ap (bit_xor (clmul a quotient)) (ap (bit_xor (a * 2 ^ i)) (xor_comm rest (a * 2 ^ i)) ∙ xor_twice (a * 2 ^ i) rest))

pub taken_lower : (a top rest i : ℕ) → 2 ^ top ≤ a → a < 2 ^ (top + 1) → rest < 2 ^ suc (top + i) → bit_at rest (i + top) ≡ 1
    → bit_xor rest (a * 2 ^ i) < 2 ^ (top + i)
taken_lower a top rest i low high below one =
    let p : top + 1 ≡ suc top = omega arith in
    let q : i + top ≡ top + i = omega arith in
    let one' : bit_at rest (top + i) ≡ 1 = rw (← q) one in
    let is : IsTop top a = record { low = low; high = rw (← p) high } in
    xor_tops (top + i) rest (a * 2 ^ i) (top_from_bit (top + i) rest below one') (shift_top top a i (top + i) (omega arith) is)
