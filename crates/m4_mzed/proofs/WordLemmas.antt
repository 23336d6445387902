-- The elements of words: their bits, their sums, and a word of bits times a number.
use Rattle.std.proofs.Common.{◌≡◌, ℕ, zero, suc, ◌+◌, ◌*◌, ◌/◌, ◌%◌, ◌^◌, ◌<◌, ◌≤◌, Bool, true, false, ◌&&◌, min, refl, sym, ◌∙◌, ap, ap₂, arith, inl, inr, bit_xor, bit_and, mod-eq_of_lt}
use Rattle.std.specs.Int.{bit_at}
use Rattle.std.specs.Int.Bits.{xor_lt}
use Rattle.std.proofs.Math.Nat.{div-div-eq-div-mul, div-lt_iff_lt-mul, div-add-mod, mul-add-mod_self_right}
use Rattle.std.proofs.Math.Pow.{pow_pos, pow_mono}
use Rattle.std.proofs.lemmas.Bool.{cases_eq}
use Rattle.std.proofs.lemmas.Nat.{pow-add, div-mul-add, and_le_r}
use Rattle.std.proofs.lemmas.Nat.Bits.{bit_at_xor, bit_at_and, bit_at_above, bit_at-lt, same_from_bits_below, bit_at_lowest}
use Rattle.m4_bits.proofs.TransposeLemmas.{bit_at-mod}
use Rattle.m4_mzed.specs.Words.{element}

-- what holds of all numbers below n, by trying each
abbrev pub all_below : ℕ → (ℕ → Bool) → Bool
all_below zero p = true
all_below (suc n) p = p n && all_below n p

pub from_all : (n : ℕ) (p : ℕ → Bool) → all_below n p ≡ true → (k : ℕ) → k < n → p k ≡ true
from_all zero p all k below = absurd (omega arith)
from_all (suc n) p all k below = elim (cases_eq k n) [
  | inl here ↦ ap p here ∙ and_true-left (p n) (all_below n p) all
  | inr away ↦ from_all n p (and_true-right (p n) (all_below n p) all) k (omega (arith, away))
]
  where
    and_true-left : (a b : Bool) → (a && b) ≡ true → a ≡ true
    and_true-left true b both = refl
    and_true-left false b both = both

    and_true-right : (a b : Bool) → (a && b) ≡ true → b ≡ true
    and_true-right true b both = both
    and_true-right false b both = cc

pub element-lt : (w k n : ℕ) → element w k n < 2 ^ w
element-lt w k n = let p = pow_pos w in omega arith

pub element-suc : (w k n : ℕ) → element w (suc k) n ≡ element w k (n / 2 ^ w)
element-suc w k n =
    let e : suc k * w ≡ w + k * w = omega arith in
    ap (λ p. n / 2 ^ p % 2 ^ w) e ∙ ap (λ p. n / p % 2 ^ w) (pow-add 2 w (k * w)) ∙ ap (λ x. x % 2 ^ w) (sym (div-div-eq-div-mul n (2 ^ w) (2 ^ (k * w))))

bit_shifted : (n s i : ℕ) → bit_at (n / 2 ^ s) i ≡ bit_at n (s + i)
bit_shifted n s i = ap (λ x. x % 2) (div-div-eq-div-mul n (2 ^ s) (2 ^ i) ∙ ap (λ p. n / p) (sym (pow-add 2 s i)))

-- the bits of an element are bits of the word
pub bit_at-element : (w k n i : ℕ) → i < w → bit_at (element w k n) i ≡ bit_at n (k * w + i)
bit_at-element w k n i below = bit_at-mod (n / 2 ^ (k * w)) w i below ∙ bit_shifted n (k * w) i

-- the elements of a sum
pub element-xor : (w k a b : ℕ) → element w k (bit_xor a b) ≡ bit_xor (element w k a) (element w k b)
element-xor w k a b =
    same_from_bits_below w _ _ (element-lt w k (bit_xor a b)) (xor_lt w _ _ (element-lt w k a) (element-lt w k b)) (λ i below.
    bit_at-element w k (bit_xor a b) i below ∙ bit_at_xor a b (k * w + i)
    ∙ sym (bit_at_xor (element w k a) (element w k b) i ∙ ap₂ (λ x y. (x + y) % 2) (bit_at-element w k a i below) (bit_at-element w k b i below)))

-- and of what two words share
pub element-and : (w k a b : ℕ) → element w k (bit_and a b) ≡ bit_and (element w k a) (element w k b)
element-and w k a b =
    same_from_bits_below w _ _ (element-lt w k (bit_and a b)) (let l = and_le_r (element w k a) (element w k b) in let e = element-lt w k b in omega (arith, l, e)) (λ i below.
    bit_at-element w k (bit_and a b) i below ∙ bit_at_and a b (k * w + i)
    ∙ sym (bit_at_and (element w k a) (element w k b) i ∙ ap₂ min (bit_at-element w k a i below) (bit_at-element w k b i below)))

one_bit : (b j : ℕ) → b < 2 → 0 < j → bit_at b j ≡ 0
one_bit b j small some = bit_at_above b 1 j small some

-- bit i of each element
pub element-bit : (w k n i low : ℕ) → i < w → element w k low ≡ 1 → element w k (bit_and (n / 2 ^ i) low) ≡ bit_at (element w k n) i
element-bit w k n i low below one =
    same_from_bits_below w _ _ (element-lt w k _) (let l = bit_at-lt (element w k n) i in let p = pow_mono {i = 1} {j = w} (omega arith) in omega (arith, l, p)) (λ j within.
    bit_at-element w k (bit_and (n / 2 ^ i) low) j within
    ∙ bit_at_and (n / 2 ^ i) low (k * w + j)
    ∙ ap (min (bit_at (n / 2 ^ i) (k * w + j))) (sym (bit_at-element w k low j within) ∙ ap (λ x. bit_at x j) one)
    ∙ at j within)
  where
    b : ℕ
    b = bit_at (element w k n) i

    at : (j : ℕ) → j < w → min (bit_at (n / 2 ^ i) (k * w + j)) (bit_at 1 j) ≡ bit_at (bit_at (element w k n) i) j
    at zero within =
        let s : k * w + 0 ≡ k * w = omega arith in
        let l = bit_at-lt (element w k n) i in
        let t : i + k * w ≡ k * w + i = omega arith in
        let is : bit_at (n / 2 ^ i) (k * w + 0) ≡ bit_at (element w k n) i =
        ap (bit_at (n / 2 ^ i)) s ∙ bit_shifted n i (k * w) ∙ ap (bit_at n) t ∙ sym (bit_at-element w k n i below) in
        ap₂ min is (bit_at_lowest 1) ∙ (omega (arith, l)) ∙ sym (bit_at_lowest (bit_at (element w k n) i) ∙ mod-eq_of_lt l)
    at (suc j) within =
        ap (min (bit_at (n / 2 ^ i) (k * w + suc j))) (one_bit 1 (suc j) (omega arith) (omega arith))
        ∙ (omega arith) ∙ sym (one_bit (bit_at (element w k n) i) (suc j) (bit_at-lt (element w k n) i) (omega arith))

-- a word whose elements are bits, times a number of so many bits: no element carries into the next
pub record Times (w m t c : ℕ) : Type 0 where
  pub fits : t * c < 2 ^ (m * w)
  pub elements : (k : ℕ) → k < m → element w k (t * c) ≡ element w k t * c

element-zero : (w n : ℕ) → element w 0 n ≡ n % 2 ^ w
element-zero w n = let e : 0 * w ≡ 0 = omega arith in let f : n / 1 ≡ n = omega arith in ap (λ p. n / 2 ^ p % 2 ^ w) e ∙ ap (λ x. x % 2 ^ w) f

bit_times : (b c p : ℕ) → b < 2 → c < p → b * c < p
bit_times zero c p small below = omega arith
bit_times (suc zero) c p small below = omega arith
bit_times (suc (suc b)) c p small below = absurd (omega arith)

pub times : (w m t c : ℕ) → ((k : ℕ) → k < m → element w k t < 2) → t < 2 ^ (m * w) → c < 2 ^ w → Times w m t c
times w zero t c bits small below =
    let e : 0 * w ≡ 0 = omega arith in
    let s : t < 2 ^ 0 = ap_lt (0 * w) 0 t e small in
    record { fits = (let z : t ≡ 0 = omega arith in let f : 0 * c ≡ 0 = omega arith in rw (e, z, f) (omega arith)); elements = λ k none. absurd (omega arith) }
  where
    ap_lt : (a b x : ℕ) → a ≡ b → x < 2 ^ a → x < 2 ^ b
    ap_lt a b x is small = rw is at small
times w (suc m) t c bits small below =
    let p = 2 ^ w in
    let t' = t / p in
    let b = t % p in
    let pos = pow_pos w in
    let more : suc m * w ≡ m * w + w = omega arith in
    let whole : 2 ^ (suc m * w) ≡ 2 ^ (m * w) * p = ap (λ x. 2 ^ x) more ∙ pow-add 2 (m * w) w in
    let t'_small : t' < 2 ^ (m * w) = quotient_lt t p (2 ^ (m * w)) (let s = small in omega (arith, s, whole)) pos in
    let rest = times w m t' c (λ k k_below. let f = bits (suc k) (omega arith) in rw (← element-suc w k t) f) t'_small below in
    let b_small : b < 2 = let f = bits 0 (omega arith) in rw (element-zero w t) at f in
    let bc : b * c < p = bit_times b c p b_small below in
    let split : t * c ≡ t' * c * p + b * c = divided t p c pos in
    record {
      fits = rw (whole, split) (carried (t' * c) p (2 ^ (m * w)) (b * c) rest.fits bc);
      elements = λ k k_below. at k k_below split bc rest.elements;
    }
  where
    quotient_lt : (n p q : ℕ) → n < q * p → 0 < p → n / p < q
    quotient_lt n p q below pos = (div-lt_iff_lt-mul pos).1 below

    divided : (n p c : ℕ) → 0 < p → n * c ≡ n / p * c * p + n % p * c
    divided n p c pos =
        let d : n ≡ n / p * p + n % p = omega (arith, div-add-mod n p) in
        ap (λ x. x * c) d ∙ spread (n / p) p (n % p) c
      where
        spread : (q p r c : ℕ) → (q * p + r) * c ≡ q * c * p + r * c
        spread q p r c = grind arith

    carried : (x p q r : ℕ) → x < q → r < p → x * p + r < q * p
    carried x p q r first second = let m : suc x * p ≤ q * p = grind arith in let e : suc x * p ≡ x * p + p = grind arith in omega (arith, m, e)

    at : (k : ℕ) → k < suc m → t * c ≡ t / 2 ^ w * c * 2 ^ w + t % 2 ^ w * c → t % 2 ^ w * c < 2 ^ w → ((k : ℕ) → k < m → element w k (t / 2 ^ w * c) ≡ element w k (t / 2 ^ w) * c)
        → element w k (t * c) ≡ element w k t * c
    at zero k_below split bc others =
        element-zero w (t * c) ∙ ap (λ y. y % 2 ^ w) split ∙ mul-add-mod_self_right (t / 2 ^ w * c) (2 ^ w) (t % 2 ^ w * c) ∙ mod-eq_of_lt bc
        ∙ ap (λ y. y * c) (sym (element-zero w t))
    at (suc k) k_below split bc others =
        element-suc w k (t * c) ∙ ap (element w k) (ap (λ y. y / 2 ^ w) split ∙ div-mul-add (t / 2 ^ w * c) (2 ^ w) (t % 2 ^ w * c) bc)
        ∙ others k (omega arith) ∙ ap (λ y. y * c) (sym (element-suc w k t))
