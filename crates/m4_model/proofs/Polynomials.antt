-- Polynomials over GF(2) as numbers: their sum is xor, and their product is commutative, associative and distributive.
use Rattle.std.proofs.Common.{◌≡◌, ℕ, zero, suc, ◌+◌, ◌*◌, ◌/◌, ◌%◌, ◌^◌, ◌<◌, ◌≤◌, ◌⊎◌, refl, sym, ◌∙◌, ap, arith, inl, inr, bit_xor, add-one}
use Rattle.std.proofs.Math.Nat.{pow-suc}
use Rattle.std.specs.Int.{bit_at}
use Rattle.std.specs.Int.Bits.{xor_block, xor_assoc, xor_comm, xor_self, xor_zero_l, xor_zero_r, xor_shifted}
use Rattle.std.proofs.lemmas.Nat.Bits.{bit_at-suc, bit_at_lowest}
use Rattle.std.proofs.Math.Pow.{pow_pos}
use lib.Arith.{bin_ind}
use Rattle.m4_model.specs.Field.{sum_below, bits_within, bit_length, clmul}
use Rattle.m4_model.proofs.FieldLemmas.{sum_below-same}

-- ---- sums

-- four terms, the inner two exchanged
pub xor_exchange : (a b c d : ℕ) → bit_xor (bit_xor a b) (bit_xor c d) ≡ bit_xor (bit_xor a c) (bit_xor b d)
xor_exchange a b c d =
    xor_assoc a b (bit_xor c d)
    ∙ ap (bit_xor a) (sym (xor_assoc b c d) ∙ ap (λ x. bit_xor x d) (xor_comm b c) ∙ xor_assoc c b d)
    ∙ sym (xor_assoc a c (bit_xor b d))

-- a term taken twice falls away
pub xor_twice : (a b : ℕ) → bit_xor a (bit_xor a b) ≡ b
xor_twice a b = sym (xor_assoc a a b) ∙ ap (λ x. bit_xor x b) (xor_self a) ∙ xor_zero_l b

-- a sum that is zero has equal terms
pub xor_zero_equal : (a b : ℕ) → bit_xor a b ≡ 0 → a ≡ b
xor_zero_equal a b none = sym (xor_zero_r a) ∙ ap (bit_xor a) (sym none) ∙ xor_twice a b

-- a power of 2 goes into a sum
pub xor_shift : (a b k : ℕ) → bit_xor (a * 2 ^ k) (b * 2 ^ k) ≡ bit_xor a b * 2 ^ k
xor_shift a b k =
    let e = xor_block k a b 0 0 (pow_pos k) (pow_pos k) in
    let f : bit_xor (a * 2 ^ k) (b * 2 ^ k) ≡ bit_xor (a * 2 ^ k + 0) (b * 2 ^ k + 0) = refl_zero (a * 2 ^ k) (b * 2 ^ k) in
    f ∙ e ∙ (let z : bit_xor 0 0 ≡ 0 = refl in rw z (omega arith))
  where
    refl_zero : (x y : ℕ) → bit_xor x y ≡ bit_xor (x + 0) (y + 0)
    refl_zero x y =
        let p : x + 0 ≡ x = omega arith in
        let q : y + 0 ≡ y = omega arith in
        rw (p, q) refl

pub xor_double : (a b : ℕ) → bit_xor (a * 2) (b * 2) ≡ bit_xor a b * 2
xor_double a b = xor_shift a b 1

-- the first term of a sum, and the others
pub sum_below-first : (n : ℕ) (g : ℕ → ℕ) → sum_below (suc n) g ≡ bit_xor (g 0) (sum_below n (λ i. g (suc i)))
unfolding sum_below
sum_below-first zero g = xor_comm 0 (g 0)
sum_below-first (suc n) g = ap (λ x. bit_xor x (g (suc n))) (sum_below-first n g) ∙ xor_assoc (g 0) (sum_below n (λ i. g (suc i))) (g (suc n))

-- a sum of doubled terms
pub sum_below-double : (n : ℕ) (g : ℕ → ℕ) → sum_below n (λ i. g i * 2) ≡ sum_below n g * 2
unfolding sum_below
sum_below-double zero g = refl
sum_below-double (suc n) g = ap (λ x. bit_xor x (g n * 2)) (sum_below-double n g) ∙ xor_double (sum_below n g) (g n)

-- ---- the number of bits

-- more fuel than needed changes nothing
enough_none : (fuel : ℕ) → 0 ≤ fuel → bits_within fuel 0 ≡ bits_within 0 0
unfolding bits_within
enough_none zero enough = refl
enough_none (suc fuel) enough = refl

enough_step : (n : ℕ) → ((fuel : ℕ) → n / 2 ≤ fuel → bits_within fuel (n / 2) ≡ bits_within (n / 2) (n / 2)) → (fuel : ℕ) → n ≤ fuel → bits_within fuel n ≡ bits_within n n
unfolding bits_within
enough_step zero half fuel enough = enough_none fuel enough
enough_step (suc n) half zero enough = absurd (omega arith)
enough_step (suc n) half (suc fuel) enough =
    let a = half fuel (omega arith) in
    let b = half n (omega arith) in
    ap (λ x. x + 1) (a ∙ sym b)

bits_within-enough : (n fuel : ℕ) → n ≤ fuel → bits_within fuel n ≡ bits_within n n
bits_within-enough = bin_ind (λ n. (fuel : ℕ) → n ≤ fuel → bits_within fuel n ≡ bits_within n n) enough_none enough_step

pub bit_length-zero : bit_length 0 ≡ 0
unfolding bits_within
bit_length-zero = refl

-- half of a number has a bit less
pub bit_length-half : (n : ℕ) → 0 < n → bit_length n ≡ bit_length (n / 2) + 1
unfolding bits_within
bit_length-half zero some = absurd (omega arith)
bit_length-half (suc n) some = ap (λ x. x + 1) (bits_within-enough (suc n / 2) n (omega arith))

-- ---- the product

half_of_none : (a : ℕ) → sum_below 0 (λ i. bit_at 0 i * (a * 2 ^ i)) ≡ bit_xor (0 % 2 * a) (sum_below 0 (λ i. bit_at 0 i * (a * 2 ^ i)) * 2)
unfolding sum_below
half_of_none a = let z : 0 * a ≡ 0 = omega arith in rw z refl

-- a term of the product is twice the term before of the product with half of b
term_half : (a b i : ℕ) → bit_at b (suc i) * (a * 2 ^ suc i) ≡ bit_at (b / 2) i * (a * 2 ^ i) * 2
term_half a b i = rw (bit_at-suc b i, pow-suc 2 i) (regroup (bit_at (b / 2) i) a (2 ^ i))
  where
    regroup : (x y p : ℕ) → x * (y * (p * 2)) ≡ x * (y * p) * 2
    regroup x y p = omega arith

term_first : (a b : ℕ) → bit_at b 0 * (a * 2 ^ 0) ≡ b % 2 * a
term_first a b = rw (bit_at_lowest b) (let e : a * 1 ≡ a = omega arith in ap (λ x. b % 2 * x) e)

-- the product by the lowest bit of b and by the others
pub clmul-half : (a b : ℕ) → clmul a b ≡ bit_xor (b % 2 * a) (clmul a (b / 2) * 2)
unfolding clmul
clmul-half a zero = rw bit_length-zero (half_of_none a)
clmul-half a (suc b) =
    let n = bit_length (suc b / 2) in
    let g : ℕ → ℕ = λ i. bit_at (suc b) i * (a * 2 ^ i) in
    let h : ℕ → ℕ = λ i. bit_at (suc b / 2) i * (a * 2 ^ i) in
    let more : bit_length (suc b) ≡ suc n = bit_length-half (suc b) (omega arith) ∙ add-one (bit_length (suc b / 2)) in
    ap (λ m. sum_below m g) more
    ∙ sum_below-first n g
    ∙ ap (λ x. bit_xor x (sum_below n (λ i. g (suc i)))) (term_first a (suc b))
    ∙ ap (bit_xor (suc b % 2 * a)) (sum_below-same n (λ i. g (suc i)) (λ i. h i * 2) (λ i below. term_half a (suc b) i) ∙ sum_below-double n h)

-- the product with 0
pub clmul-zero : (a : ℕ) → clmul a 0 ≡ 0
unfolding clmul sum_below
clmul-zero a = rw bit_length-zero refl

-- the lowest bit is 0 or 1
low_bit : (b : ℕ) → (b % 2 ≡ 0) ⊎ (b % 2 ≡ 1)
low_bit b = cases (b % 2) (omega arith)
  where
    cases : (r : ℕ) → r < 2 → (r ≡ 0) ⊎ (r ≡ 1)
    cases zero small = inl refl
    cases (suc zero) small = inr refl
    cases (suc (suc r)) small = absurd (omega arith)

-- a bit goes into a sum
bit_sum : (b x y : ℕ) → b % 2 * bit_xor x y ≡ bit_xor (b % 2 * x) (b % 2 * y)
bit_sum b x y = elim (low_bit b) [
  | inl even ↦ rw even (none x y)
  | inr odd ↦ rw odd (one x y)
]
  where
    none : (x y : ℕ) → 0 * bit_xor x y ≡ bit_xor (0 * x) (0 * y)
    none x y =
        let p : 0 * x ≡ 0 = omega arith in
        let q : 0 * y ≡ 0 = omega arith in
        let r : 0 * bit_xor x y ≡ 0 = omega arith in
        rw (p, q, r) refl

    one : (x y : ℕ) → 1 * bit_xor x y ≡ bit_xor (1 * x) (1 * y)
    one x y =
        let p : 1 * x ≡ x = omega arith in
        let q : 1 * y ≡ y = omega arith in
        let r : 1 * bit_xor x y ≡ bit_xor x y = omega arith in
        rw (p, q, r) refl

-- a bit times a doubled number
bit_double : (b x : ℕ) → b % 2 * (x * 2) ≡ b % 2 * x * 2
bit_double b x = omega arith

-- the sum of a number's doubled half and its lowest bit
pub halves : (b : ℕ) → bit_xor (b % 2) (b / 2 * 2) ≡ b
halves b =
    xor_comm (b % 2) (b / 2 * 2)
    ∙ xor_shifted (b / 2) 1 (b % 2) (omega arith)
    ∙ omega arith

-- the product is distributive from the right
pub clmul-sum_left : (b a c : ℕ) → clmul (bit_xor a c) b ≡ bit_xor (clmul a b) (clmul c b)
clmul-sum_left = bin_ind (λ b. (a c : ℕ) → clmul (bit_xor a c) b ≡ bit_xor (clmul a b) (clmul c b)) none step
  where
    none : (a c : ℕ) → clmul (bit_xor a c) 0 ≡ bit_xor (clmul a 0) (clmul c 0)
    none a c = rw (clmul-zero (bit_xor a c), clmul-zero a, clmul-zero c) refl

    step : (b : ℕ) → ((a c : ℕ) → clmul (bit_xor a c) (b / 2) ≡ bit_xor (clmul a (b / 2)) (clmul c (b / 2))) → (a c : ℕ) → clmul (bit_xor a c) b ≡ bit_xor (clmul a b) (clmul c b)
    step b half a c =
        clmul-half (bit_xor a c) b
        ∙ ap (λ x. bit_xor x (clmul (bit_xor a c) (b / 2) * 2)) (bit_sum b a c)
        ∙ ap (λ x. bit_xor (bit_xor (b % 2 * a) (b % 2 * c)) (x * 2)) (half a c)
        ∙ ap (bit_xor (bit_xor (b % 2 * a) (b % 2 * c))) (sym (xor_double (clmul a (b / 2)) (clmul c (b / 2))))
        ∙ xor_exchange (b % 2 * a) (b % 2 * c) (clmul a (b / 2) * 2) (clmul c (b / 2) * 2)
        ∙ sym (ap (λ x. bit_xor x (clmul c b)) (clmul-half a b) ∙ ap (bit_xor (bit_xor (b % 2 * a) (clmul a (b / 2) * 2))) (clmul-half c b))

-- a doubled factor on the left
pub clmul-double_left : (b a : ℕ) → clmul (a * 2) b ≡ clmul a b * 2
clmul-double_left = bin_ind (λ b. (a : ℕ) → clmul (a * 2) b ≡ clmul a b * 2) none step
  where
    none : (a : ℕ) → clmul (a * 2) 0 ≡ clmul a 0 * 2
    none a = rw (clmul-zero (a * 2), clmul-zero a) refl

    step : (b : ℕ) → ((a : ℕ) → clmul (a * 2) (b / 2) ≡ clmul a (b / 2) * 2) → (a : ℕ) → clmul (a * 2) b ≡ clmul a b * 2
    step b half a =
        clmul-half (a * 2) b
        ∙ ap (λ x. bit_xor x (clmul (a * 2) (b / 2) * 2)) (bit_double b a)
        ∙ ap (λ x. bit_xor (b % 2 * a * 2) (x * 2)) (half a)
        ∙ xor_double (b % 2 * a) (clmul a (b / 2) * 2)
        ∙ ap (λ x. x * 2) (sym (clmul-half a b))

-- 1 is the unit
pub clmul-one_left : (b : ℕ) → clmul 1 b ≡ b
clmul-one_left = bin_ind (λ b. clmul 1 b ≡ b) (clmul-zero 1) step
  where
    step : (b : ℕ) → clmul 1 (b / 2) ≡ b / 2 → clmul 1 b ≡ b
    step b half =
        let e : b % 2 * 1 ≡ b % 2 = omega arith in
        clmul-half 1 b ∙ ap (λ x. bit_xor x (clmul 1 (b / 2) * 2)) e ∙ ap (λ x. bit_xor (b % 2) (x * 2)) half ∙ halves b

-- 0 on the left
pub clmul-zero_left : (b : ℕ) → clmul 0 b ≡ 0
clmul-zero_left b = sym (ap (λ x. clmul x b) (xor_self 1)) ∙ clmul-sum_left b 1 1 ∙ xor_self (clmul 1 b)

-- a bit as the left factor
clmul-bit_left : (a b : ℕ) → clmul (a % 2) b ≡ a % 2 * b
clmul-bit_left a b = elim (low_bit a) [
  | inl even ↦ rw even (clmul-zero_left b ∙ zero_times b)
  | inr odd ↦ rw odd (clmul-one_left b ∙ one_times b)
]
  where
    zero_times : (b : ℕ) → 0 ≡ 0 * b
    zero_times b = omega arith

    one_times : (b : ℕ) → b ≡ 1 * b
    one_times b = omega arith

-- the product by the lowest bit of a and by the others
pub clmul-half_left : (a b : ℕ) → clmul a b ≡ bit_xor (a % 2 * b) (clmul (a / 2) b * 2)
clmul-half_left a b =
    ap (λ x. clmul x b) (sym (halves a))
    ∙ clmul-sum_left b (a % 2) (a / 2 * 2)
    ∙ ap (λ x. bit_xor x (clmul (a / 2 * 2) b)) (clmul-bit_left a b)
    ∙ ap (bit_xor (a % 2 * b)) (clmul-double_left b (a / 2))

-- the product is commutative
pub clmul_comm : (a b : ℕ) → clmul a b ≡ clmul b a
clmul_comm a = bin_ind (λ b. clmul a b ≡ clmul b a) (clmul-zero a ∙ sym (clmul-zero_left a)) step
  where
    step : (b : ℕ) → clmul a (b / 2) ≡ clmul (b / 2) a → clmul a b ≡ clmul b a
    step b half = clmul-half a b ∙ ap (λ x. bit_xor (b % 2 * a) (x * 2)) half ∙ sym (clmul-half_left b a)

-- and distributive from the left
pub clmul-sum_right : (a b c : ℕ) → clmul a (bit_xor b c) ≡ bit_xor (clmul a b) (clmul a c)
clmul-sum_right a b c =
    clmul_comm a (bit_xor b c) ∙ clmul-sum_left a b c
    ∙ ap (λ x. bit_xor x (clmul c a)) (clmul_comm b a) ∙ ap (bit_xor (clmul a b)) (clmul_comm c a)

pub clmul-double_right : (a b : ℕ) → clmul a (b * 2) ≡ clmul a b * 2
clmul-double_right a b = clmul_comm a (b * 2) ∙ clmul-double_left a b ∙ ap (λ x. x * 2) (clmul_comm b a)

-- a power of 2 goes out of a product
pub clmul-shift_right : (a b k : ℕ) → clmul a (b * 2 ^ k) ≡ clmul a b * 2 ^ k
clmul-shift_right a b zero =
    let e : b * 1 ≡ b = omega arith in
    let f : clmul a b * 1 ≡ clmul a b = omega arith in
    rw (e, f) refl
clmul-shift_right a b (suc k) =
    ap (clmul a) (split b (2 ^ k) (2 ^ suc k) (pow-suc 2 k)) ∙ clmul-double_right a (b * 2 ^ k)
    ∙ ap (λ x. x * 2) (clmul-shift_right a b k) ∙ sym (split (clmul a b) (2 ^ k) (2 ^ suc k) (pow-suc 2 k))
  where
    split : (x p q : ℕ) → q ≡ p * 2 → x * q ≡ x * p * 2
    split x p q e = rw e (omega arith)

-- a bit goes out of a product
clmul-bit : (a b c : ℕ) → clmul a (c % 2 * b) ≡ c % 2 * clmul a b
clmul-bit a b c = elim (low_bit c) [
  | inl even ↦ rw even (none b (clmul a b))
  | inr odd ↦ rw odd (one b)
]
  where
    none : (b x : ℕ) → clmul a (0 * b) ≡ 0 * x
    none b x =
        let p : 0 * b ≡ 0 = omega arith in
        let q : 0 * x ≡ 0 = omega arith in
        rw (p, q) (clmul-zero a)

    one : (b : ℕ) → clmul a (1 * b) ≡ 1 * clmul a b
    one b =
        let p : 1 * b ≡ b = omega arith in
        let q : 1 * clmul a b ≡ clmul a b = omega arith in
        rw (p, q) refl

-- the product is associative
pub clmul_assoc : (a b c : ℕ) → clmul (clmul a b) c ≡ clmul a (clmul b c)
clmul_assoc a b = bin_ind (λ c. clmul (clmul a b) c ≡ clmul a (clmul b c)) none step
  where
    none : clmul (clmul a b) 0 ≡ clmul a (clmul b 0)
    none = clmul-zero (clmul a b) ∙ sym (ap (clmul a) (clmul-zero b) ∙ clmul-zero a)

    step : (c : ℕ) → clmul (clmul a b) (c / 2) ≡ clmul a (clmul b (c / 2)) → clmul (clmul a b) c ≡ clmul a (clmul b c)
    step c half =
        clmul-half (clmul a b) c
        ∙ ap (λ x. bit_xor (c % 2 * clmul a b) (x * 2)) half
        ∙ sym (ap (clmul a) (clmul-half b c)
        ∙ clmul-sum_right a (c % 2 * b) (clmul b (c / 2) * 2)
        ∙ ap (λ x. bit_xor x (clmul a (clmul b (c / 2) * 2))) (clmul-bit a b c)
        ∙ ap (bit_xor (c % 2 * clmul a b)) (clmul-double_right a (clmul b (c / 2))))
