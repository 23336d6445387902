-- The highest bit of a polynomial, of a sum and of a product, and division with remainder.
use Rattle.std.proofs.Common.{◌≡◌, ℕ, zero, suc, ◌+◌, ◌-◌, ◌*◌, ◌/◌, ◌%◌, ◌^◌, ◌<◌, ◌≤◌, ◌⊎◌, refl, sym, ◌∙◌, ap, subst, arith, inl, inr, bit_xor}
use Rattle.std.specs.Int.Bits.{xor_block, xor_assoc, xor_comm, xor_zero_l, xor_lt}
use Rattle.std.proofs.Math.Nat.{pow-suc}
use Rattle.std.proofs.Math.Pow.{pow_pos, pow_mono}
use lib.Arith.{bin_ind}
use Rattle.m4_model.specs.Field.{bit_length, clmul}
use Rattle.m4_model.proofs.Polynomials.{xor_twice, clmul-half, clmul_comm, clmul-zero, clmul-one_left, clmul-sum_right, clmul-shift_right, bit_length-zero, bit_length-half}

-- the highest bit of n is bit k
pub record IsTop (k n : ℕ) : Type 0 where
  pub low : 2 ^ k ≤ n
  pub high : n < 2 ^ suc k

-- half of a number has its highest bit one below
half_top : (k n : ℕ) → IsTop (suc k) n → IsTop k (n / 2)
half_top k n top = record {
  low = lower (2 ^ k) (2 ^ suc k) n (pow-suc 2 k) top.low;
  high = upper (2 ^ suc k) (2 ^ suc (suc k)) n (pow-suc 2 (suc k)) top.high;
}
  where
    lower : (p q n : ℕ) → q ≡ p * 2 → q ≤ n → p ≤ n / 2
    lower p q n e h = omega arith

    upper : (p q n : ℕ) → q ≡ p * 2 → n < q → n / 2 < p
    upper p q n e h = omega arith

-- twice a number has it one above
double_top : (k n : ℕ) → IsTop k n → IsTop (suc k) (n * 2)
double_top k n top = record {
  low = lower (2 ^ k) (2 ^ suc k) n (pow-suc 2 k) top.low;
  high = upper (2 ^ suc k) (2 ^ suc (suc k)) n (pow-suc 2 (suc k)) top.high;
}
  where
    lower : (p q n : ℕ) → q ≡ p * 2 → p ≤ n → q ≤ n * 2
    lower p q n e h = omega arith

    upper : (p q n : ℕ) → q ≡ p * 2 → n < p → n * 2 < q
    upper p q n e h = omega arith

-- a number with highest bit k is 2^k and less than that much more
top_rest : (k n : ℕ) → IsTop k n → (rest : ℕ) × (rest < 2 ^ k) × (n ≡ 1 * 2 ^ k + rest)
top_rest k n top = (n - 2 ^ k, below (2 ^ k) (2 ^ suc k) n (pow-suc 2 k) top.low top.high, whole (2 ^ k) n top.low)
  where
    below : (p q n : ℕ) → q ≡ p * 2 → p ≤ n → n < q → n - p < p
    below p q n e l h = omega arith

    whole : (p n : ℕ) → p ≤ n → n ≡ 1 * p + (n - p)
    whole p n l = omega arith

small_rest : (k x : ℕ) → x ≡ 0 * 2 ^ k + x
small_rest k x = omega arith

-- a smaller number added leaves the highest bit
xor_top : (k x n : ℕ) → x < 2 ^ k → IsTop k n → IsTop k (bit_xor x n)
xor_top k x n small top =
    let r = top_rest k n top in
    let e : bit_xor x n ≡ 1 * 2 ^ k + bit_xor x r.0 =
    ap (λ y. bit_xor y n) (small_rest k x) ∙ ap (bit_xor (0 * 2 ^ k + x)) r.2 ∙ xor_block k 0 1 x r.0 small r.1
    in
    let low = xor_lt k x r.0 small r.1 in
    let P : ℕ → Type 0 = IsTop k in
    subst P (sym e) (make (bit_xor x r.0) low)
  where
    make : (rest : ℕ) → rest < 2 ^ k → IsTop k (1 * 2 ^ k + rest)
    make rest below = let p = pow-suc 2 k in record { low = omega arith; high = omega (arith, p) }

-- two numbers with one highest bit: it falls away from their sum
pub xor_tops : (k m n : ℕ) → IsTop k m → IsTop k n → bit_xor m n < 2 ^ k
xor_tops k m n first second =
    let r = top_rest k m first in
    let s = top_rest k n second in
    let e : bit_xor m n ≡ 0 * 2 ^ k + bit_xor r.0 s.0 =
    ap (λ y. bit_xor y n) r.2 ∙ ap (bit_xor (1 * 2 ^ k + r.0)) s.2 ∙ xor_block k 1 1 r.0 s.0 r.1 s.1
    in
    let low = xor_lt k r.0 s.0 r.1 s.1 in
    rw (e, sym (small_rest k (bit_xor r.0 s.0))) low

-- the highest bit of a product is the sum of those of its factors
pub product_top : (k j a b : ℕ) → IsTop j a → IsTop k b → IsTop (k + j) (clmul a b)
product_top zero j a b first second =
    let one : b ≡ 1 = omega (arith, second.low, second.high) in
    let same : clmul a b ≡ a = ap (clmul a) one ∙ clmul_comm a 1 ∙ clmul-one_left a in
    let e : zero + j ≡ j = omega arith in
    rw (e, same) first
product_top (suc k) j a b first second =
    let half = product_top k j a (b / 2) first (half_top k b second) in
    let doubled = double_top (k + j) (clmul a (b / 2)) half in
    let e : suc k + j ≡ suc (k + j) = omega arith in
    let small : b % 2 * a < 2 ^ suc (k + j) = bit_times b a (2 ^ suc j) (2 ^ suc (k + j)) first.high (pow_mono {i = suc j} {j = suc (k + j)} (omega arith)) in
    rw (e, clmul-half a b) (xor_top (suc (k + j)) (b % 2 * a) (clmul a (b / 2) * 2) small doubled)
  where
    times : (r a p q : ℕ) → r < 2 → a < p → p ≤ q → r * a < q
    times zero a p q small below le = omega arith
    times (suc zero) a p q small below le = omega arith
    times (suc (suc r)) a p q small below le = absurd (omega arith)

    bit_times : (b a p q : ℕ) → a < p → p ≤ q → b % 2 * a < q
    bit_times b a p q below le = times (b % 2) a p q (omega arith) below le

-- a number that isn't 0 has a highest bit, and one bit more than its number
top_of_none : 0 < 0 → (k : ℕ) × (bit_length 0 ≡ suc k) × IsTop k 0
top_of_none some = absurd (omega arith)

top_of_step : (n : ℕ) → (0 < n / 2 → (k : ℕ) × (bit_length (n / 2) ≡ suc k) × IsTop k (n / 2)) → 0 < n → (k : ℕ) × (bit_length n ≡ suc k) × IsTop k n
top_of_step zero half some = absurd (omega arith)
top_of_step (suc zero) half some = (0, bit_length-half 1 (omega arith) ∙ ap (λ x. x + 1) bit_length-zero, record { low = omega arith; high = omega arith })
top_of_step (suc (suc n)) half some =
    let h = half (omega arith) in
    (suc h.0, bit_length-half (suc (suc n)) (omega arith) ∙ ap (λ x. x + 1) h.1 ∙ (omega arith), raise h.0 (suc (suc n)) h.2)
  where
    raise : (k n : ℕ) → IsTop k (n / 2) → IsTop (suc k) n
    raise k n top =
        let p = pow-suc 2 k in
        let q = pow-suc 2 (suc k) in
        record { low = omega (arith, p, q, top.low, top.high); high = omega (arith, p, q, top.low, top.high) }

pub top_of : (n : ℕ) → 0 < n → (k : ℕ) × (bit_length n ≡ suc k) × IsTop k n
top_of = bin_ind (λ n. 0 < n → (k : ℕ) × (bit_length n ≡ suc k) × IsTop k n) top_of_none top_of_step

pub has_top : (n : ℕ) → 0 < n → IsTop (bit_length n - 1) n
has_top n some = let t = top_of n some in rw (one_less (bit_length n) t.0 t.1) t.2
  where
    one_less : (b k : ℕ) → b ≡ suc k → b - 1 ≡ k
    one_less b k e = omega arith

-- a number below 2^(k+1) is below 2^k, or has its highest bit at k
pub below_or_top : (k n : ℕ) → n < 2 ^ suc k → (n < 2 ^ k) ⊎ IsTop k n
below_or_top k n below = cases (n - 2 ^ k) (2 ^ k - n) refl refl
  where
    cases : (over under : ℕ) → over ≡ n - 2 ^ k → under ≡ 2 ^ k - n → (n < 2 ^ k) ⊎ IsTop k n
    cases over zero is_over is_under = inr (record { low = omega arith; high = below })
    cases over (suc under) is_over is_under = inl (omega arith)

-- the product with a power of 2
pub clmul-power : (a s : ℕ) → clmul a (2 ^ s) ≡ a * 2 ^ s
clmul-power a s =
    let e : 1 * 2 ^ s ≡ 2 ^ s = omega arith in
    ap (clmul a) (sym e) ∙ clmul-shift_right a 1 s ∙ ap (λ x. x * 2 ^ s) (clmul_comm a 1 ∙ clmul-one_left a)

-- a power of 2 has its highest bit there
pub power_top : (s : ℕ) → IsTop s (2 ^ s)
power_top s = let p = pow-suc 2 s in let q = pow_pos s in record { low = omega arith; high = omega (arith, p, q) }

-- a number shifted up
pub shift_top : (k a s m : ℕ) → m ≡ s + k → IsTop k a → IsTop m (a * 2 ^ s)
shift_top k a s m is top =
    let P : ℕ → Type 0 = IsTop m in
    subst P (clmul-power a s) (rw is (product_top s k a (2 ^ s) top (power_top s)))

-- a polynomial as a multiple of another and a rest of lower degree
pub record Divides (k a c : ℕ) : Type 0 where
  pub quotient : ℕ
  pub rest : ℕ
  pub whole : c ≡ bit_xor (clmul a quotient) rest
  pub small : rest < 2 ^ k

-- a polynomial of lower degree is its own rest
no_multiple : (k a c : ℕ) → c < 2 ^ k → Divides k a c
no_multiple k a c small =
    record { quotient = 0; rest = c; whole = sym (ap (λ x. bit_xor x c) (clmul-zero a) ∙ xor_zero_l c); small = small }

-- a multiple of a with the same highest bit is added
divide_step : (k a m c : ℕ) → IsTop k a → k ≤ m → IsTop m c → ((c : ℕ) → c < 2 ^ m → Divides k a c) → Divides k a c
divide_step k a m c top reaches high smaller =
    let s = m - k in
    let shifted = shift_top k a s m (omega (arith, reaches)) top in
    let others = smaller (bit_xor c (a * 2 ^ s)) (xor_tops m c (a * 2 ^ s) high shifted) in
    record {
      quotient = bit_xor others.quotient (2 ^ s);
      rest = others.rest;
      whole = together others.quotient others.rest s others.whole;
      small = others.small;
    }
  where
    together : (quotient rest s : ℕ) → bit_xor c (a * 2 ^ s) ≡ bit_xor (clmul a quotient) rest → c ≡ bit_xor (clmul a (bit_xor quotient (2 ^ s))) rest
    together quotient rest s is =
        sym (xor_twice (a * 2 ^ s) c) ∙ ap (bit_xor (a * 2 ^ s)) (xor_comm (a * 2 ^ s) c ∙ is)
        ∙ sym (xor_assoc (a * 2 ^ s) (clmul a quotient) rest)
        ∙ ap (λ x. bit_xor x rest) (xor_comm (a * 2 ^ s) (clmul a quotient) ∙ ap (bit_xor (clmul a quotient)) (sym (clmul-power a s)) ∙ sym (clmul-sum_right a quotient (2 ^ s)))

-- the highest bit of the dividend lies below that of the divisor, or not
divide_cases : (k a m c over : ℕ) → over ≡ suc m - k → IsTop k a → IsTop m c → ((c : ℕ) → c < 2 ^ m → Divides k a c) → Divides k a c
divide_cases k a m c zero is top high smaller =
    no_multiple k a c (lt_mono c (2 ^ suc m) (2 ^ k) high.high (pow_mono {i = suc m} {j = k} (omega arith)))
  where
    lt_mono : (x p q : ℕ) → x < p → p ≤ q → x < q
    lt_mono x p q l le = omega arith
divide_cases k a m c (suc over) is top high smaller = divide_step k a m c top (omega arith) high smaller

-- division with remainder
pub divide : (k a : ℕ) → IsTop k a → (m c : ℕ) → c < 2 ^ m → Divides k a c
divide k a top zero c below = no_multiple k a c (least (2 ^ k) c (pow_pos k) below)
  where
    least : (p c : ℕ) → 0 < p → c < 1 → c < p
    least p c some none = omega arith
divide k a top (suc m) c below = elim (below_or_top m c below) [
  | inl small ↦ divide k a top m c small
  | inr high ↦ divide_cases k a m c (suc m - k) refl top high (divide k a top m)
]
