-- Values of polynomials by Horner's rule, and the stripes of a source.
use Rattle.std.specs.List.{slice_range}
use Rattle.std.proofs.lemmas.List.{get_or_past, length-drop}
use Rattle.std.proofs.Common.{◌≡◌, ℕ, suc, ◌+◌, ◌-◌, ◌*◌, ◌<◌, ◌≤◌, List, length, get_or, drop, length-take, get_or-take, get_or-drop, sym, ◌∙◌, ap, ap₂, arith, bit_xor}
use Rattle.m4_model.specs.Field.{sum_below, mul}
use Rattle.m4_model.proofs.FieldLemmas.{sum_below-same}
use Rattle.m4_model.proofs.SumLemmas.{mul-zero_left, mul-one_right, mul-sum_below, sum_below-short}
use Rattle.m4_model.proofs.Polynomials.{sum_below-first}
use Rattle.m4_erasure.specs.Shards.{gf256, power, stripes, stripe_value}
use Rattle.m4_erasure.proofs.Gf256.{gf256_laws}

-- the sum with powers of the n coefficients from place i on
abbrev pub value_from : List ℕ → ℕ → ℕ → ℕ → ℕ
value_from xs x i n = sum_below n (λ s. mul gf256 (get_or xs (i + s) 0) (power x s))

-- a step of Horner's rule
pub horner : (xs : List ℕ) (x i n : ℕ) → get_or xs i 0 < 256
    → value_from xs x i (suc n) ≡ bit_xor (get_or xs i 0) (mul gf256 x (value_from xs x (i + 1) n))
unfolding power
horner xs x i n byte =
    let here : i + 0 ≡ i = omega arith in
    sum_below-first n (λ s. mul gf256 (get_or xs (i + s) 0) (power x s))
    ∙ ap₂ bit_xor
    (ap (λ (j : ℕ). mul gf256 (get_or xs j 0) 1) here ∙ mul-one_right gf256 gf256_laws (get_or xs i 0) byte)
    (sum_below-same n (λ s. mul gf256 (get_or xs (i + suc s) 0) (power x (suc s))) (λ s. mul gf256 x (mul gf256 (get_or xs (i + 1 + s) 0) (power x s)))
    (λ s below.
    let e : i + suc s ≡ i + 1 + s = omega arith in
    let a : ℕ = get_or xs (i + 1 + s) 0 in
    ap (λ (j : ℕ). mul gf256 (get_or xs j 0) (mul gf256 x (power x s))) e
    ∙ sym (gf256_laws.assoc a x (power x s)) ∙ ap (λ (y : ℕ). mul gf256 y (power x s)) (gf256_laws.comm a x) ∙ gf256_laws.assoc x a (power x s))
    ∙ sym (mul-sum_below gf256 gf256_laws x n (λ s. mul gf256 (get_or xs (i + 1 + s) 0) (power x s))))

-- the same, of the last coefficients
pub horner_step : (xs : List ℕ) (x i value product : ℕ) → 0 < i → i ≤ length xs → get_or xs (i - 1) 0 < 256
    → value ≡ value_from xs x i (length xs - i) → product ≡ mul gf256 x value
    → bit_xor (get_or xs (i - 1) 0) product ≡ value_from xs x (i - 1) (length xs - (i - 1))
horner_step xs x i value product some within byte so_far is =
    let more : length xs - (i - 1) ≡ suc (length xs - i) = omega arith in
    let next : i - 1 + 1 ≡ i = omega arith in
    sym (ap (value_from xs x (i - 1)) more ∙ horner xs x (i - 1) (length xs - i) byte
    ∙ ap (λ (j : ℕ). bit_xor (get_or xs (i - 1) 0) (mul gf256 x (value_from xs x j (length xs - i)))) next
    ∙ ap (λ (v : ℕ). bit_xor (get_or xs (i - 1) 0) (mul gf256 x v)) (sym so_far)
    ∙ ap (bit_xor (get_or xs (i - 1) 0)) (sym is))

-- a stripe begins within the source
pub stripe_inside : (n k t : ℕ) → 0 < k → t < stripes k n → t * k < n
stripe_inside n k t some below = grind arith

-- a part of a list
length-range : (xs : List ℕ) (a e : ℕ) → e ≤ length xs → a ≤ e → length (slice_range xs a e) ≡ e - a
length-range xs a e within order = omega (arith, length-take (e - a) (drop a xs), length-drop a xs)

get_or-range : (xs : List ℕ) (a e i : ℕ) → i < e - a → get_or (slice_range xs a e) i 0 ≡ get_or xs (a + i) 0
get_or-range xs a e i below = get_or-take (e - a) (drop a xs) i 0 below ∙ get_or-drop a xs i 0

-- the value of a stripe, which ends with its last byte that isn't past the source
pub whole_stripe : (src : List ℕ) (k t e x : ℕ) → t * k ≤ e → e ≤ t * k + k → e ≤ length src → (e < t * k + k → length src ≤ e)
    → sum_below (length (slice_range src (t * k) e)) (λ i. mul gf256 (get_or (slice_range src (t * k) e) i 0) (power x i)) ≡ stripe_value src k x t
whole_stripe src k t e x order within inside last =
    let part = slice_range src (t * k) e in
    let long : length part ≡ e - t * k = length-range src (t * k) e inside order in
    ap (λ (n : ℕ). sum_below n (λ i. mul gf256 (get_or part i 0) (power x i))) long
    ∙ sum_below-same (e - t * k) (λ i. mul gf256 (get_or part i 0) (power x i)) (λ i. mul gf256 (get_or src (t * k + i) 0) (power x i))
    (λ i below. ap (λ (c : ℕ). mul gf256 c (power x i)) (get_or-range src (t * k) e i below))
    ∙ sym (sum_below-short (e - t * k) k (λ i. mul gf256 (get_or src (t * k + i) 0) (power x i)) (omega arith)
    (λ i past below.
    let end : length src ≤ t * k + i = let h = last (omega arith) in omega arith in
    ap (λ (c : ℕ). mul gf256 c (power x i)) (get_or_past src (t * k + i) 0 end) ∙ mul-zero_left gf256 gf256_laws (power x i)))
