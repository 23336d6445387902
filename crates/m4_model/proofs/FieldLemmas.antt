-- Sums and products of elements: what holds of every field, and what holds over GF(2).
use Rattle.std.proofs.Common.{◌≡◌, ℕ, zero, suc, ◌+◌, ◌*◌, ◌^◌, ◌<◌, refl, arith, inl, bit_xor, add-one}
use Rattle.std.specs.Int.Bits.{xor_lt}
use Rattle.std.proofs.Math.Pow.{pow_pos}
use Rattle.m4_model.specs.Field.{IsField, gf2, sum_below, mul, clmul, rem_within, bits_within}

-- a sum of one term more
pub sum_below-more : (n : ℕ) (g : ℕ → ℕ) → sum_below (n + 1) g ≡ bit_xor (sum_below n g) (g n)
unfolding sum_below
sum_below-more n g = rw add-one refl

-- terms that agree have one sum
pub sum_below-same : (n : ℕ) (g h : ℕ → ℕ) → ((i : ℕ) → i < n → g i ≡ h i) → sum_below n g ≡ sum_below n h
unfolding sum_below
sum_below-same zero g h same = refl
sum_below-same (suc n) g h same =
    let before = sum_below-same n g h (λ i below. same i (omega (arith, below))) in
    let last = same n (omega arith) in
    rw (before, last) refl

-- a sum of numbers of k bits has k bits
pub sum_below-lt : (k n : ℕ) (g : ℕ → ℕ) → ((i : ℕ) → i < n → g i < 2 ^ k) → sum_below n g < 2 ^ k
unfolding sum_below
sum_below-lt k zero g small = pow_pos k
sum_below-lt k (suc n) g small =
    xor_lt k (sum_below n g) (g n) (sum_below-lt k n g (λ i below. small i (omega (arith, below)))) (small n (omega arith))

-- GF(2) is a field
pub gf2_field : IsField gf2
gf2_field = inl refl

-- over GF(2) the product of elements is that of numbers
pub mul_gf2 : (a b : ℕ) → a < 2 → b < 2 → mul gf2 a b ≡ a * b
unfolding mul clmul rem_within bits_within sum_below
mul_gf2 zero zero low lowb = refl
mul_gf2 zero (suc zero) low lowb = refl
mul_gf2 (suc zero) zero low lowb = refl
mul_gf2 (suc zero) (suc zero) low lowb = refl
mul_gf2 (suc (suc a)) b low lowb = absurd (omega arith)
mul_gf2 zero (suc (suc b)) low lowb = absurd (omega arith)
mul_gf2 (suc zero) (suc (suc b)) low lowb = absurd (omega arith)
