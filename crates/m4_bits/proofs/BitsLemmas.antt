-- The bits of a written word, of a sum of rows and of a masked row.
use Rattle.std.proofs.Common.{eqb, ◌==◌, if◌then◌else◌, ◌≡◌, ◌≢◌, ℕ, zero, suc, ◌+◌, ◌-◌, ◌*◌, ◌/◌, ◌%◌, ◌^◌, ◌<◌, ◌≤◌, inl, inr, List, [], ◌∷◌, length, get_or, set, refl, sym, ◌∙◌, ap, arith, bit_xor, bit_and}
use Rattle.std.specs.Int.{bit_at}
use Rattle.std.proofs.lemmas.Nat.{xor_shr, xor_mod}
use Rattle.std.proofs.lemmas.Nat.Bits.{bit_at_and, bit_at_ones, bit_at_ones_above, bit_at-lt, bit_at-zero, bit_at-pow_same, bit_at-pow_other}
use Rattle.std.specs.Int.Bits.{xor_zero_r}
use Rattle.std.proofs.Math.Pow.{pow-lt}
use Rattle.std.proofs.Math.Nat.{mod-eq_of_lt}
use Rattle.std.proofs.lemmas.List.{length-set, get_or-set_same, get_or-set_other, get_or_past}
use Rattle.std.proofs.lemmas.Bool.{cases_eq, cases_lt, cond_both, eqb-true, eqb-false}
use Rattle.m4_model.specs.Matrix.{row_sum}
use Rattle.m4_model.specs.Text.{words_per_row}
use Rattle.m4_bits.specs.Bits.{bit, last_bits, masked}

-- the bits in use of the last word, without a case
pub last_bits-is : (cols : ℕ) → last_bits cols ≡ (cols + 63) % 64 + 1
last_bits-is cols =
    cond_both (eqb (cols % 64) 0) 64 (cols % 64) (λ used. used ≡ (cols + 63) % 64 + 1)
    (λ is. let none = eqb-true (cols % 64) 0 is in omega arith)
    (λ is. let some = eqb-false (cols % 64) 0 is in omega (arith, some))

-- one bit of a sum of words
pub bit_at-xor : (a b i : ℕ) → bit_at (bit_xor a b) i ≡ bit_xor (bit_at a i) (bit_at b i)
bit_at-xor a b i = rw (xor_shr a b i) (xor_mod (a / 2 ^ i) (b / 2 ^ i) 1)

-- a bit below a mask's end stays
pub bit_at-mask_below : (w n i : ℕ) → i < n → bit_at (bit_and w (2 ^ n - 1)) i ≡ bit_at w i
bit_at-mask_below w n i below =
    bit_at_and w (2 ^ n - 1) i ∙ (let one = bit_at_ones n i below in rw one (let small = bit_at-lt w i in omega arith))

-- a bit from a mask's end on is gone
pub bit_at-mask_past : (w n i : ℕ) → n ≤ i → bit_at (bit_and w (2 ^ n - 1)) i ≡ 0
bit_at-mask_past w n i past =
    bit_at_and w (2 ^ n - 1) i ∙ (let none = bit_at_ones_above n i past in rw none (omega arith))

-- a bit is 0 or 1
pub bit-lt : (row : List ℕ) (j : ℕ) → bit row j < 2
bit-lt row j = bit_at-lt (get_or row (j / 64) 0) (j % 64)

-- past the last word there is no bit
pub bit_past : (row : List ℕ) (j : ℕ) → length row ≤ j / 64 → bit row j ≡ 0
bit_past row j past = rw (get_or_past row (j / 64) 0 past) (bit_at-zero (j % 64))

-- a written word: the bit in it
pub bit-set_same : (row : List ℕ) (j w : ℕ) → j / 64 < length row → bit (set row (j / 64) w) j ≡ bit_at w (j % 64)
bit-set_same row j w within = rw (get_or-set_same row (j / 64) w 0 within) refl

-- a written word: every other bit, where the word's own other bits stay
pub bit-set_other : (row : List ℕ) (j k w : ℕ) → j / 64 < length row → k ≢ j
    → ((i : ℕ) → i < 64 → i ≢ j % 64 → bit_at w i ≡ bit_at (get_or row (j / 64) 0) i) → bit (set row (j / 64) w) k ≡ bit row k
bit-set_other row j k w within other same =
    elim (cases_eq (k / 64) (j / 64)) [
      | inl here ↦
          rw here (rw (get_or-set_same row (j / 64) w 0 within)
          (same (k % 64) (omega arith) (λ is. other (omega (arith, here, is)))))
      | inr there ↦ rw (get_or-set_other row (j / 64) (k / 64) w 0 there) refl
    ]

-- a sum of rows is as long as its first
pub length-row_sum : (xs ys : List ℕ) → length (row_sum xs ys) ≡ length xs
length-row_sum [] ys = refl
length-row_sum (x ∷ xs) [] = refl
length-row_sum (x ∷ xs) (y ∷ ys) = ap suc (length-row_sum xs ys)

-- its entries
pub get_or-row_sum : (xs ys : List ℕ) (k : ℕ) → length xs ≡ length ys → get_or (row_sum xs ys) k 0 ≡ bit_xor (get_or xs k 0) (get_or ys k 0)
get_or-row_sum [] [] k same = refl
get_or-row_sum [] (y ∷ ys) k same = absurd (omega arith)
get_or-row_sum (x ∷ xs) [] k same = absurd (omega arith)
get_or-row_sum (x ∷ xs) (y ∷ ys) zero same = refl
get_or-row_sum (x ∷ xs) (y ∷ ys) (suc k) same = get_or-row_sum xs ys k (omega arith)

-- a bit of a sum of rows of words is the sum of the bits
pub bit-row_sum : (xs ys : List ℕ) (j : ℕ) → length xs ≡ length ys → bit (row_sum xs ys) j ≡ bit_xor (bit xs j) (bit ys j)
bit-row_sum xs ys j same =
    rw (get_or-row_sum xs ys (j / 64) same) (bit_at-xor (get_or xs (j / 64) 0) (get_or ys (j / 64) 0) (j % 64))

-- a masked row is as long as before
pub length-masked : (words : List ℕ) (mask : ℕ) → length (masked words mask) ≡ length words
length-masked words mask = length-set words _ _

-- a masked row keeps the bits of its columns
pub bit-masked_below : (words : List ℕ) (cols j : ℕ) → length words ≡ words_per_row cols → j < cols
    → bit (masked words (2 ^ last_bits cols - 1)) j ≡ bit words j
bit-masked_below words cols j long below =
    elim (cases_eq (j / 64) (length words - 1)) [
      | inl last ↦
          rw last (rw (get_or-set_same words (length words - 1) _ 0 (omega arith))
          (bit_at-mask_below _ (last_bits cols) (j % 64) (rw (last_bits-is cols) (omega (arith, last)))))
      | inr before ↦ rw (get_or-set_other words (length words - 1) (j / 64) _ 0 before) refl
    ]

-- a masked row has no bit past its columns
pub bit-masked_past : (words : List ℕ) (cols j : ℕ) → length words ≡ words_per_row cols → cols ≤ j
    → bit (masked words (2 ^ last_bits cols - 1)) j ≡ 0
bit-masked_past words cols j long past =
    elim (cases_lt (j / 64) (length words)) [
      | inl within ↦
          let last : j / 64 ≡ length words - 1 = omega arith in
          rw last (rw (get_or-set_same words (length words - 1) _ 0 (omega arith))
          (bit_at-mask_past _ (last_bits cols) (j % 64) (rw (last_bits-is cols) (omega (arith, last)))))
      | inr outside ↦ bit_past (masked words (2 ^ last_bits cols - 1)) j (rw (length-masked words (2 ^ last_bits cols - 1)) outside)
    ]

-- a bit of the columns of a masked row added to a row
pub bit-sum_masked_below : (row src : List ℕ) (cols j : ℕ) → length row ≡ length src → length src ≡ words_per_row cols → j < cols
    → bit (row_sum row (masked src (2 ^ last_bits cols - 1))) j ≡ bit_xor (bit row j) (bit src j)
bit-sum_masked_below row src cols j same long below =
    let mask = 2 ^ last_bits cols - 1 in
    bit-row_sum row (masked src mask) j (same ∙ sym (length-masked src mask))
    ∙ ap (λ b. bit_xor (bit row j) b) (bit-masked_below src cols j long below)

-- a bit past the columns stays where a masked row is added
pub bit-sum_masked_past : (row src : List ℕ) (cols j : ℕ) → length row ≡ length src → length src ≡ words_per_row cols → cols ≤ j
    → bit (row_sum row (masked src (2 ^ last_bits cols - 1))) j ≡ bit row j
bit-sum_masked_past row src cols j same long past =
    let mask = 2 ^ last_bits cols - 1 in
    bit-row_sum row (masked src mask) j (same ∙ sym (length-masked src mask))
    ∙ (ap (λ b. bit_xor (bit row j) b) (bit-masked_past src cols j long past) ∙ xor_zero_r (bit row j))

-- 0 or 1 at its place in a word
placed-is : (change s : ℕ) → change < 2 → s < 64 → change * 2 ^ s % 2 ^ 64 ≡ (if change == 0 then 0 else 2 ^ s)
placed-is zero s small within = omega arith
placed-is (suc zero) s small within = ap (λ w. w % 2 ^ 64) (omega arith) ∙ mod-eq_of_lt (pow-lt within)
placed-is (suc (suc more)) s small within = absurd (omega (arith, small))

-- 0 or 1 added to a bit of a word: that bit
pub bit_at-added_same : (w change s : ℕ) → change < 2 → s < 64 → bit_at (bit_xor w (change * 2 ^ s % 2 ^ 64)) s ≡ bit_xor (bit_at w s) change
bit_at-added_same w zero s small within =
    bit_at-xor w (0 * 2 ^ s % 2 ^ 64) s ∙ ap (λ b. bit_xor (bit_at w s) b) (ap (λ v. bit_at v s) (placed-is 0 s small within) ∙ bit_at-zero s)
bit_at-added_same w (suc zero) s small within =
    bit_at-xor w (1 * 2 ^ s % 2 ^ 64) s
    ∙ ap (λ b. bit_xor (bit_at w s) b) (ap (λ v. bit_at v s) (placed-is 1 s small within) ∙ bit_at-pow_same s)
bit_at-added_same w (suc (suc more)) s small within = absurd (omega (arith, small))

-- 0 or 1 added to a bit of a word: every other bit
pub bit_at-added_other : (w change s i : ℕ) → change < 2 → s < 64 → i ≢ s → bit_at (bit_xor w (change * 2 ^ s % 2 ^ 64)) i ≡ bit_at w i
bit_at-added_other w zero s i small within other =
    bit_at-xor w (0 * 2 ^ s % 2 ^ 64) i
    ∙ (ap (λ b. bit_xor (bit_at w i) b) (ap (λ v. bit_at v i) (placed-is 0 s small within) ∙ bit_at-zero i) ∙ xor_zero_r (bit_at w i))
bit_at-added_other w (suc zero) s i small within other =
    bit_at-xor w (1 * 2 ^ s % 2 ^ 64) i
    ∙ (ap (λ b. bit_xor (bit_at w i) b) (ap (λ v. bit_at v i) (placed-is 1 s small within) ∙ bit_at-pow_other s i other) ∙ xor_zero_r (bit_at w i))
bit_at-added_other w (suc (suc more)) s i small within other = absurd (omega (arith, small))
