-- Neighbouring bits of a row: those of one word, and those across two.
use Rattle.std.proofs.Common.{◌≡◌, ℕ, ◌+◌, ◌-◌, ◌*◌, ◌/◌, ◌%◌, ◌^◌, ◌<◌, ◌≤◌, inl, inr, max, List, get_or, sym, subst, ◌∙◌, ap, arith, bit_and}
use Rattle.std.specs.Prelude.{bit_or}
use Rattle.std.specs.Int.{bit_at}
use Rattle.std.proofs.Math.Nat.{mod-eq_of_lt, mod-lt}
use Rattle.std.proofs.Math.Pow.{pow-lt}
use Rattle.std.proofs.lemmas.Nat.{pow_pos}
use Rattle.std.specs.Int.Bits.{and_mask}
use Rattle.std.proofs.lemmas.Nat.Bits.{bit_at_or, bit_at_above}
use Rattle.std.proofs.lemmas.Bool.{cases_lt}
use Rattle.m4_bits.specs.Bits.{bit}
use Rattle.m4_bits.proofs.BitsLemmas.{bit_at-mask_below}
use Rattle.m4_bits.proofs.TransposeLemmas.{bit_at-shr, bit_at-mod, bit_at-shl_low, bit_at-shl_high}

-- ---- the lowest bits of a word
one_at : (n : ℕ) → n ≤ 16 → 1 * 2 ^ n % 2 ^ 64 ≡ 2 ^ n
one_at n few =
    let one : 1 * 2 ^ n ≡ 2 ^ n = omega arith in
    let under : n < 64 = omega arith in
    let small : 2 ^ n < 2 ^ 64 = pow-lt under in
    ap (λ x. x % 2 ^ 64) one ∙ mod-eq_of_lt small

pub bit_at-lowest : (word n i : ℕ) → n ≤ 16 → i < n → bit_at (bit_and word (1 * 2 ^ n % 2 ^ 64 - 1)) i ≡ bit_at word i
bit_at-lowest word n i few below =
    ap (λ x. bit_at (bit_and word (x - 1)) i) (one_at n few) ∙ bit_at-mask_below word n i below

pub lowest-lt : (word n : ℕ) → n ≤ 16 → bit_and word (1 * 2 ^ n % 2 ^ 64 - 1) < 2 ^ n
lowest-lt word n few =
    let is : bit_and word (1 * 2 ^ n % 2 ^ 64 - 1) ≡ word % 2 ^ n = ap (λ x. bit_and word (x - 1)) (one_at n few) ∙ and_mask word n in
    let P : ℕ → Type 0 = λ x. x < 2 ^ n in
    subst P (sym is) (mod-lt word (pow_pos n))

-- ---- where they stand in a row
pub bit_in_word : (row : List ℕ) (j i : ℕ) → j % 64 + i < 64 → bit_at (get_or row (j / 64) 0 / 2 ^ (j % 64)) i ≡ bit row (j + i)
bit_in_word row j i inside =
    let place : j / 64 ≡ (j + i) / 64 = omega arith in
    let within : j % 64 + i ≡ (j + i) % 64 = omega arith in
    bit_at-shr (get_or row (j / 64) 0) (j % 64) i ∙ (λ t. bit_at (get_or row (place t) 0) (within t))

-- two words that meet
pub bit_across : (row : List ℕ) (j i : ℕ) → get_or row (j / 64) 0 < 2 ^ 64 → i < 64 → 0 < j % 64
    → bit_at (bit_or (get_or row (j / 64) 0 / 2 ^ (j % 64)) (get_or row (j / 64 + 1) 0 * 2 ^ (64 - j % 64) % 2 ^ 64)) i ≡ bit row (j + i)
bit_across row j i fits small some =
    let x = get_or row (j / 64) 0 in
    let y = get_or row (j / 64 + 1) 0 in
    let f = j % 64 in
    bit_at_or (x / 2 ^ f) (y * 2 ^ (64 - f) % 2 ^ 64) i
    ∙ elim (cases_lt (f + i) 64) [
      | inl inside ↦
          ap (max (bit_at (x / 2 ^ f) i)) (bit_at-mod (y * 2 ^ (64 - f)) 64 i small ∙ bit_at-shl_low y (64 - f) i (omega (arith, inside)))
          ∙ (let most : max (bit_at (x / 2 ^ f) i) 0 ≡ bit_at (x / 2 ^ f) i = omega arith in most)
          ∙ bit_in_word row j i inside
      | inr past ↦
          let place : j / 64 + 1 ≡ (j + i) / 64 = omega arith in
          let within : f + i - 64 ≡ (j + i) % 64 = omega arith in
          ap (λ b. max b (bit_at (y * 2 ^ (64 - f) % 2 ^ 64) i)) (bit_at-shr x f i ∙ bit_at_above x 64 (f + i) fits past)
          ∙ (let most : max 0 (bit_at (y * 2 ^ (64 - f) % 2 ^ 64) i) ≡ bit_at (y * 2 ^ (64 - f) % 2 ^ 64) i = omega arith in most)
          ∙ bit_at-mod (y * 2 ^ (64 - f)) 64 i small ∙ bit_at-shl_high y (64 - f) i (f + i - 64) (omega (arith, past))
          ∙ (λ t. bit_at (get_or row (place t) 0) (within t))
    ]
