-- The exchange of halves of two words, bit by bit, and six of them in a row.
use Rattle.std.proofs.Common.{eqb, ◌≡◌, ℕ, zero, suc, ◌+◌, ◌-◌, ◌*◌, ◌/◌, ◌%◌, ◌^◌, ◌<◌, min, ◌⊎◌, inl, inr, Bool, true, ◌&&◌, List, get_or, refl, sym, ◌∙◌, ap, arith, bit_xor, bit_and}
use Rattle.std.specs.Int.{bit_at}
use Rattle.std.specs.Int.Bits.{xor_assoc, xor_comm, xor_self, xor_zero_r}
use Rattle.std.proofs.lemmas.Nat.{shr-shr, shr_split, mul-le, div-mul-add, pow_pos}
use Rattle.std.proofs.lemmas.Nat.Bits.{bit_at_and, bit_at_cat_low, bit_at_cat_high, bit_at-lt, bit_at-zero}
use Rattle.std.proofs.lemmas.Bool.{cases_lt, cases_eq, eqb-true, and_parts}
use Rattle.m4_bits.specs.Transpose.{IsLowHalves, ChangePlaces, WordsChangePlaces, SquaresChangePlaces, IsTransposed, AreTransposed}
use Rattle.m4_bits.proofs.BitsLemmas.{bit_at-xor}

-- ---- shifts and remainders, bit by bit

pub bit_at-shr : (n k i : ℕ) → bit_at (n / 2 ^ k) i ≡ bit_at n (k + i)
bit_at-shr n k i = ap (λ x. x % 2) (shr-shr n k i)

pub bit_at-mod : (n k i : ℕ) → i < k → bit_at (n % 2 ^ k) i ≡ bit_at n i
bit_at-mod n k i below = sym (bit_at_cat_low (n / 2 ^ k) k (n % 2 ^ k) i below) ∙ ap (λ x. bit_at x i) (shr_split n k)

pub bit_at-shl_low : (n k i : ℕ) → i < k → bit_at (n * 2 ^ k) i ≡ 0
bit_at-shl_low n k i below =
    let e : n * 2 ^ k ≡ n * 2 ^ k + 0 = omega arith in ap (λ x. bit_at x i) e ∙ bit_at_cat_low n k 0 i below ∙ bit_at-zero i

pub bit_at-shl_high : (n k i j : ℕ) → j + k ≡ i → bit_at (n * 2 ^ k) i ≡ bit_at n j
bit_at-shl_high n k i j is =
    let e : n * 2 ^ k ≡ n * 2 ^ k + 0 = omega arith in
    let back : i - k ≡ j = omega arith in
    ap (λ x. bit_at x i) e ∙ bit_at_cat_high n k 0 i (pow_pos k) (omega arith) ∙ ap (bit_at n) back

-- ---- bits that are added twice
pub xor_back : (a b : ℕ) → bit_xor a (bit_xor a b) ≡ b
xor_back a b = sym (xor_assoc a a b) ∙ ap (λ x. bit_xor x b) (xor_self a)

pub xor_forth : (a b : ℕ) → bit_xor b (bit_xor a b) ≡ a
xor_forth a b = ap (bit_xor b) (xor_comm a b) ∙ xor_back b a

-- a place within the 64 bits, or the 64 words
pub within_block : (n s q j : ℕ) → n * s ≡ 32 → q < n → j < s → q * (2 * s) + s + j < 64
within_block n s q j whole in_row in_square = let h = mul-le (q + 1) (2 * s) n (2 * s) (omega arith) (omega arith) in omega (arith, h)

-- ---- the exchange of two words' halves by three sums and a mask
module _ (s m u l : ℕ) (whole : 32 / s * s ≡ 32) (low : IsLowHalves s m) where
  differ_low : (q j : ℕ) → q < 32 / s → j < s
      → bit_at (bit_and (bit_xor (u / 2 ^ s) l) m) (q * (2 * s) + j) ≡ bit_xor (bit_at u (q * (2 * s) + s + j)) (bit_at l (q * (2 * s) + j))
  differ_low q j in_row in_square =
      let k = q * (2 * s) + j in
      let x = bit_xor (u / 2 ^ s) l in
      let one = (low q j in_row in_square).0 in
      let kept : min (bit_at x k) (bit_at m k) ≡ bit_at x k = rw one (let small = bit_at-lt x k in omega arith) in
      let up : s + k ≡ q * (2 * s) + s + j = omega arith in
      bit_at_and x m k ∙ kept ∙ bit_at-xor (u / 2 ^ s) l k
      ∙ ap (λ b. bit_xor b (bit_at l k)) (bit_at-shr u s k ∙ ap (bit_at u) up)

  differ_high : (q j : ℕ) → q < 32 / s → j < s → bit_at (bit_and (bit_xor (u / 2 ^ s) l) m) (q * (2 * s) + s + j) ≡ 0
  differ_high q j in_row in_square =
      let k = q * (2 * s) + s + j in
      let none = (low q j in_row in_square).1 in
      bit_at_and (bit_xor (u / 2 ^ s) l) m k ∙ rw none (omega arith)

  shifted_low : (q j : ℕ) → q < 32 / s → j < s → bit_at (bit_and (bit_xor (u / 2 ^ s) l) m * 2 ^ s % 2 ^ 64) (q * (2 * s) + j) ≡ 0
  shifted_low zero j in_row in_square =
      bit_at-mod _ 64 (0 * (2 * s) + j) (let h = within_block (32 / s) s 0 j whole in_row in_square in omega arith)
      ∙ bit_at-shl_low _ s (0 * (2 * s) + j) (omega arith)
  shifted_low (suc q) j in_row in_square =
      bit_at-mod _ 64 (suc q * (2 * s) + j) (let h = within_block (32 / s) s (suc q) j whole in_row in_square in omega arith)
      ∙ bit_at-shl_high _ s (suc q * (2 * s) + j) (q * (2 * s) + s + j) (omega arith)
      ∙ differ_high q j (omega arith) in_square

  shifted_high : (q j : ℕ) → q < 32 / s → j < s
      → bit_at (bit_and (bit_xor (u / 2 ^ s) l) m * 2 ^ s % 2 ^ 64) (q * (2 * s) + s + j)
      ≡ bit_xor (bit_at u (q * (2 * s) + s + j)) (bit_at l (q * (2 * s) + j))
  shifted_high q j in_row in_square =
      bit_at-mod _ 64 (q * (2 * s) + s + j) (within_block (32 / s) s q j whole in_row in_square)
      ∙ bit_at-shl_high _ s (q * (2 * s) + s + j) (q * (2 * s) + j) (omega arith)
      ∙ differ_low q j in_row in_square

  pub halves_exchanged : ChangePlaces s u l
      (bit_xor u (bit_and (bit_xor (u / 2 ^ s) l) m * 2 ^ s % 2 ^ 64))
      (bit_xor l (bit_and (bit_xor (u / 2 ^ s) l) m))
  halves_exchanged q j in_row in_square =
      let below = q * (2 * s) + j in
      let above = q * (2 * s) + s + j in
      let t = bit_and (bit_xor (u / 2 ^ s) l) m in
      let shifted = t * 2 ^ s % 2 ^ 64 in (
        bit_at-xor u shifted below ∙ ap (bit_xor (bit_at u below)) (shifted_low q j in_row in_square) ∙ xor_zero_r (bit_at u below),
        bit_at-xor u shifted above ∙ ap (bit_xor (bit_at u above)) (shifted_high q j in_row in_square)
            ∙ xor_back (bit_at u above) (bit_at l below),
        bit_at-xor l t below ∙ ap (bit_xor (bit_at l below)) (differ_low q j in_row in_square)
            ∙ xor_forth (bit_at u above) (bit_at l below),
        bit_at-xor l t above ∙ ap (bit_xor (bit_at l above)) (differ_high q j in_row in_square) ∙ xor_zero_r (bit_at l above),
      )

-- words that changed places, and stayed before or after
pub changed_before : (s : ℕ) (old mid new : List ℕ) (i k : ℕ) → WordsChangePlaces s old mid i k → get_or new i 0 ≡ get_or mid i 0
    → get_or new k 0 ≡ get_or mid k 0 → WordsChangePlaces s old new i k
changed_before s old mid new i k changed first second = rw (first, second) changed

pub changed_after : (s : ℕ) (old mid new : List ℕ) (i k : ℕ) → WordsChangePlaces s mid new i k → get_or mid i 0 ≡ get_or old i 0
    → get_or mid k 0 ≡ get_or old k 0 → WordsChangePlaces s old new i k
changed_after s old mid new i k changed first second = rw (first, second) at changed

-- ---- the masks

-- whether the lowest n bits of a mask are those of low halves
ones_in : ℕ → ℕ → ℕ → Bool
ones_in s m zero = true
ones_in s m (suc k) = eqb (bit_at m k) (1 - k / s % 2) && ones_in s m k

ones_in-true : (s m n k : ℕ) → ones_in s m n ≡ true → k < n → bit_at m k ≡ 1 - k / s % 2
unfolding ones_in
ones_in-true s m zero k is below = absurd (omega arith)
ones_in-true s m (suc n) k is below =
    let parts = and_parts (eqb (bit_at m n) (1 - n / s % 2)) (ones_in s m n) is in
    elim (cases_eq k n) [
      | inl here ↦ rw here (eqb-true (bit_at m n) (1 - n / s % 2) parts.0)
      | inr other ↦ ones_in-true s m n k parts.1 (omega (arith, other))
    ]

low_halves : (s m : ℕ) → 32 / s * s ≡ 32 → ones_in s m 64 ≡ true → IsLowHalves s m
low_halves s m whole is q j in_row in_square =
    let h = within_block (32 / s) s q j whole in_row in_square in
    let below : q * (2 * s) + j ≡ q * 2 * s + j = omega arith in
    let above : q * (2 * s) + s + j ≡ (q * 2 + 1) * s + j = omega arith in (
      ones_in-true s m 64 (q * (2 * s) + j) is (omega arith) ∙ rw (below, div-mul-add (q * 2) s j in_square) (omega arith),
      ones_in-true s m 64 (q * (2 * s) + s + j) is h ∙ rw (above, div-mul-add (q * 2 + 1) s j in_square) (omega arith),
    )

pub low_halves_32 : IsLowHalves 32 0x0000_0000_FFFF_FFFF
unfolding ones_in
low_halves_32 = low_halves 32 0x0000_0000_FFFF_FFFF refl refl

pub low_halves_16 : IsLowHalves 16 0x0000_FFFF_0000_FFFF
unfolding ones_in
low_halves_16 = low_halves 16 0x0000_FFFF_0000_FFFF refl refl

pub low_halves_8 : IsLowHalves 8 0x00FF_00FF_00FF_00FF
unfolding ones_in
low_halves_8 = low_halves 8 0x00FF_00FF_00FF_00FF refl refl

pub low_halves_4 : IsLowHalves 4 0x0F0F_0F0F_0F0F_0F0F
unfolding ones_in
low_halves_4 = low_halves 4 0x0F0F_0F0F_0F0F_0F0F refl refl

pub low_halves_2 : IsLowHalves 2 0x3333_3333_3333_3333
unfolding ones_in
low_halves_2 = low_halves 2 0x3333_3333_3333_3333 refl refl

pub low_halves_1 : IsLowHalves 1 0x5555_5555_5555_5555
unfolding ones_in
low_halves_1 = low_halves 1 0x5555_5555_5555_5555 refl refl

-- ---- the steps in a row

-- What is reached after the steps down to squares of d words by s bits, m of them side by side: each square has changed places
-- with the one over the diagonal, and is itself as it was.
pub record SquaresTurned (m d s : ℕ) (old new : List ℕ) : Type 0 where
  pub turned : (p q i j : ℕ) → p < m → q < m → i < d → j < s
      → bit_at (get_or new (p * d + i) 0) (q * s + j) ≡ bit_at (get_or old (q * d + i) 0) (p * s + j)

-- one bit of a block at two names of its place
same_place : (block : List ℕ) {i k j l : ℕ} → i ≡ k → j ≡ l → bit_at (get_or block i 0) j ≡ bit_at (get_or block k 0) l
same_place block {i} {k} {j} {l} rows columns = ap (λ x. bit_at (get_or block x 0) j) rows ∙ ap (bit_at (get_or block k 0)) columns

even_or_odd : (p : ℕ) → ((g : ℕ) × (p ≡ g * 2)) ⊎ ((g : ℕ) × (p ≡ g * 2 + 1))
even_or_odd p = elim (cases_lt (p % 2) 1) [ inl even ↦ inl (p / 2, omega arith) | inr odd ↦ inr (p / 2, omega arith) ]

module _ (d s : ℕ) (old mid new : List ℕ) (before : SquaresTurned (32 / s) (2 * d) (2 * s) old mid) (step : SquaresChangePlaces d s mid new)
    (g h i j : ℕ) (in_g : g < 32 / s) (in_h : h < 32 / s) (in_i : i < d) (in_j : j < s) where
  even_even : bit_at (get_or new (g * 2 * d + i) 0) (h * 2 * s + j) ≡ bit_at (get_or old (h * 2 * d + i) 0) (g * 2 * s + j)
  even_even =
      same_place new (omega arith) (omega arith) ∙ (step g i in_g in_i h j in_h in_j).0
      ∙ before.turned g h i j in_g in_h (omega arith) (omega arith) ∙ same_place old (omega arith) (omega arith)

  even_odd : bit_at (get_or new (g * 2 * d + i) 0) ((h * 2 + 1) * s + j) ≡ bit_at (get_or old ((h * 2 + 1) * d + i) 0) (g * 2 * s + j)
  even_odd =
      same_place new (omega arith) (omega arith) ∙ (step g i in_g in_i h j in_h in_j).1
      ∙ same_place mid (omega arith) refl
      ∙ before.turned g h (d + i) j in_g in_h (omega arith) (omega arith) ∙ same_place old (omega arith) (omega arith)

  odd_even : bit_at (get_or new ((g * 2 + 1) * d + i) 0) (h * 2 * s + j) ≡ bit_at (get_or old (h * 2 * d + i) 0) ((g * 2 + 1) * s + j)
  odd_even =
      same_place new (omega arith) (omega arith) ∙ (step g i in_g in_i h j in_h in_j).2
      ∙ same_place mid refl (omega arith)
      ∙ before.turned g h i (s + j) in_g in_h (omega arith) (omega arith) ∙ same_place old (omega arith) (omega arith)

  odd_odd : bit_at (get_or new ((g * 2 + 1) * d + i) 0) ((h * 2 + 1) * s + j)
      ≡ bit_at (get_or old ((h * 2 + 1) * d + i) 0) ((g * 2 + 1) * s + j)
  odd_odd =
      same_place new (omega arith) (omega arith) ∙ (step g i in_g in_i h j in_h in_j).3
      ∙ same_place mid (omega arith) (omega arith)
      ∙ before.turned g h (d + i) (s + j) in_g in_h (omega arith) (omega arith) ∙ same_place old (omega arith) (omega arith)

pub turned_more : (d s : ℕ) (old mid new : List ℕ) → SquaresTurned (32 / s) (2 * d) (2 * s) old mid → SquaresChangePlaces d s mid new
    → SquaresTurned (32 / s * 2) d s old new
turned_more d s old mid new before step = record {
  turned = λ p q i j in_p in_q in_i in_j.
      elim (even_or_odd p) [
        | inl (g, even) ↦
            elim (even_or_odd q) [
              | inl (h, even_q) ↦ rw (even, even_q) (even_even d s old mid new before step g h i j (omega arith) (omega arith) in_i in_j)
              | inr (h, odd_q) ↦ rw (even, odd_q) (even_odd d s old mid new before step g h i j (omega arith) (omega arith) in_i in_j)
            ]
        | inr (g, odd) ↦
            elim (even_or_odd q) [
              | inl (h, even_q) ↦ rw (odd, even_q) (odd_even d s old mid new before step g h i j (omega arith) (omega arith) in_i in_j)
              | inr (h, odd_q) ↦ rw (odd, odd_q) (odd_odd d s old mid new before step g h i j (omega arith) (omega arith) in_i in_j)
            ]
      ];
}

turned_first : (d : ℕ) (block : List ℕ) → SquaresTurned 1 d 64 block block
turned_first d block = record { turned = first }
  where
    first : (p q i j : ℕ) → p < 1 → q < 1 → i < d → j < 64
        → bit_at (get_or block (p * d + i) 0) (q * 64 + j) ≡ bit_at (get_or block (q * d + i) 0) (p * 64 + j)
    first p q i j in_p in_q in_i in_j =
        let p_is : p ≡ 0 = omega arith in
        let q_is : q ≡ 0 = omega arith in
        rw (p_is, q_is) refl

-- words whose squares are single numbers are turned
numbers_turned : (m w : ℕ) (old new : List ℕ) → 64 / w ≡ m → SquaresTurned m 1 w old new → AreTransposed w old new
numbers_turned m w old new many done i j u in_i in_j in_u =
    same_place new (omega arith) refl ∙ done.turned i j 0 u (omega (arith, many)) (omega (arith, many)) (omega arith) in_u
    ∙ same_place old (omega arith) refl

-- the six steps in a row
pub transposed : (a b c d e f g : List ℕ) → SquaresChangePlaces 32 32 a b → SquaresChangePlaces 16 16 b c → SquaresChangePlaces 8 8 c d
    → SquaresChangePlaces 4 4 d e → SquaresChangePlaces 2 2 e f → SquaresChangePlaces 1 1 f g → IsTransposed a g
transposed a b c d e f g first second third fourth fifth sixth i j in_i in_j =
    let done = turned_more 1 1 a f g (turned_more 2 2 a e f (turned_more 4 4 a d e (turned_more 8 8 a c d
    (turned_more 16 16 a b c (turned_more 32 32 a a b (turned_first 64 a) first) second) third) fourth) fifth) sixth in
    same_place g (omega arith) (omega arith) ∙ done.turned i j 0 0 in_i in_j (omega arith) (omega arith)
    ∙ same_place a (omega arith) (omega arith)

-- bits are numbers of one bit
pub transposed_1 : (old new : List ℕ) → IsTransposed old new → AreTransposed 1 old new
transposed_1 old new turned i j u in_i in_j in_u =
    same_place new refl (omega arith) ∙ turned i j (omega arith) (omega arith) ∙ same_place old refl (omega arith)

-- numbers of more bits take fewer steps
pub transposed_2 : (a b c d e f : List ℕ) → SquaresChangePlaces 16 32 a b → SquaresChangePlaces 8 16 b c → SquaresChangePlaces 4 8 c d
    → SquaresChangePlaces 2 4 d e → SquaresChangePlaces 1 2 e f → AreTransposed 2 a f
transposed_2 a b c d e f first second third fourth fifth =
    numbers_turned 32 2 a f refl
    (turned_more 1 2 a e f (turned_more 2 4 a d e (turned_more 4 8 a c d (turned_more 8 16 a b c (turned_more 16 32 a a b (turned_first 32 a) first)
    second) third) fourth) fifth)

pub transposed_4 : (a b c d e : List ℕ) → SquaresChangePlaces 8 32 a b → SquaresChangePlaces 4 16 b c → SquaresChangePlaces 2 8 c d
    → SquaresChangePlaces 1 4 d e → AreTransposed 4 a e
transposed_4 a b c d e first second third fourth =
    numbers_turned 16 4 a e refl
    (turned_more 1 4 a d e (turned_more 2 8 a c d (turned_more 4 16 a b c (turned_more 8 32 a a b (turned_first 16 a) first) second) third) fourth)

pub transposed_8 : (a b c d : List ℕ) → SquaresChangePlaces 4 32 a b → SquaresChangePlaces 2 16 b c → SquaresChangePlaces 1 8 c d
    → AreTransposed 8 a d
transposed_8 a b c d first second third =
    numbers_turned 8 8 a d refl (turned_more 1 8 a c d (turned_more 2 16 a b c (turned_more 4 32 a a b (turned_first 8 a) first) second) third)

pub transposed_16 : (a b c : List ℕ) → SquaresChangePlaces 2 32 a b → SquaresChangePlaces 1 16 b c → AreTransposed 16 a c
transposed_16 a b c first second =
    numbers_turned 4 16 a c refl (turned_more 1 16 a b c (turned_more 2 32 a a b (turned_first 4 a) first) second)
