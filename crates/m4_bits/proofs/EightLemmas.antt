-- Eight digits in one word, a byte each: how their bits are gathered into one byte, and spread over eight again.
use Rattle.std.proofs.Common.{◌≡◌, ℕ, ◌+◌, ◌-◌, ◌*◌, ◌/◌, ◌%◌, ◌^◌, ◌<◌, ◌≤◌, ◌⊎◌, inl, inr, List, [], ◌∷◌, ◌++◌, length, get_or, take, drop, map, refl, sym, ◌∙◌, ap, arith, bit_xor, bit_and, bit_or, length-take, length-drop}
use Rattle.std.specs.Int.{bit_at, from_le_bytes, to_le_bytes, w64}
use Rattle.std.specs.Int.Bits.{or_shifted_r, xor_block, and_block, and_mask, and_high, xor_lt}
use Rattle.std.proofs.lemmas.Nat.{mod_low, shr_high, shl_whole, mul-add-lt, pow-add}
use Rattle.std.proofs.lemmas.Nat.Bits.{bit_at_cat_low, bit_at_cat_high}
use Rattle.std.proofs.lemmas.Bool.{cases_lt}
use Rattle.std.proofs.lemmas.List.{get_or-append_right, get_or_append_left, get_or-take, get_or-drop}
use Rattle.std.proofs.lemmas.List.FromFn.{fill_by_all, get_or-map-range_with_len}
use Rattle.m4_bits.specs.Digits.{digits_of, AreDigits}
use Rattle.m4_bits.proofs.BitsLemmas.{bit_at-mask_below}
use Rattle.m4_bits.proofs.DigitsLemmas.{digit_from_xor, xor_from_digit}

-- ---- bytes as one number, the lowest first
abbrev pub number : List ℕ → ℕ
number [] = 0
number (x ∷ xs) = number xs * 2 ^ 8 + x

abbrev pub AllBelow : ℕ → List ℕ → Type 0
AllBelow n [] = Unit {0}
AllBelow n (x ∷ xs) = (x < n) × AllBelow n xs

pub number-xor : (c : ℕ) → c < 256 → (xs : List ℕ) → AllBelow 256 xs
    → bit_xor (number xs) (number (map (λ _. c) xs)) ≡ number (map (λ x. bit_xor x c) xs)
number-xor c small [] bytes = refl
number-xor c small (x ∷ xs) bytes =
    xor_block 8 (number xs) (number (map (λ _. c) xs)) x c bytes.0 small
    ∙ ap (λ n. n * 2 ^ 8 + bit_xor x c) (number-xor c small xs bytes.1)

pub number-and : (c : ℕ) → c < 256 → (xs : List ℕ) → AllBelow 256 xs
    → bit_and (number xs) (number (map (λ _. c) xs)) ≡ number (map (λ x. bit_and x c) xs)
number-and c small [] bytes = refl
number-and c small (x ∷ xs) bytes =
    and_block 8 (number xs) (number (map (λ _. c) xs)) x c bytes.0 small
    ∙ ap (λ n. n * 2 ^ 8 + bit_and x c) (number-and c small xs bytes.1)

-- a byte with no bit but the lowest
lowest_bit : (x : ℕ) → x < 256 → bit_and x 254 ≡ 0 → x < 2
lowest_bit x small is = let e = and_high x 7 1 in omega (arith, is, e)

no_other_bit : (x : ℕ) → x < 2 → bit_and x 254 ≡ 0
no_other_bit x small = let e = and_high x 7 1 in omega (arith, e)

-- eight bytes have no bits but their lowest
pub all_lowest : (xs : List ℕ) → AllBelow 256 xs → number (map (λ x. bit_and x 254) xs) ≡ 0 → AllBelow 2 xs
all_lowest [] bytes is = tt
all_lowest (x ∷ xs) bytes is = (lowest_bit x bytes.0 (omega arith), all_lowest xs bytes.1 (omega arith))

pub none_other : (xs : List ℕ) → AllBelow 2 xs → number (map (λ x. bit_and x 254) xs) ≡ 0
none_other [] small = refl
none_other (x ∷ xs) small = let e = no_other_bit x small.0 in let rest = none_other xs small.1 in omega arith

-- bits as one number, the lowest first
abbrev pub number_of_bits : List ℕ → ℕ
number_of_bits [] = 0
number_of_bits (b ∷ bs) = number_of_bits bs * 2 + b

-- ---- eight bits gathered by one multiplication: each product of two bits stands at a place of its own

-- the product's highest byte
abbrev pub gathered : ℕ → ℕ
gathered n = n * 0x0102_0408_1020_4080 % 2 ^ 64 / 2 ^ 56

top_byte : (n high byte low : ℕ) → n ≡ high * 2 ^ 64 + (byte * 2 ^ 56 + low) → byte < 256 → low < 2 ^ 56 → n % 2 ^ 64 / 2 ^ 56 ≡ byte
top_byte n high byte low is small lower =
    ap (λ x. x % 2 ^ 64 / 2 ^ 56) is ∙ ap (λ x. x / 2 ^ 56) (mod_low high 64 (byte * 2 ^ 56 + low) (omega arith))
    ∙ shr_high byte 56 low lower

-- the bits past the highest byte, that byte, and the bits below it
gathered_is : (e0 e1 e2 e3 e4 e5 e6 e7 : ℕ) → AllBelow 2 (e0 ∷ e1 ∷ e2 ∷ e3 ∷ e4 ∷ e5 ∷ e6 ∷ e7 ∷ [])
    → gathered (number (e0 ∷ e1 ∷ e2 ∷ e3 ∷ e4 ∷ e5 ∷ e6 ∷ e7 ∷ [])) ≡ number_of_bits (e0 ∷ e1 ∷ e2 ∷ e3 ∷ e4 ∷ e5 ∷ e6 ∷ e7 ∷ [])
gathered_is e0 e1 e2 e3 e4 e5 e6 e7 bits =
    top_byte _
    (e1 + 258 * e2 + 66052 * e3 + 16909320 * e4 + 4328785936 * e5 + 1108169199648 * e6 + 283691315109952 * e7)
    (number_of_bits (e0 ∷ e1 ∷ e2 ∷ e3 ∷ e4 ∷ e5 ∷ e6 ∷ e7 ∷ []))
    (567382630219904 * e0 + 1134765260439552 * e1 + 2269530520813568 * e2 + 4539061024849920 * e3 + 9078117754732544 * e4
    + 18155135997837312 * e5 + 36028797018963968 * e6)
    (omega arith) (omega arith) (omega arith)

-- the digits of a byte that is given by its bits
digits_of_bits : (e0 e1 e2 e3 e4 e5 e6 e7 : ℕ) → AllBelow 2 (e0 ∷ e1 ∷ e2 ∷ e3 ∷ e4 ∷ e5 ∷ e6 ∷ e7 ∷ [])
    → digits_of (number_of_bits (e0 ∷ e1 ∷ e2 ∷ e3 ∷ e4 ∷ e5 ∷ e6 ∷ e7 ∷ [])) 8 ≡ map (λ e. 48 + e) (e0 ∷ e1 ∷ e2 ∷ e3 ∷ e4 ∷ e5 ∷ e6 ∷ e7 ∷ [])
digits_of_bits e0 e1 e2 e3 e4 e5 e6 e7 bits =
    let byte = number_of_bits (e0 ∷ e1 ∷ e2 ∷ e3 ∷ e4 ∷ e5 ∷ e6 ∷ e7 ∷ []) in
    let bit_0 : byte / 2 ^ 0 % 2 ≡ e0 = omega arith in
    let bit_1 : byte / 2 ^ 1 % 2 ≡ e1 = omega arith in
    let bit_2 : byte / 2 ^ 2 % 2 ≡ e2 = omega arith in
    let bit_3 : byte / 2 ^ 3 % 2 ≡ e3 = omega arith in
    let bit_4 : byte / 2 ^ 4 % 2 ≡ e4 = omega arith in
    let bit_5 : byte / 2 ^ 5 % 2 ≡ e5 = omega arith in
    let bit_6 : byte / 2 ^ 6 % 2 ≡ e6 = omega arith in
    let bit_7 : byte / 2 ^ 7 % 2 ≡ e7 = omega arith in
    cc

-- ---- eight bytes that are digits, and eight that are not

-- where eight bytes differ from eight digits `0`
abbrev pub differing : List ℕ → ℕ
differing bytes = bit_xor (from_le_bytes w64 bytes) 0x3030_3030_3030_3030

abbrev differences : List ℕ → List ℕ
differences bytes = map (λ x. bit_xor x 48) bytes

pub AllDigits : List ℕ → Type 0
AllDigits [] = Unit {0}
AllDigits (x ∷ xs) = ((x ≡ 48) ⊎ (x ≡ 49)) × AllDigits xs

differences_below : (xs : List ℕ) → AllBelow 256 xs → AllBelow 256 (differences xs)
differences_below [] bytes = tt
differences_below (x ∷ xs) bytes = (xor_lt 8 x 48 bytes.0 (omega arith), differences_below xs bytes.1)

differences_of_digits : (xs : List ℕ) → AllDigits xs → AllBelow 2 (differences xs)
unfolding AllDigits
differences_of_digits [] digits = tt
differences_of_digits (x ∷ xs) digits = (let h = xor_from_digit x digits.0 in omega arith, differences_of_digits xs digits.1)

digits_back : (xs : List ℕ) → AllBelow 2 (differences xs) → map (λ e. 48 + e) (differences xs) ≡ xs
digits_back [] small = refl
digits_back (x ∷ xs) small = let e = one_back x (digit_from_xor x (omega arith)) in let rest = digits_back xs small.1 in cc
  where
    one_back : (x : ℕ) → (x ≡ 48) ⊎ (x ≡ 49) → 48 + bit_xor x 48 ≡ x
    one_back x (inl is) = rw is refl
    one_back x (inr is) = rw is refl

module _ (d0 d1 d2 d3 d4 d5 d6 d7 : ℕ) (bytes : AllBelow 256 (d0 ∷ d1 ∷ d2 ∷ d3 ∷ d4 ∷ d5 ∷ d6 ∷ d7 ∷ [])) where
  differing_is : differing (d0 ∷ d1 ∷ d2 ∷ d3 ∷ d4 ∷ d5 ∷ d6 ∷ d7 ∷ []) ≡ number (differences (d0 ∷ d1 ∷ d2 ∷ d3 ∷ d4 ∷ d5 ∷ d6 ∷ d7 ∷ []))
  differing_is =
      let ds = d0 ∷ d1 ∷ d2 ∷ d3 ∷ d4 ∷ d5 ∷ d6 ∷ d7 ∷ [] in
      let flat : from_le_bytes w64 ds ≡ number ds = omega arith in
      ap (λ n. bit_xor n 0x3030_3030_3030_3030) flat ∙ number-xor 48 (omega arith) ds bytes

  others_are : bit_and (differing (d0 ∷ d1 ∷ d2 ∷ d3 ∷ d4 ∷ d5 ∷ d6 ∷ d7 ∷ [])) 0xFEFE_FEFE_FEFE_FEFE
      ≡ number (map (λ x. bit_and x 254) (differences (d0 ∷ d1 ∷ d2 ∷ d3 ∷ d4 ∷ d5 ∷ d6 ∷ d7 ∷ [])))
  others_are =
      let ds = d0 ∷ d1 ∷ d2 ∷ d3 ∷ d4 ∷ d5 ∷ d6 ∷ d7 ∷ [] in
      ap (λ n. bit_and n 0xFEFE_FEFE_FEFE_FEFE) differing_is
      ∙ number-and 254 (omega arith) (differences ds) (differences_below ds bytes)

  pub eight_other : (bit_and (differing (d0 ∷ d1 ∷ d2 ∷ d3 ∷ d4 ∷ d5 ∷ d6 ∷ d7 ∷ [])) 0xFEFE_FEFE_FEFE_FEFE ≡ 0 → ⊥)
      → AllDigits (d0 ∷ d1 ∷ d2 ∷ d3 ∷ d4 ∷ d5 ∷ d6 ∷ d7 ∷ []) → ⊥
  eight_other some digits =
      let ds = d0 ∷ d1 ∷ d2 ∷ d3 ∷ d4 ∷ d5 ∷ d6 ∷ d7 ∷ [] in
      some (others_are ∙ none_other (differences ds) (differences_of_digits ds digits))

  pub eight_read : bit_and (differing (d0 ∷ d1 ∷ d2 ∷ d3 ∷ d4 ∷ d5 ∷ d6 ∷ d7 ∷ [])) 0xFEFE_FEFE_FEFE_FEFE ≡ 0
      → digits_of (gathered (differing (d0 ∷ d1 ∷ d2 ∷ d3 ∷ d4 ∷ d5 ∷ d6 ∷ d7 ∷ []))) 8 ≡ d0 ∷ d1 ∷ d2 ∷ d3 ∷ d4 ∷ d5 ∷ d6 ∷ d7 ∷ []
  eight_read none =
      let ds = d0 ∷ d1 ∷ d2 ∷ d3 ∷ d4 ∷ d5 ∷ d6 ∷ d7 ∷ [] in
      let small : AllBelow 2 (differences ds) = all_lowest (differences ds) (differences_below ds bytes) (sym others_are ∙ none) in
      ap (λ n. digits_of (gathered n) 8) differing_is
      ∙ ap (λ n. digits_of n 8)
      (gathered_is (bit_xor d0 48) (bit_xor d1 48) (bit_xor d2 48) (bit_xor d3 48) (bit_xor d4 48) (bit_xor d5 48) (bit_xor d6 48) (bit_xor d7 48) small)
      ∙ digits_of_bits (bit_xor d0 48) (bit_xor d1 48) (bit_xor d2 48) (bit_xor d3 48) (bit_xor d4 48) (bit_xor d5 48) (bit_xor d6 48) (bit_xor d7 48) small
      ∙ digits_back ds small

-- eight elements of a list
abbrev pub eight_at : List ℕ → ℕ → List ℕ
eight_at xs i =
    get_or xs i 0 ∷ get_or xs (i + 1) 0 ∷ get_or xs (i + 2) 0 ∷ get_or xs (i + 3) 0 ∷ get_or xs (i + 4) 0 ∷ get_or xs (i + 5) 0
    ∷ get_or xs (i + 6) 0 ∷ get_or xs (i + 7) 0 ∷ []

eight_at-is : (xs : List ℕ) (start : ℕ) → start + 8 ≤ length xs → take 8 (drop start xs) ≡ eight_at xs start
eight_at-is xs start within =
    let f : ℕ → ℕ = λ k. get_or xs (start + k) 0 in
    let long : length (take 8 (drop start xs)) ≡ 8 = simp (length-take, length-drop) (omega arith) in
    let first : start + 0 ≡ start = omega arith in
    fill_by_all f (take 8 (drop start xs)) 8 0 long (λ k below. get_or-take 8 (drop start xs) k 0 below ∙ get_or-drop start xs k 0)
    ∙ rw first refl

module _ (xs : List ℕ) (i : ℕ) (bytes : (k : ℕ) → get_or xs k 0 < 256) (within : i + 8 ≤ length xs) where
  all_bytes : AllBelow 256 (eight_at xs i)
  all_bytes =
      (bytes i, (bytes (i + 1), (bytes (i + 2), (bytes (i + 3), (bytes (i + 4), (bytes (i + 5), (bytes (i + 6), (bytes (i + 7), tt))))))))

  all_digits : AreDigits xs → AllDigits (eight_at xs i)
  unfolding AllDigits
  all_digits digits =
      let digit : (k : ℕ) → k < length xs → (get_or xs k 0 ≡ 48) ⊎ (get_or xs k 0 ≡ 49) = λ k below. digits k 0 below in (
        digit i (omega arith),
        (
          digit (i + 1) (omega arith),
          (
            digit (i + 2) (omega arith),
            (
              digit (i + 3) (omega arith),
              (digit (i + 4) (omega arith), (digit (i + 5) (omega arith), (digit (i + 6) (omega arith), (digit (i + 7) (omega arith), tt)))),
            ),
          ),
        ),
      )

  pub read_at : bit_and (differing (eight_at xs i)) 0xFEFE_FEFE_FEFE_FEFE ≡ 0
      → take 8 (drop i xs) ≡ digits_of (gathered (differing (eight_at xs i))) 8
  read_at none = eight_at-is xs i within ∙ sym (eight_read _ _ _ _ _ _ _ _ all_bytes none)

  pub other_at : (bit_and (differing (eight_at xs i)) 0xFEFE_FEFE_FEFE_FEFE ≡ 0 → ⊥) → AreDigits xs → ⊥
  other_at some digits = eight_other _ _ _ _ _ _ _ _ all_bytes some (all_digits digits)

-- ---- a word that grows by eight bits
at_digits : (xs : List ℕ) (word n k : ℕ) → xs ≡ digits_of word n → k < n → get_or xs k 0 ≡ 48 + bit_at word k
at_digits xs word n k is below =
    ap (λ s. get_or s k 0) is ∙ get_or-map-range_with_len (λ k. 48 + bit_at word k) 0 n k k 0 below (omega arith)

module _ (digits : List ℕ) (n word byte : ℕ) (small : word < 2 ^ n) (eight : byte < 2 ^ 8) (few : n + 8 ≤ 64) (within : n + 8 ≤ length digits)
    (read : take n digits ≡ digits_of word n) (next : take 8 (drop n digits) ≡ digits_of byte 8) where
  joined : bit_or word (byte * 2 ^ n % 2 ^ 64) ≡ byte * 2 ^ n + word
  joined =
      let whole = shl_whole byte 8 n 64 eight (omega arith) in
      ap (bit_or word) whole ∙ or_shifted_r byte n word small

  joined_small : byte * 2 ^ n + word < 2 ^ (n + 8)
  joined_small = let h = mul-add-lt byte (2 ^ n) word (2 ^ 8) eight small in let e = pow-add 2 n 8 in omega (arith, h, e)

  joined_at : (k : ℕ) → k < n + 8 → get_or (take (n + 8) digits) k 0 ≡ 48 + bit_at (byte * 2 ^ n + word) k
  joined_at k below =
      get_or-take (n + 8) digits k 0 below
      ∙ elim (cases_lt k n) [
        | inl before ↦
            sym (get_or-take n digits k 0 before) ∙ at_digits (take n digits) word n k read before
            ∙ ap (λ b. 48 + b) (sym (bit_at_cat_low byte n word k before))
        | inr past ↦
            let j = k - n in
            let place : n + j ≡ k = omega arith in
            ap (λ i. get_or digits i 0) (sym place) ∙ sym (get_or-drop n digits j 0)
            ∙ sym (get_or-take 8 (drop n digits) j 0 (omega arith))
            ∙ at_digits (take 8 (drop n digits)) byte 8 j next (omega arith)
            ∙ ap (λ b. 48 + b) (sym (bit_at_cat_high byte n word k small past))
      ]

  pub eight_more_read : take (n + 8) digits ≡ digits_of (bit_or word (byte * 2 ^ n % 2 ^ 64)) (n + 8)
  eight_more_read =
      let long : length (take (n + 8) digits) ≡ n + 8 = simp length-take (omega arith) in
      fill_by_all (λ k. 48 + bit_at (byte * 2 ^ n + word) k) (take (n + 8) digits) (n + 8) 0 long joined_at
      ∙ ap (λ w. digits_of w (n + 8)) (sym joined)

  pub eight_more_small : bit_or word (byte * 2 ^ n % 2 ^ 64) < 2 ^ (n + 8)
  eight_more_small = rw joined joined_small

-- ---- seven bits spread by one multiplication

-- the bytes of the product: in each, the bit that is wanted is the lowest
abbrev spread_list : (b0 b1 b2 b3 b4 b5 b6 : ℕ) → List ℕ
spread_list b0 b1 b2 b3 b4 b5 b6 =
    number_of_bits (b0 ∷ b1 ∷ b2 ∷ b3 ∷ b4 ∷ b5 ∷ b6 ∷ b0 ∷ [])
    ∷ number_of_bits (b1 ∷ b2 ∷ b3 ∷ b4 ∷ b5 ∷ b6 ∷ b0 ∷ b1 ∷ [])
    ∷ number_of_bits (b2 ∷ b3 ∷ b4 ∷ b5 ∷ b6 ∷ b0 ∷ b1 ∷ b2 ∷ [])
    ∷ number_of_bits (b3 ∷ b4 ∷ b5 ∷ b6 ∷ b0 ∷ b1 ∷ b2 ∷ b3 ∷ [])
    ∷ number_of_bits (b4 ∷ b5 ∷ b6 ∷ b0 ∷ b1 ∷ b2 ∷ b3 ∷ b4 ∷ [])
    ∷ number_of_bits (b5 ∷ b6 ∷ b0 ∷ b1 ∷ b2 ∷ b3 ∷ b4 ∷ b5 ∷ [])
    ∷ b6 ∷ 0 ∷ []

spread_product : (b0 b1 b2 b3 b4 b5 b6 : ℕ) → number_of_bits (b0 ∷ b1 ∷ b2 ∷ b3 ∷ b4 ∷ b5 ∷ b6 ∷ []) * 0x0000_0408_1020_4081 ≡ number (spread_list b0 b1 b2 b3 b4 b5 b6)
spread_product b0 b1 b2 b3 b4 b5 b6 = omega arith

spread_lowest : (b0 b1 b2 b3 b4 b5 b6 : ℕ) → AllBelow 2 (b0 ∷ b1 ∷ b2 ∷ b3 ∷ b4 ∷ b5 ∷ b6 ∷ [])
    → map (λ x. bit_and x 1) (spread_list b0 b1 b2 b3 b4 b5 b6) ≡ b0 ∷ b1 ∷ b2 ∷ b3 ∷ b4 ∷ b5 ∷ b6 ∷ 0 ∷ []
spread_lowest b0 b1 b2 b3 b4 b5 b6 bits =
    let byte_0 : bit_and (number_of_bits (b0 ∷ b1 ∷ b2 ∷ b3 ∷ b4 ∷ b5 ∷ b6 ∷ b0 ∷ [])) 1 ≡ b0 = and_mask (number_of_bits (b0 ∷ b1 ∷ b2 ∷ b3 ∷ b4 ∷ b5 ∷ b6 ∷ b0 ∷ [])) 1 ∙ omega arith in
    let byte_1 : bit_and (number_of_bits (b1 ∷ b2 ∷ b3 ∷ b4 ∷ b5 ∷ b6 ∷ b0 ∷ b1 ∷ [])) 1 ≡ b1 = and_mask (number_of_bits (b1 ∷ b2 ∷ b3 ∷ b4 ∷ b5 ∷ b6 ∷ b0 ∷ b1 ∷ [])) 1 ∙ omega arith in
    let byte_2 : bit_and (number_of_bits (b2 ∷ b3 ∷ b4 ∷ b5 ∷ b6 ∷ b0 ∷ b1 ∷ b2 ∷ [])) 1 ≡ b2 = and_mask (number_of_bits (b2 ∷ b3 ∷ b4 ∷ b5 ∷ b6 ∷ b0 ∷ b1 ∷ b2 ∷ [])) 1 ∙ omega arith in
    let byte_3 : bit_and (number_of_bits (b3 ∷ b4 ∷ b5 ∷ b6 ∷ b0 ∷ b1 ∷ b2 ∷ b3 ∷ [])) 1 ≡ b3 = and_mask (number_of_bits (b3 ∷ b4 ∷ b5 ∷ b6 ∷ b0 ∷ b1 ∷ b2 ∷ b3 ∷ [])) 1 ∙ omega arith in
    let byte_4 : bit_and (number_of_bits (b4 ∷ b5 ∷ b6 ∷ b0 ∷ b1 ∷ b2 ∷ b3 ∷ b4 ∷ [])) 1 ≡ b4 = and_mask (number_of_bits (b4 ∷ b5 ∷ b6 ∷ b0 ∷ b1 ∷ b2 ∷ b3 ∷ b4 ∷ [])) 1 ∙ omega arith in
    let byte_5 : bit_and (number_of_bits (b5 ∷ b6 ∷ b0 ∷ b1 ∷ b2 ∷ b3 ∷ b4 ∷ b5 ∷ [])) 1 ≡ b5 = and_mask (number_of_bits (b5 ∷ b6 ∷ b0 ∷ b1 ∷ b2 ∷ b3 ∷ b4 ∷ b5 ∷ [])) 1 ∙ omega arith in
    let byte_6 : bit_and b6 1 ≡ b6 = and_mask b6 1 ∙ omega arith in
    cc

spread_masked : (b0 b1 b2 b3 b4 b5 b6 : ℕ) → AllBelow 2 (b0 ∷ b1 ∷ b2 ∷ b3 ∷ b4 ∷ b5 ∷ b6 ∷ [])
    → bit_and (number_of_bits (b0 ∷ b1 ∷ b2 ∷ b3 ∷ b4 ∷ b5 ∷ b6 ∷ []) * 0x0000_0408_1020_4081) 0x0101_0101_0101_0101
    ≡ number (b0 ∷ b1 ∷ b2 ∷ b3 ∷ b4 ∷ b5 ∷ b6 ∷ 0 ∷ [])
spread_masked b0 b1 b2 b3 b4 b5 b6 bits =
    let bytes : AllBelow 256 (spread_list b0 b1 b2 b3 b4 b5 b6) =
    (omega arith, (omega arith, (omega arith, (omega arith, (omega arith, (omega arith, (omega arith, (omega arith, tt)))))))) in
    ap (λ n. bit_and n 0x0101_0101_0101_0101) (spread_product b0 b1 b2 b3 b4 b5 b6)
    ∙ number-and 1 (omega arith) (spread_list b0 b1 b2 b3 b4 b5 b6) bytes
    ∙ ap number (spread_lowest b0 b1 b2 b3 b4 b5 b6 bits)

-- the bytes of a number that is given by its bytes
bytes_of_number : (y0 y1 y2 y3 y4 y5 y6 y7 : ℕ) → AllBelow 256 (y0 ∷ y1 ∷ y2 ∷ y3 ∷ y4 ∷ y5 ∷ y6 ∷ y7 ∷ [])
    → to_le_bytes w64 (number (y0 ∷ y1 ∷ y2 ∷ y3 ∷ y4 ∷ y5 ∷ y6 ∷ y7 ∷ [])) ≡ y0 ∷ y1 ∷ y2 ∷ y3 ∷ y4 ∷ y5 ∷ y6 ∷ y7 ∷ []
bytes_of_number y0 y1 y2 y3 y4 y5 y6 y7 bytes =
    let n = number (y0 ∷ y1 ∷ y2 ∷ y3 ∷ y4 ∷ y5 ∷ y6 ∷ y7 ∷ []) in
    let byte_0 : n % 256 ≡ y0 = omega arith in
    let byte_1 : n / 256 ^ 1 % 256 ≡ y1 = omega arith in
    let byte_2 : n / 256 ^ 2 % 256 ≡ y2 = omega arith in
    let byte_3 : n / 256 ^ 3 % 256 ≡ y3 = omega arith in
    let byte_4 : n / 256 ^ 4 % 256 ≡ y4 = omega arith in
    let byte_5 : n / 256 ^ 5 % 256 ≡ y5 = omega arith in
    let byte_6 : n / 256 ^ 6 % 256 ≡ y6 = omega arith in
    let byte_7 : n / 256 ^ 7 % 256 ≡ y7 = omega arith in
    cc

-- what is written for a byte
abbrev pub spread_out : ℕ → ℕ
spread_out byte = bit_and (bit_and byte 127 * 0x0000_0408_1020_4081) 0x0101_0101_0101_0101 + byte / 128 * 2 ^ 56 % 2 ^ 64 + 0x3030_3030_3030_3030

pub spread_digits : (byte : ℕ) → byte < 2 ^ 8 → to_le_bytes w64 (spread_out byte) ≡ digits_of byte 8
spread_digits byte small =
    let b0 = bit_at byte 0 in
    let b1 = bit_at byte 1 in
    let b2 = bit_at byte 2 in
    let b3 = bit_at byte 3 in
    let b4 = bit_at byte 4 in
    let b5 = bit_at byte 5 in
    let b6 = bit_at byte 6 in
    let b7 = bit_at byte 7 in
    let low : bit_and byte 127 ≡ number_of_bits (b0 ∷ b1 ∷ b2 ∷ b3 ∷ b4 ∷ b5 ∷ b6 ∷ []) = and_mask byte 7 ∙ omega arith in
    let bits : AllBelow 2 (b0 ∷ b1 ∷ b2 ∷ b3 ∷ b4 ∷ b5 ∷ b6 ∷ []) =
    (omega arith, (omega arith, (omega arith, (omega arith, (omega arith, (omega arith, (omega arith, tt))))))) in
    let spread = ap (λ n. bit_and (n * 0x0000_0408_1020_4081) 0x0101_0101_0101_0101) low ∙ spread_masked b0 b1 b2 b3 b4 b5 b6 bits in
    let top : byte / 128 * 2 ^ 56 % 2 ^ 64 ≡ b7 * 2 ^ 56 = omega arith in
    let whole : spread_out byte ≡ number ((48 + b0) ∷ (48 + b1) ∷ (48 + b2) ∷ (48 + b3) ∷ (48 + b4) ∷ (48 + b5) ∷ (48 + b6) ∷ (48 + b7) ∷ []) =
    omega (arith, spread, top) in
    ap (to_le_bytes w64) whole
    ∙ bytes_of_number (48 + b0) (48 + b1) (48 + b2) (48 + b3) (48 + b4) (48 + b5) (48 + b6) (48 + b7)
    (omega arith, (omega arith, (omega arith, (omega arith, (omega arith, (omega arith, (omega arith, (omega arith, tt))))))))

-- ---- eight digits that are written into a list
pub eight_written : (xs ys zs : List ℕ) (start word k : ℕ) → start ≤ length xs → k < 8 → ys ≡ digits_of (bit_and word 255) 8
    → get_or (take start xs ++ (ys ++ zs)) (start + k) 0 ≡ 48 + bit_at word k
eight_written xs ys zs start word k within below is =
    let long : length (take start xs) ≡ start = simp length-take (omega arith) in
    let eight : length ys ≡ 8 = ap (λ s. length s) is in
    let back : start + k - start ≡ k = omega arith in
    get_or-append_right (take start xs) (ys ++ zs) start (start + k) 0 long (omega arith)
    ∙ ap (λ i. get_or (ys ++ zs) i 0) back ∙ get_or_append_left ys zs 0 k (omega arith)
    ∙ at_digits ys (bit_and word 255) 8 k is below ∙ ap (λ b. 48 + b) (bit_at-mask_below word 8 k below)
