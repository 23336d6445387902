-- A word that grows by the bit of one digit more, and the digits of its bits.
use Rattle.std.proofs.Common.{◌≡◌, ℕ, zero, suc, ◌+◌, ◌-◌, ◌*◌, ◌%◌, ◌^◌, ◌<◌, ◌≤◌, ◌⊎◌, inl, inr, List, [], ◌∷◌, ◌++◌, length, get_or, take, refl, sym, ◌∙◌, ap, arith, bit_xor, bit_and, bit_or}
use Rattle.std.specs.Int.{bit_at}
use Rattle.std.specs.Int.Bits.{or_shifted_r, or_add_and, or_lt, and_le_l, and_le_r, xor_assoc, xor_self, xor_zero_r}
use Rattle.std.proofs.Math.Pow.{shl_exact}
use Rattle.std.proofs.Math.Nat.{pow-suc}
use Rattle.std.proofs.lemmas.Nat.Bits.{bit_at_cat_low, bit_at_cat_high, bit_at_lowest}
use Rattle.std.proofs.lemmas.List.{same_lists, take_more}
use Rattle.std.proofs.lemmas.List.FromFn.{length-map-range_with_len, get_or-map-range_with_len, map-range_with_len_more}
use Rattle.m4_bits.specs.Digits.{digits_of, AreDigits}

-- words with the same low bits have the same digits
pub same_digits : (v w n : ℕ) → ((k : ℕ) → k < n → bit_at v k ≡ bit_at w k) → digits_of v n ≡ digits_of w n
same_digits v w n same =
    let f : ℕ → ℕ = λ k. 48 + bit_at v k in
    let g : ℕ → ℕ = λ k. 48 + bit_at w k in
    same_lists (digits_of v n) (digits_of w n)
    (length-map-range_with_len f 0 n ∙ sym (length-map-range_with_len g 0 n))
    (λ k d within.
    let below : k < n = rw (length-map-range_with_len f 0 n) at within in
    get_or-map-range_with_len f 0 n k k d below (omega arith)
    ∙ ap (λ b. 48 + b) (same k below)
    ∙ sym (get_or-map-range_with_len g 0 n k k d below (omega arith)))

-- a word with one bit more on top
pub grown_word : (word n b : ℕ) → word < 2 ^ n → n < 64 → b < 2 → bit_or word (b * 2 ^ n % 2 ^ 64) ≡ b * 2 ^ n + word
grown_word word n b small within bit =
    let e : b * 2 ^ n % 2 ^ 64 ≡ b * 2 ^ n = shl_exact {a = b} 1 n 64 (omega arith) (omega arith) in
    ap (bit_or word) e ∙ or_shifted_r b n word small

pub grown_small : (word n b : ℕ) → word < 2 ^ n → b < 2 → b * 2 ^ n + word < 2 ^ (n + 1)
grown_small word n b small bit = let e : n + 1 ≡ suc n = omega arith in rw e (let p = pow-suc 2 n in bound word (2 ^ n) (2 ^ suc n) b small bit p)
  where
    bound : (word p q b : ℕ) → word < p → b < 2 → q ≡ p * 2 → b * p + word < q
    bound word p q zero small bit e = omega arith
    bound word p q (suc zero) small bit e = omega arith
    bound word p q (suc (suc b)) small bit e = absurd (omega arith)

pub grown_digits : (word n b : ℕ) → word < 2 ^ n → b < 2 → digits_of (b * 2 ^ n + word) (n + 1) ≡ digits_of word n ++ (48 + b) ∷ []
grown_digits word n b small bit =
    let w = b * 2 ^ n + word in
    let top : bit_at w n ≡ b =
    bit_at_cat_high b n word n small (omega arith) ∙ (let z : n - n ≡ 0 = omega arith in rw z (bit_at_lowest b ∙ omega arith))
    in
    map-range_with_len_more (λ k. 48 + bit_at w k) 0 n n (omega arith)
    ∙ ap (λ x. digits_of w n ++ (48 + x) ∷ []) top
    ∙ ap (λ x. x ++ (48 + b) ∷ []) (same_digits w word n (λ k below. bit_at_cat_low b n word k below))

-- what is in a number is in its union with another
or_le_l : (a b : ℕ) → a ≤ bit_or a b
or_le_l a b = let e = or_add_and a b in let h = and_le_r a b in omega arith

or_le_r : (a b : ℕ) → b ≤ bit_or a b
or_le_r a b = let e = or_add_and a b in let h = and_le_l a b in omega arith

-- a byte differs from `0` in its lowest bit at most where it is a digit
pub digit_from_xor : (d : ℕ) → bit_xor d 48 ≤ 1 → (d ≡ 48) ⊎ (d ≡ 49)
digit_from_xor d small = cases (bit_xor d 48) refl small
  where
    back : (x : ℕ) → bit_xor d 48 ≡ x → d ≡ bit_xor x 48
    back x is = sym (ap (λ y. bit_xor y 48) (sym is) ∙ xor_assoc d 48 48 ∙ ap (bit_xor d) (xor_self 48) ∙ xor_zero_r d)

    cases : (x : ℕ) → bit_xor d 48 ≡ x → x ≤ 1 → (d ≡ 48) ⊎ (d ≡ 49)
    cases zero is small = inl (back 0 is)
    cases (suc zero) is small = inr (back 1 is)
    cases (suc (suc x)) is small = absurd (omega arith)

pub xor_from_digit : (d : ℕ) → (d ≡ 48) ⊎ (d ≡ 49) → bit_xor d 48 ≤ 1
xor_from_digit d (inl is) = rw is (omega arith)
xor_from_digit d (inr is) = rw is (omega arith)

-- a digit is `0` and its lowest bit
pub digit_of_bit : (d : ℕ) → (d ≡ 48) ⊎ (d ≡ 49) → 48 + bit_and d 1 ≡ d
digit_of_bit d (inl is) = rw is refl
digit_of_bit d (inr is) = rw is refl

-- What has been read of the digits: so far all are digits, and the word has their bits; or one is none.
pub record Gathered (digits : List ℕ) (n word others : ℕ) : Type 0 where
  pub small : word < 2 ^ n
  pub read : others ≤ 1 → take n digits ≡ digits_of word n
  pub other : 1 < others → AreDigits digits → ⊥

pub gathered_more : (digits : List ℕ) (n word others : ℕ) → n < length digits → n < 64 → Gathered digits n word others
    → Gathered digits (n + 1) (bit_or word (bit_and (get_or digits n 0) 1 * 2 ^ n % 2 ^ 64)) (bit_or others (bit_xor (get_or digits n 0) 48))
gathered_more digits n word others within few so_far =
    let d = get_or digits n 0 in
    let b = bit_and d 1 in
    let bit : b < 2 = let h = and_le_r d 1 in omega (arith, h) in
    let word_is = grown_word word n b so_far.small few bit in
    record {
      small = rw word_is (grown_small word n b so_far.small bit);
      read = λ none.
          let left : others ≤ 1 = let h = or_le_l others (bit_xor d 48) in omega (arith, h) in
          let right : bit_xor d 48 ≤ 1 = let h = or_le_r others (bit_xor d 48) in omega (arith, h) in
          let digit = digit_of_bit d (digit_from_xor d right) in
          take_more digits n 0 within
          ∙ ap (λ x. x ++ d ∷ []) (so_far.read left)
          ∙ ap (λ x. digits_of word n ++ x ∷ []) (sym digit)
          ∙ sym (ap (λ w. digits_of w (n + 1)) word_is ∙ grown_digits word n b so_far.small bit);
      other = λ many all.
          let digit = xor_from_digit d (all n 0 within) in
          refute (or_cases others (bit_xor d 48) many digit) all;
    }
  where
    or_cases : (a b : ℕ) → 1 < bit_or a b → b ≤ 1 → 1 < a
    or_cases a b many low = elim (below a) [
      | inl few ↦ absurd (let h = or_lt 1 a b few (omega arith) in omega (arith, h))
      | inr large ↦ large
    ]
      where
        below : (a : ℕ) → (a < 2 ^ 1) ⊎ (1 < a)
        below zero = inl (omega arith)
        below (suc zero) = inl (omega arith)
        below (suc (suc a)) = inr (omega arith)

    refute : 1 < others → AreDigits digits → ⊥
    refute many all = so_far.other many all
