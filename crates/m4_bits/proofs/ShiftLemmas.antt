-- Bits that are copied from one row to another: two words that make one, one word, and copies one after another.
use Rattle.std.proofs.Common.{◌≡◌, ℕ, ◌+◌, ◌-◌, ◌*◌, ◌/◌, ◌%◌, ◌^◌, ◌<◌, ◌≤◌, inl, inr, max, List, length, get_or, set, sym, ◌∙◌, ap, arith}
use Rattle.std.specs.Prelude.{bit_or}
use Rattle.std.specs.Int.{bit_at}
use Rattle.std.proofs.lemmas.Nat.Bits.{bit_at_or, bit_at_above, bit_at_ones, bit_at_ones_above}
use Rattle.std.proofs.lemmas.List.{get_or-set_same, get_or-set_other}
use Rattle.std.proofs.lemmas.Bool.{cases_eq, cases_lt}
use Rattle.m4_bits.specs.Bits.{bit, last_bits, merged}
use Rattle.m4_bits.specs.Shift.{AreCopied}
use Rattle.m4_bits.proofs.BitsLemmas.{last_bits-is}
use Rattle.m4_bits.proofs.OverlaidLemmas.{bit_at-merged_under, bit_at-merged_outside}
use Rattle.m4_bits.proofs.TransposeLemmas.{bit_at-shr, bit_at-mod, bit_at-shl_low, bit_at-shl_high}

-- ---- two words that make one
-- the upper word, moved to where it begins
moved : ℕ → ℕ → ℕ
moved upper s = upper * 2 ^ 1 % 2 ^ 64 * 2 ^ (63 - s) % 2 ^ 64

bit_at-moved_low : (upper s j : ℕ) → s + j < 64 → bit_at (moved upper s) j ≡ 0
unfolding moved
bit_at-moved_low upper s j below =
    bit_at-mod _ 64 j (omega arith)
    ∙ elim (cases_lt j (63 - s)) [
      | inl low ↦ bit_at-shl_low _ (63 - s) j low
      | inr last ↦
          bit_at-shl_high _ (63 - s) j 0 (omega arith) ∙ bit_at-mod _ 64 0 (omega arith) ∙ bit_at-shl_low upper 1 0 (omega arith)
    ]

bit_at-moved_high : (upper s j : ℕ) → s < 64 → j < 64 → 64 ≤ s + j → bit_at (moved upper s) j ≡ bit_at upper (s + j - 64)
unfolding moved
bit_at-moved_high upper s j in_word small past =
    bit_at-mod _ 64 j small
    ∙ bit_at-shl_high _ (63 - s) j (s + j - 63) (omega arith)
    ∙ bit_at-mod _ 64 (s + j - 63) (omega arith)
    ∙ bit_at-shl_high upper 1 (s + j - 63) (s + j - 64) (omega arith)

pub across_lower : (lower upper s j : ℕ) → s + j < 64
    → bit_at (bit_or (lower / 2 ^ s) (upper * 2 ^ 1 % 2 ^ 64 * 2 ^ (63 - s) % 2 ^ 64)) j ≡ bit_at lower (s + j)
unfolding moved
across_lower lower upper s j below =
    bit_at_or (lower / 2 ^ s) (moved upper s) j
    ∙ ap (max (bit_at (lower / 2 ^ s) j)) (bit_at-moved_low upper s j below)
    ∙ (let most : max (bit_at (lower / 2 ^ s) j) 0 ≡ bit_at (lower / 2 ^ s) j = omega arith in most)
    ∙ bit_at-shr lower s j

pub across_upper : (lower upper s j : ℕ) → lower < 2 ^ 64 → s < 64 → j < 64 → 64 ≤ s + j
    → bit_at (bit_or (lower / 2 ^ s) (upper * 2 ^ 1 % 2 ^ 64 * 2 ^ (63 - s) % 2 ^ 64)) j ≡ bit_at upper (s + j - 64)
unfolding moved
across_upper lower upper s j fits in_word small past =
    bit_at_or (lower / 2 ^ s) (moved upper s) j
    ∙ ap (λ b. max b (bit_at (moved upper s) j)) (bit_at-shr lower s j ∙ bit_at_above lower 64 (s + j) fits past)
    ∙ (let most : max 0 (bit_at (moved upper s) j) ≡ bit_at (moved upper s) j = omega arith in most)
    ∙ bit_at-moved_high upper s j in_word small past

-- two neighbouring words of a row hold the bits from one of the first on
pub word_of_two : (row : List ℕ) (from word j : ℕ) → j < 64
    → ((i : ℕ) → from % 64 + i < 64 → bit_at word i ≡ bit_at (get_or row (from / 64) 0) (from % 64 + i))
    → ((i : ℕ) → i < 64 → 64 ≤ from % 64 + i → bit_at word i ≡ bit_at (get_or row (from / 64 + 1) 0) (from % 64 + i - 64))
    → bit_at word j ≡ bit row (from + j)
word_of_two row from word j small lower upper =
    elim (cases_lt (from % 64 + j) 64) [
      | inl inside ↦
          let place : from / 64 ≡ (from + j) / 64 = omega arith in
          let within : from % 64 + j ≡ (from + j) % 64 = omega arith in
          lower j inside ∙ (λ i. bit_at (get_or row (place i) 0) (within i))
      | inr past ↦
          let place : from / 64 + 1 ≡ (from + j) / 64 = omega arith in
          let within : from % 64 + j - 64 ≡ (from + j) % 64 = omega arith in
          upper j small past ∙ (λ i. bit_at (get_or row (place i) 0) (within i))
    ]

-- ---- copies one after another
pub copied_more : (old now new src : List ℕ) (to from m n total : ℕ) → m + n ≡ total → AreCopied old now src to from m → AreCopied now new src (to + m) (from + m) n
    → AreCopied old new src to from total
copied_more old now new src to from m n total all one more = record {
  copied = λ k below. elim (cases_lt k m) [
    | inl first ↦ more.before (to + k) (omega arith) ∙ one.copied k first
    | inr rest ↦
        let there : to + k ≡ to + m + (k - m) = omega arith in
        let here : from + m + (k - m) ≡ from + k = omega arith in
        ap (bit new) there ∙ more.copied (k - m) (omega arith) ∙ ap (bit src) here
  ];
  before = λ k below. more.before k (omega arith) ∙ one.before k below;
  after = λ k past. more.after k (omega arith) ∙ one.after k (omega arith);
}

-- ---- a word that is written
-- whole
pub word_copied : (old src : List ℕ) (place from word : ℕ) → place < length old → ((j : ℕ) → j < 64 → bit_at word j ≡ bit src (from + j))
    → AreCopied old (set old place word) src (place * 64) from 64
word_copied old src place from word within bits = record {
  copied = λ k below.
      let here : (place * 64 + k) / 64 ≡ place = omega arith in
      let at : (place * 64 + k) % 64 ≡ k = omega arith in
      (λ i. bit_at (get_or (set old place word) (here i) 0) (at i)) ∙ ap (λ w. bit_at w k) (get_or-set_same old place word 0 within) ∙ bits k below;
  before = λ k below. ap (λ w. bit_at w (k % 64)) (get_or-set_other old place (k / 64) word 0 (λ is. omega (arith, is)));
  after = λ k past. ap (λ w. bit_at w (k % 64)) (get_or-set_other old place (k / 64) word 0 (λ is. omega (arith, is)));
}

-- in part: a mask of `count` ones from bit s on
part_mask : ℕ → ℕ → ℕ
part_mask count s = (2 ^ last_bits count - 1) * 2 ^ s % 2 ^ 64

mask_before : (count s i : ℕ) → i < 64 → i < s → bit_at (part_mask count s) i ≡ 0
unfolding part_mask
mask_before count s i small below = bit_at-mod _ 64 i small ∙ bit_at-shl_low _ s i below

mask_inside : (count s k : ℕ) → s + k < 64 → k < count → count ≤ 64 → bit_at (part_mask count s) (s + k) ≡ 1
unfolding part_mask
mask_inside count s k small below few =
    bit_at-mod _ 64 (s + k) small ∙ bit_at-shl_high _ s (s + k) k (omega arith) ∙ bit_at_ones (last_bits count) k (rw (last_bits-is count) (omega arith))

mask_after : (count s i : ℕ) → i < 64 → s + count ≤ i → 0 < count → count ≤ 64 → bit_at (part_mask count s) i ≡ 0
unfolding part_mask
mask_after count s i small past some few =
    bit_at-mod _ 64 i small ∙ bit_at-shl_high _ s i (i - s) (omega arith) ∙ bit_at_ones_above (last_bits count) (i - s) (rw (last_bits-is count) (omega arith))

pub part_copied : (old src : List ℕ) (to from count word : ℕ) → 0 < count → to % 64 + count ≤ 64 → to / 64 < length old
    → ((j : ℕ) → j < 64 → bit_at word j ≡ bit src (from + j))
    → AreCopied old (set old (to / 64) (merged ((2 ^ last_bits count - 1) * 2 ^ (to % 64) % 2 ^ 64) (get_or old (to / 64) 0) (word * 2 ^ (to % 64) % 2 ^ 64))) src to from count
unfolding part_mask
part_copied old src to from count word some one_word within bits =
    let place = to / 64 in
    let s = to % 64 in
    let before = get_or old place 0 in
    let value = word * 2 ^ s % 2 ^ 64 in
    let written = merged (part_mask count s) before value in
    let same : get_or (set old place written) place 0 ≡ written = get_or-set_same old place written 0 within in
    let outside : (k : ℕ) → (k / 64 ≡ place → bit_at (part_mask count s) (k % 64) ≡ 0) → bit (set old place written) k ≡ bit old k =
    λ k none. elim (cases_eq (k / 64) place) [
      | inl here ↦
          ap (λ q. bit_at (get_or (set old place written) q 0) (k % 64)) here
          ∙ ap (λ w. bit_at w (k % 64)) same
          ∙ bit_at-merged_outside (part_mask count s) before value (k % 64) (none here)
          ∙ ap (λ q. bit_at (get_or old q 0) (k % 64)) (sym here)
      | inr away ↦ ap (λ w. bit_at w (k % 64)) (get_or-set_other old place (k / 64) written 0 away)
    ] in
    record {
      copied = λ k below.
          let here : (to + k) / 64 ≡ place = omega arith in
          let at : (to + k) % 64 ≡ s + k = omega arith in
          (λ i. bit_at (get_or (set old place written) (here i) 0) (at i))
          ∙ ap (λ w. bit_at w (s + k)) same
          ∙ bit_at-merged_under (part_mask count s) before value (s + k) (mask_inside count s k (omega arith) below (omega arith))
          ∙ bit_at-mod _ 64 (s + k) (omega arith) ∙ bit_at-shl_high word s (s + k) k (omega arith) ∙ bits k (omega arith);
      before = λ k below. outside k (λ here. mask_before count s (k % 64) (omega arith) (omega arith));
      after = λ k past. outside k (λ here. mask_after count s (k % 64) (omega arith) (omega arith) some (omega arith));
    }

-- no bits that are copied, wherever
none_anywhere : (old new src : List ℕ) (to from to_other from_other : ℕ) → AreCopied old new src to from 0 → AreCopied old new src to_other from_other 0
none_anywhere old new src to from to_other from_other none =
    let same : (k : ℕ) → bit new k ≡ bit old k = λ k. elim (cases_lt k to) [
      | inl first ↦ none.before k first
      | inr rest ↦ none.after k (omega arith)
    ] in
    record { copied = λ k below. absurd (omega arith); before = λ k below. same k; after = λ k past. same k }

-- a part of a word, whole words, and a part of a word again
pub copied_in_three : (old one two new src : List ℕ) (to from head words tail count : ℕ) → head + 64 * words + tail ≡ count → (0 < words → (to + head) % 64 ≡ 0)
    → AreCopied old one src to from head → AreCopied one two src ((to + head) / 64 * 64) (from + head) (words * 64)
    → AreCopied two new src (to + (head + 64 * words)) (from + (head + 64 * words)) tail → AreCopied old new src to from count
copied_in_three old one two new src to from head words tail count all whole first middle last =
    let there : AreCopied one two src (to + head) (from + head) (words * 64) = elim (cases_lt 0 words) [
      | inl some ↦ (let e : (to + head) / 64 * 64 ≡ to + head = omega (arith, whole some) in rw e at middle)
      | inr none ↦
          let e : words * 64 ≡ 0 = omega arith in
          rw e (none_anywhere one two src ((to + head) / 64 * 64) (from + head) (to + head) (from + head) (rw e at middle))
    ] in
    let two_parts : AreCopied old two src to from (head + 64 * words) = copied_more old one two src to from head (words * 64) (head + 64 * words) (omega arith) first there in
    copied_more old two new src to from (head + 64 * words) tail count all two_parts last

-- one word more
pub words_more : (old now src : List ℕ) (first from k word : ℕ) → first + k < length now → AreCopied old now src (first * 64) from (k * 64)
    → ((i : ℕ) → from % 64 + i < 64 → bit_at word i ≡ bit_at (get_or src (from / 64 + k) 0) (from % 64 + i))
    → ((i : ℕ) → i < 64 → 64 ≤ from % 64 + i → bit_at word i ≡ bit_at (get_or src (from / 64 + k + 1) 0) (from % 64 + i - 64))
    → AreCopied old (set now (first + k) word) src (first * 64) from ((k + 1) * 64)
words_more old now src first from k word within so_far lower upper =
    let start = from + k * 64 in
    let place : from / 64 + k ≡ start / 64 = omega arith in
    let next : from / 64 + k + 1 ≡ start / 64 + 1 = omega arith in
    let at : from % 64 ≡ start % 64 = omega arith in
    let there : (first + k) * 64 ≡ first * 64 + k * 64 = omega arith in
    let bits : (j : ℕ) → j < 64 → bit_at word j ≡ bit src (start + j) = λ j small.
    word_of_two src start word j small
    (λ i inside. lower i (omega arith) ∙ (λ q. bit_at (get_or src (place q) 0) (at q + i)))
    (λ i below past. upper i below (omega arith) ∙ (λ q. bit_at (get_or src (next q) 0) (at q + i - 64))) in
    let one : AreCopied now (set now (first + k) word) src (first * 64 + k * 64) start 64 =
    rw there at (word_copied now src (first + k) start word within bits) in
    copied_more old now (set now (first + k) word) src (first * 64) from (k * 64) 64 ((k + 1) * 64) (omega arith) so_far one
