-- A row while the words of its digits are read.
use Rattle.std.proofs.Common.{◌≡◌, ℕ, ◌+◌, ◌-◌, ◌*◌, ◌/◌, ◌%◌, ◌<◌, ◌≤◌, ◌⊎◌, min, cond, eqb, List, [], ◌++◌, length, get_or, set, take, drop, sym, ◌∙◌, ap, subst, arith, inl, inr, take-add, take_all, get_or-set_same, get_or-take, get_or-drop, length-take, length-drop, length-append, ext_get_or}
use Rattle.std.specs.Int.{bit_at}
use Rattle.std.proofs.lemmas.Bool.{cases_eq, cases_lt, cond-true, cond-false, eq-eqb, ne_eqb}
use Rattle.std.proofs.lemmas.List.{length-map, get_or-map, get_or_append_left, get_or-append_right, set-set}
use Rattle.std.proofs.lemmas.List.Elements.{All-append}
use Rattle.std.proofs.lemmas.List.FromFn.{length-map-range_with_len, get_or-map-range_with_len}
use Rattle.m4_model.specs.Matrix.{row, with_row}
use Rattle.m4_bits.specs.Digits.{AreDigits, digits_of}
use Rattle.m4_mzd.specs.Rows.{with_word}
use Rattle.m4_mzd.specs.Window.{Window, content, showing}
use Rattle.m4_text.specs.Reading.{entries_of}

-- A row of which the first c entries are read.
abbrev pub row_so_far : List ℕ → List ℕ → ℕ → List ℕ
row_so_far digits old c = entries_of (take c digits) ++ drop c old

-- its entries
module _ (digits old : List ℕ) (same : length digits ≡ length old) (c : ℕ) where
  length-read : length (entries_of (take c digits)) ≡ length (take c digits)
  length-read = length-map (take c digits) (λ byte. byte - 48)

  length-row_so_far : length (row_so_far digits old c) ≡ length old
  length-row_so_far =
      omega (arith, length-append (entries_of (take c digits)) (drop c old), length-read, length-take c digits, length-drop c old)

  read_entry : (j : ℕ) → j < c → j < length digits → get_or (row_so_far digits old c) j 0 ≡ get_or digits j 0 - 48
  read_entry j below inside =
      let here : j < length (take c digits) = omega (arith, length-take c digits) in
      get_or_append_left (entries_of (take c digits)) (drop c old) 0 j (omega (arith, length-read))
      ∙ get_or-map (λ byte. byte - 48) (take c digits) j 0 0 here
      ∙ ap (λ d. d - 48) (get_or-take c digits j 0 below)

  old_entry : (j : ℕ) → c ≤ j → j < length digits → get_or (row_so_far digits old c) j 0 ≡ get_or old j 0
  old_entry j behind inside =
      let place : c + (j - c) ≡ j = omega arith in
      get_or-append_right (entries_of (take c digits)) (drop c old) c j 0 (omega (arith, length-read, length-take c digits)) behind
      ∙ get_or-drop c old (j - c) 0
      ∙ ap (λ k. get_or old k 0) place

-- one word more
pub word_read : (digits old : List ℕ) (w word : ℕ) → length digits ≡ length old
    → take 64 (drop (64 * w) digits) ≡ digits_of word (length (take 64 (drop (64 * w) digits)))
    → with_word w word (row_so_far digits old (64 * w)) ≡ row_so_far digits old (64 * (w + 1))
word_read digits old w word same spelled =
    let before = row_so_far digits old (64 * w) in
    let after = row_so_far digits old (64 * (w + 1)) in
    let f : ℕ → ℕ = λ j. cond (eqb (j / 64) w) (bit_at word (j % 64)) (get_or before j 0) in
    let wide : length (with_word w word before) ≡ length before = length-map-range_with_len f 0 (length before) in
    let long : length before ≡ length old = length-row_so_far digits old same (64 * w) in
    ext_get_or 0 (with_word w word before) after
    (wide ∙ long ∙ sym (length-row_so_far digits old same (64 * (w + 1))))
    (λ j below.
    let inside : j < length digits = omega arith in
    get_or-map-range_with_len f 0 (length before) j j 0 (omega (arith, wide)) (omega arith)
    ∙ elim (cases_eq (j / 64) w) [
      | inl here ↦
          let part = take 64 (drop (64 * w) digits) in
          let within : j % 64 < length part = omega (arith, length-take 64 (drop (64 * w) digits), length-drop (64 * w) digits) in
          let place : 64 * w + j % 64 ≡ j = omega arith in
          let digit : get_or digits j 0 ≡ 48 + bit_at word (j % 64) =
          ap (λ k. get_or digits k 0) (sym place) ∙ sym (get_or-take 64 (drop (64 * w) digits) (j % 64) 0 (omega arith) ∙ get_or-drop (64 * w) digits (j % 64) 0)
          ∙ ap (λ l. get_or l (j % 64) 0) spelled
          ∙ get_or-map-range_with_len (λ k. 48 + bit_at word k) 0 (length part) (j % 64) (j % 64) 0 within (omega arith) in
          cond-true _ _ _ (eq-eqb (j / 64) w here)
          ∙ (let back : bit_at word (j % 64) ≡ get_or digits j 0 - 48 = omega (arith, digit) in back)
          ∙ sym (read_entry digits old same (64 * (w + 1)) j (omega arith) inside)
      | inr away ↦
          cond-false _ _ _ (ne_eqb (j / 64) w away)
          ∙ elim (cases_lt j (64 * w)) [
            | inl front ↦
                read_entry digits old same (64 * w) j front inside
                ∙ sym (read_entry digits old same (64 * (w + 1)) j (omega arith) inside)
            | inr behind ↦
                old_entry digits old same (64 * w) j behind inside
                ∙ sym (old_entry digits old same (64 * (w + 1)) j (omega (arith, away)) inside)
          ]
    ])

-- the digits of a word are digits
AreDigits-word : (word n : ℕ) → AreDigits (digits_of word n)
AreDigits-word word n = λ k d below.
    let here : k < n = omega (arith, length-map-range_with_len (λ i. 48 + bit_at word i) 0 n) in
    let is = get_or-map-range_with_len (λ i. 48 + bit_at word i) 0 n k k d here (omega arith) in
    elim (cases_lt (bit_at word k) 1) [
      | inl low ↦ inl (omega (arith, is))
      | inr high ↦ inr (omega (arith, is))
    ]

pub digits_read : (digits : List ℕ) (w word n : ℕ) → AreDigits (take (64 * w) digits) → take 64 (drop (64 * w) digits) ≡ digits_of word n
    → AreDigits (take (64 * (w + 1)) digits)
digits_read digits w word n before spelled =
    let next : 64 * (w + 1) ≡ 64 * w + 64 = omega arith in
    subst AreDigits (sym (ap (λ k. take k digits) next ∙ take-add (64 * w) 64 digits ∙ ap (λ l. take (64 * w) digits ++ l) spelled))
    (All-append (λ byte. (byte ≡ 48) ⊎ (byte ≡ 49)) (take (64 * w) digits) (digits_of word n) before (AreDigits-word word n))

-- the digits of a word, as the code cuts them
pub digits_cut : (digits : List ℕ) (start end : ℕ) → end ≡ min (start + 64) (length digits) → take (end - start) (drop start digits) ≡ take 64 (drop start digits)
digits_cut digits start end is =
    elim (cases_lt end (start + 64)) [
      | inl short ↦
          take_all (end - start) (drop start digits) (omega (arith, length-drop start digits))
          ∙ sym (take_all 64 (drop start digits) (omega (arith, length-drop start digits)))
      | inr full ↦ (let many : end - start ≡ 64 = omega arith in ap (λ n. take n (drop start digits)) many)
    ]

-- a window, of which one word more of the row is read
pub window_more : (w now new : Window) (r : ℕ) (digits : List ℕ) (k word : ℕ) → r < length w.bits → length digits ≡ length (row (content w) r)
    → now ≡ showing w (with_row (content w) r (row_so_far digits (row (content w) r) (64 * k)))
    → new ≡ showing now (with_row (content now) r (with_word k word (row (content now) r)))
    → take 64 (drop (64 * k) digits) ≡ digits_of word (length (take 64 (drop (64 * k) digits)))
    → new ≡ showing w (with_row (content w) r (row_so_far digits (row (content w) r) (64 * (k + 1))))
window_more w now new r digits k word below same so_far written spelled =
    let old = row (content w) r in
    let before = row_so_far digits old (64 * k) in
    let read : get_or (set w.bits r before) r [] ≡ before = get_or-set_same w.bits r before [] below in
    written ∙ ap (λ (x : Window). showing x (with_row (content x) r (with_word k word (row (content x) r)))) so_far
    ∙ ap (λ l. record w { bits = set (set w.bits r before) r (with_word k word l) }) read
    ∙ ap (λ (rows : List (List ℕ)). record w { bits = rows }) (set-set w.bits r before (with_word k word before))
    ∙ ap (λ l. record w { bits = set w.bits r l }) (word_read digits old k word same spelled)
