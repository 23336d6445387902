-- Rows of words as rows of bits.
use Rattle.std.proofs.Common.{◌≡◌, ◌↔◌, IsTrue, Bool, true, false, cond, ℕ, suc, ◌+◌, ◌-◌, ◌*◌, ◌/◌, ◌%◌, ◌<◌, ◌≤◌, inl, inr, List, [], ◌∷◌, length, get_or, refl, sym, ◌∙◌, arith}
use Rattle.std.specs.Int.{bit_at}
use Rattle.std.proofs.lemmas.Nat.Bits.{bit_at-zero}
use Rattle.std.proofs.lemmas.Bool.{cases_eq, cases_lt, true≢false}
use Rattle.std.proofs.lemmas.List.{length-append, length-take-le, length-drop, get_or_append_left, get_or-append_right, get_or-take, get_or-drop, ext_get_or}
use Rattle.std.proofs.lemmas.List.FromFn.{length-map-range_with_len, get_or-map-range_with_len}
use Rattle.m4_bits.specs.Bits.{bit}
use Rattle.m4_mzd.specs.Shown.{digits, bits_of, bits_within, bits_past}

-- the bits of one word
pub length-digits : (n word : ℕ) → length (digits n word) ≡ n
unfolding digits
length-digits n word = length-map-range_with_len (λ i. bit_at word i) 0 n

pub get_or-digits : (n word i : ℕ) → i < n → get_or (digits n word) i 0 ≡ bit_at word i
unfolding digits
get_or-digits n word i below = get_or-map-range_with_len (λ j. bit_at word j) 0 n i i 0 below (omega arith)

-- the bits of a row of words
pub length-bits_of : (words : List ℕ) → length (bits_of words) ≡ length words * 64
length-bits_of [] = refl
length-bits_of (w ∷ ws) = omega (arith, length-append (digits 64 w) (bits_of ws), length-digits 64 w, length-bits_of ws)

pub get_or-bits_of : (words : List ℕ) (j : ℕ) → get_or (bits_of words) j 0 ≡ bit words j
get_or-bits_of [] j = sym (bit_at-zero (j % 64))
get_or-bits_of (w ∷ ws) j =
    elim (cases_lt j 64) [
      | inl low ↦
          let word : j / 64 ≡ 0 = omega arith in
          let place : j % 64 ≡ j = omega arith in
          get_or_append_left (digits 64 w) (bits_of ws) 0 j (omega (arith, length-digits 64 w))
          ∙ (rw (word, place) (get_or-digits 64 w j low))
      | inr high ↦
          let word : j / 64 ≡ suc ((j - 64) / 64) = omega arith in
          let place : j % 64 ≡ (j - 64) % 64 = omega arith in
          get_or-append_right (digits 64 w) (bits_of ws) 64 j 0 (length-digits 64 w) high
          ∙ (rw (word, place) (get_or-bits_of ws (j - 64)))
    ]

-- the bits of the first columns of a row, and those past them
pub length-bits_within : (cols : ℕ) (words : List ℕ) → cols ≤ length words * 64 → length (bits_within cols words) ≡ cols
length-bits_within cols words enough = length-take-le cols (bits_of words) (omega (arith, length-bits_of words))

pub get_or-bits_within : (cols : ℕ) (words : List ℕ) (j : ℕ) → j < cols → get_or (bits_within cols words) j 0 ≡ bit words j
get_or-bits_within cols words j below = get_or-take cols (bits_of words) j 0 below ∙ get_or-bits_of words j

pub length-bits_past : (cols : ℕ) (words : List ℕ) → length (bits_past cols words) ≡ length words * 64 - cols
length-bits_past cols words = omega (arith, length-drop cols (bits_of words), length-bits_of words)

-- a row that was written holds these entries
pub within_written : (cols : ℕ) (new entries : List ℕ) → cols ≤ length new * 64 → length entries ≡ cols
    → ((j : ℕ) → j < cols → bit new j ≡ get_or entries j 0) → bits_within cols new ≡ entries
within_written cols new entries enough long written =
    let wide : length (bits_within cols new) ≡ cols = length-bits_within cols new enough in
    ext_get_or 0 (bits_within cols new) entries (wide ∙ sym long) (λ j inside.
    let below : j < cols = omega (arith, wide) in get_or-bits_within cols new j below ∙ written j below)

-- and its other bits are as they were
pub past_kept : (cols : ℕ) (old new : List ℕ) → length new ≡ length old
    → ((j : ℕ) → cols ≤ j → bit new j ≡ bit old j) → bits_past cols new ≡ bits_past cols old
past_kept cols old new same kept =
    let lengths : length (bits_past cols new) ≡ length (bits_past cols old) = omega (arith, length-bits_past cols new, length-bits_past cols old) in
    ext_get_or 0 (bits_past cols new) (bits_past cols old) lengths (λ j inside.
    get_or-drop cols (bits_of new) j 0 ∙ get_or-bits_of new (cols + j) ∙ kept (cols + j) (omega arith)
    ∙ sym (get_or-drop cols (bits_of old) j 0 ∙ get_or-bits_of old (cols + j)))

-- a bit by whether it is 1
pub bit_from_test : (b : Bool) (x : ℕ) → x < 2 → (IsTrue b ↔ (x ≡ 1)) → x ≡ cond b 1 0
bit_from_test true x small says = says.0 refl
bit_from_test false x small says =
    elim (cases_eq x 1) [
      | inl one ↦ absurd (true≢false (sym (says.1 one)))
      | inr other ↦ omega (arith, other)
    ]
