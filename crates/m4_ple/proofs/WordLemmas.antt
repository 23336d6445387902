-- Matrices whose rows are words, and what a step of their elimination makes of the words.
use Rattle.std.proofs.Common.{◌≡◌, ◌≢◌, ℕ, ◌+◌, ◌-◌, ◌*◌, ◌/◌, ◌%◌, ◌^◌, ◌<◌, ◌≤◌, inl, inr, ⊎_elim, refl, sym, ◌∙◌, ap, subst, arith, bit_or, bit_xor, List, length, get_or, set}
use Rattle.std.specs.List.{swap}
use Rattle.std.specs.Int.{bit_at}
use Rattle.std.proofs.lemmas.Nat.Bits.{bit_at_or, bit_at-lt, bit_at-pow_same, bit_at-pow_other}
use Rattle.std.proofs.lemmas.Bool.{cases_lt, cases_eq, eq-eqb, ne_eqb, lt-ltb, le-ltb}
use Rattle.std.proofs.lemmas.List.{length-set, get_or-set_same, get_or-set_other}
use Rattle.std.proofs.lemmas.List.Edits.{length-swap, swapped_from_swap}
use Rattle.std.specs.Int.Bits.{xor_zero_r}
use Rattle.m4_model.specs.Field.{IsElement, gf2, mul}
use Rattle.m4_model.specs.Matrix.{HasShape, at, matrix_of}
use Rattle.m4_model.proofs.FieldLemmas.{gf2_field}
use Rattle.m4_model.proofs.Gf2Lemmas.{gf2_laws}
use Rattle.m4_model.proofs.ShapeLemmas.{HasShape-matrix_of, at-matrix_of, same_entries, same_from_entries}
use Rattle.m4_model.proofs.EliminationLemmas.{exchange, exchange_elim}
use Rattle.m4_bits.proofs.BitsLemmas.{bit_at-xor}
use Rattle.m4_bits.proofs.TransposeLemmas.{bit_at-shr, bit_at-mod, bit_at-shl_low, bit_at-shl_high}
use Rattle.m4_ple.specs.Elimination.{cleared, cleared_entry, with_swapped}
use Rattle.m4_ple.specs.Words.{word_matrix, cleared_bit, IsClearedTo}
use Rattle.m4_ple.proofs.Clearing.{cleared-none, at-cleared_other, at-cleared_row}
use Rattle.m4_ple.proofs.Eliminated.{at-swapped, exchange-within, HasShape-swapped, HasShape-cleared}

module _ (cols : ℕ) (words : List ℕ) where
  -- the entries are the bits
  pub at-words : (i j : ℕ) → i < length words → j < cols → at (word_matrix cols words) i j ≡ bit_at (get_or words i 0) j
  at-words = at-matrix_of gf2 (length words) cols (λ i j. bit_at (get_or words i 0) j)

  pub HasShape-words : HasShape gf2 (length words) cols (word_matrix cols words)
  HasShape-words = HasShape-matrix_of gf2 (length words) cols (λ i j. bit_at (get_or words i 0) j) gf2_field (λ i j in_rows in_cols. bit_at-lt (get_or words i 0) j)

-- a word after two words are exchanged
word_swap : (words : List ℕ) (r s i : ℕ) → r < length words → s < length words → get_or (swap words r s) i 0 ≡ get_or words (exchange r s i) 0
word_swap words r s i first second =
    let swapped = swapped_from_swap words (swap words r s) r s 0 first second refl in
    exchange_elim (λ i k. get_or (swap words r s) i 0 ≡ get_or words k 0) r s i swapped.0 swapped.1 (swapped.2 i)

-- two words exchanged are two rows exchanged
pub words_swapped : (cols : ℕ) (words : List ℕ) (r s : ℕ) → r < length words → s < length words
    → word_matrix cols (swap words r s) ≡ with_swapped (word_matrix cols words) r s
words_swapped cols words r s first second =
    let W = word_matrix cols words in
    let g : ℕ → ℕ → ℕ = λ i j. bit_at (get_or (swap words r s) i 0) j in
    ap (λ m. matrix_of gf2 m cols g) (length-swap words r s)
    ∙ sym (same_from_entries (HasShape-swapped W (HasShape-words cols words) r s first second) g
    (λ i j in_rows in_cols. at-swapped W (HasShape-words cols words) r s first second i j
    ∙ at-words cols words (exchange r s i) j (exchange-within r s i (length words) first second in_rows) in_cols
    ∙ ap (λ w. bit_at w j) (sym (word_swap words r s i first second))))

-- over GF(2) the one is the inverse of the one, and a factor
pub one_element : IsElement gf2 1
one_element = omega arith

pub times_one : (x : ℕ) → IsElement gf2 x → mul gf2 x 1 ≡ x
times_one x element = gf2_laws.comm x 1 ∙ gf2_laws.unit x element

-- an entry is cleared as the bit is
entry_cleared : (cols : ℕ) (words : List ℕ) (r c i j : ℕ) → r < length words → i < length words → c < cols → j < cols
    → cleared_entry 1 r c (word_matrix cols words) i j ≡ cleared_bit r c (get_or words i 0) (get_or words r 0) j
entry_cleared cols words r c i j first below column within =
    let word = get_or words i 0 in
    let pivot = get_or words r 0 in
    ⊎_elim
    (λ (none : bit_at word c ≡ 0).
    cleared-none 1 r c (word_matrix cols words) i j (at-words cols words i c below column ∙ none)
    ∙ at-words cols words i j below within ∙ sym (rw (eq-eqb (bit_at word c) 0 none) refl))
    (λ (some : bit_at word c ≢ 0).
    let small = bit_at-lt word c in
    let one : bit_at word c ≡ 1 = omega (arith, small, some) in
    rw (
      at-words cols words i c below column,
      at-words cols words i j below within,
      at-words cols words r j first within,
      one,
      times_one 1 one_element,
      times_one (bit_at pivot j) (bit_at-lt pivot j),
    ) refl)
    (cases_eq (bit_at word c) 0)

-- words cleared below a row are the matrix cleared below it
pub words_cleared : (cols : ℕ) (old now : List ℕ) (r c : ℕ) → cols ≤ 64 → c < cols → r < length old → IsClearedTo r c (length old) old now
    → word_matrix cols now ≡ cleared 1 r c (length old) (word_matrix cols old)
words_cleared cols old now r c narrow column first made =
    let W = word_matrix cols old in
    let long = made.long in
    let shape : HasShape gf2 (length old) cols (word_matrix cols now) = subst (λ m. HasShape gf2 m cols (word_matrix cols now)) long (HasShape-words cols now) in
    same_entries shape (HasShape-cleared W (HasShape-words cols old) 1 r c (length old) one_element first column)
    (λ i j in_rows in_cols.
    at-words cols now i j (omega (arith, in_rows, long)) in_cols
    ∙ ⊎_elim
    (λ (low : r < i). made.done i j low in_rows (omega (arith, in_cols, narrow))
    ∙ sym (entry_cleared cols old r c i j first in_rows column in_cols)
    ∙ sym (at-cleared_row 1 r c W (length old) i j in_rows in_cols low in_rows))
    (λ (high : i ≤ r). ap (λ w. bit_at w j) (made.kept i (inl high))
    ∙ sym (at-words cols old i j in_rows in_cols)
    ∙ sym (at-cleared_other 1 r c W (length old) i j in_rows in_cols (inl high)))
    (cases_lt r i))

-- no word is cleared at first
pub cleared_to_start : (r c : ℕ) (words : List ℕ) → IsClearedTo r c (r + 1) words words
cleared_to_start r c words = record {
  long = refl;
  done = λ i j low before within. absurd (omega (arith, low, before));
  kept = λ i side. refl;
}

-- one word more
pub cleared_to_more : (r c k : ℕ) (old now : List ℕ) (w : ℕ) → IsClearedTo r c k old now → r < k → k < length now
    → ((j : ℕ) → j < 64 → bit_at w j ≡ cleared_bit r c (get_or now k 0) (get_or old r 0) j) → IsClearedTo r c (k + 1) old (set now k w)
cleared_to_more r c k old now w made low inside bits = record {
  long = length-set now k w ∙ made.long;
  done = λ i j below before within. ⊎_elim
      (λ (here : i ≡ k). rw here (ap (λ v. bit_at v j) (get_or-set_same now k w 0 inside) ∙ bits j within
      ∙ ap (λ v. cleared_bit r c v (get_or old r 0) j) (made.kept k (inr (omega arith)))))
      (λ (other : i ≢ k). ap (λ v. bit_at v j) (get_or-set_other now k i w 0 other) ∙ made.done i j below (omega (arith, before, other)) within)
      (cases_eq i k);
  kept = λ i side.
      let apart : i ≢ k = λ same. ⊎_elim (λ (high : i ≤ r). absurd (omega (arith, high, same, low))) (λ (past : k + 1 ≤ i). absurd (omega (arith, past, same))) side in
      get_or-set_other now k i w 0 apart
      ∙ made.kept i (⊎_elim (λ (high : i ≤ r). inl high) (λ (past : k + 1 ≤ i). inr (omega (arith, past))) side);
}

-- the bits of a word from column c on
tail_before : (pivot c j : ℕ) → j < c → j < 64 → bit_at (pivot / 2 ^ c * 2 ^ c % 2 ^ 64) j ≡ 0
tail_before pivot c j before within = bit_at-mod (pivot / 2 ^ c * 2 ^ c) 64 j within ∙ bit_at-shl_low (pivot / 2 ^ c) c j before

tail_from : (pivot c j : ℕ) → c ≤ j → j < 64 → bit_at (pivot / 2 ^ c * 2 ^ c % 2 ^ 64) j ≡ bit_at pivot j
tail_from pivot c j from within =
    let back : c + (j - c) ≡ j = omega (arith, from) in
    bit_at-mod (pivot / 2 ^ c * 2 ^ c) 64 j within ∙ bit_at-shl_high (pivot / 2 ^ c) c j (j - c) (omega (arith, from)) ∙ bit_at-shr pivot c (j - c) ∙ ap (bit_at pivot) back

-- the factor's bit
factor_here : (r j : ℕ) → j ≡ r → j < 64 → bit_at (1 * 2 ^ r % 2 ^ 64) j ≡ 1
factor_here r j here within = bit_at-mod (1 * 2 ^ r) 64 j within ∙ (let e : 1 * 2 ^ r ≡ 2 ^ r = omega arith in ap (λ w. bit_at w j) e) ∙ rw here (bit_at-pow_same r)

factor_other : (r j : ℕ) → j ≢ r → j < 64 → bit_at (1 * 2 ^ r % 2 ^ 64) j ≡ 0
factor_other r j other within = bit_at-mod (1 * 2 ^ r) 64 j within ∙ (let e : 1 * 2 ^ r ≡ 2 ^ r = omega arith in ap (λ w. bit_at w j) e) ∙ bit_at-pow_other r j other

module _ (r c word pivot : ℕ) (column : c < 64) (behind : r ≤ c) where
  -- a word without a one in the column stays
  pub word_kept : bit_at word c ≡ 0 → (j : ℕ) → bit_at word j ≡ cleared_bit r c word pivot j
  word_kept none j = rw (eq-eqb (bit_at word c) 0 none) refl

  Sum : ℕ
  Sum = bit_xor word (pivot / 2 ^ c * 2 ^ c % 2 ^ 64)

  Made : ℕ
  unfolding Sum
  Made = bit_or Sum (1 * 2 ^ r % 2 ^ 64)

  sum_before : (j : ℕ) → j < c → j < 64 → bit_at Sum j ≡ bit_at word j
  unfolding Sum
  sum_before j before within = bit_at-xor word _ j ∙ ap (bit_xor (bit_at word j)) (tail_before pivot c j before within) ∙ xor_zero_r (bit_at word j)

  sum_from : (j : ℕ) → c ≤ j → j < 64 → bit_at Sum j ≡ bit_xor (bit_at word j) (bit_at pivot j)
  unfolding Sum
  sum_from j from within = bit_at-xor word _ j ∙ ap (bit_xor (bit_at word j)) (tail_from pivot c j from within)

  made_here : (j : ℕ) → j ≡ r → j < 64 → bit_at Made j ≡ 1
  unfolding Made
  made_here j here within =
      bit_at_or Sum _ j ∙ (let one = factor_here r j here within in rw one (let small = bit_at-lt Sum j in omega (arith, small)))

  made_other : (j : ℕ) → j ≢ r → j < 64 → bit_at Made j ≡ bit_at Sum j
  unfolding Made
  made_other j other within = bit_at_or Sum _ j ∙ (let none = factor_other r j other within in rw none (omega arith))

  -- a word with a one there
  pub word_cleared : bit_at pivot c ≡ 1 → bit_at word c ≢ 0 → (j : ℕ) → j < 64
      → bit_at (bit_or (bit_xor word (pivot / 2 ^ c * 2 ^ c % 2 ^ 64)) (1 * 2 ^ r % 2 ^ 64)) j ≡ cleared_bit r c word pivot j
  unfolding Made Sum
  word_cleared one some j within =
      ⊎_elim
      (λ (here : j ≡ r). made_here j here within ∙ sym (rw (ne_eqb (bit_at word c) 0 some, eq-eqb j r here) refl))
      (λ (other : j ≢ r). made_other j other within ∙ ⊎_elim
      (λ (at_column : j ≡ c).
      sum_from j (omega (arith, at_column)) within
      ∙ (let small = bit_at-lt word c in let full : bit_at word c ≡ 1 = omega (arith, small, some) in
      let both : bit_xor (bit_at word j) (bit_at pivot j) ≡ 0 = rw (at_column, full, one) refl in both)
      ∙ sym (rw (ne_eqb (bit_at word c) 0 some, ne_eqb j r other, eq-eqb j c at_column) refl))
      (λ (elsewhere : j ≢ c). ⊎_elim
      (λ (before : j < c). sum_before j before within
      ∙ sym (rw (ne_eqb (bit_at word c) 0 some, ne_eqb j r other, ne_eqb j c elsewhere, lt-ltb j c before) refl))
      (λ (from : c ≤ j). sum_from j from within
      ∙ sym (rw (ne_eqb (bit_at word c) 0 some, ne_eqb j r other, ne_eqb j c elsewhere, le-ltb j c from) refl))
      (cases_lt j c))
      (cases_eq j c))
      (cases_eq j r)
