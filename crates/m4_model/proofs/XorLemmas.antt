-- Sums of several terms are equal where each term stands in both as often, but for pairs.
use Rattle.std.proofs.Common.{◌≡◌, ◌≢◌, ℕ, ◌*◌, ◌<◌, ◌≤◌, ◌⊎◌, inl, inr, List, length, get_or, map, refl, sym, ◌∙◌, ap, ap₂, ⊎_elim, arith, bit_xor, ◌==◌, if◌then◌else◌}
use Rattle.std.specs.Int.Bits.{xor_zero_l, xor_zero_r, xor_self}
use Rattle.std.specs.List.{range_with_len}
use Rattle.std.proofs.lemmas.List.{get_or_past}
use Rattle.std.proofs.lemmas.List.FromFn.{get_or-map-range_with_len}
use Rattle.std.proofs.lemmas.Bool.{cases_lt, cases_eq, eq-eqb, ne_eqb}
use Rattle.m4_model.specs.Field.{sum_below}
use Rattle.m4_model.proofs.FieldLemmas.{sum_below-same}
use Rattle.m4_model.proofs.SumLemmas.{sum_below-zero, sum_below-xor, sum_below-single}

-- a sum of terms that are named by their places in a list
pub data Sum : Type 0 where
  term : ℕ → Sum
  plus : Sum → Sum → Sum

-- its value
abbrev pub value : List ℕ → Sum → ℕ
value terms (term i) = get_or terms i 0
value terms (plus a b) = bit_xor (value terms a) (value terms b)

-- how often a term stands there, but for pairs
abbrev pub times_of : Sum → ℕ → ℕ
times_of (term i) k = if k == i then 1 else 0
times_of (plus a b) k = bit_xor (times_of a k) (times_of b k)

-- a term of a list, once or not at all
abbrev pub taken : List ℕ → Sum → ℕ → ℕ
taken terms a k = times_of a k * get_or terms k 0

-- none or one of a value, and a sum of such
times_of-plus : (terms : List ℕ) (a b : Sum) (k : ℕ) → taken terms (plus a b) k ≡ bit_xor (taken terms a k) (taken terms b k)
times_of-plus terms a b k = parts (times_of a k) (times_of b k) (get_or terms k 0) (few a) (few b)
  where
    few : (a : Sum) → (times_of a k ≡ 0) ⊎ (times_of a k ≡ 1)
    few (term i) = ⊎_elim
        (λ (same : k ≡ i). inr (rw (eq-eqb k i same) refl))
        (λ (other : k ≢ i). inl (rw (ne_eqb k i other) refl))
        (cases_eq k i)
    few (plus a b) = ⊎_elim
        (λ (none : times_of a k ≡ 0). ⊎_elim
        (λ (empty : times_of b k ≡ 0). inl (rw (none, empty) refl))
        (λ (one : times_of b k ≡ 1). inr (rw (none, one) refl)) (few b))
        (λ (one : times_of a k ≡ 1). ⊎_elim
        (λ (empty : times_of b k ≡ 0). inr (rw (one, empty) refl))
        (λ (other : times_of b k ≡ 1). inl (rw (one, other) refl)) (few b))
        (few a)

    parts : (p q x : ℕ) → (p ≡ 0) ⊎ (p ≡ 1) → (q ≡ 0) ⊎ (q ≡ 1) → bit_xor p q * x ≡ bit_xor (p * x) (q * x)
    parts p q x (inl none) (inl empty) = rw (none, empty) (let gone : 0 * x ≡ 0 = omega arith in rw gone (sym (xor_zero_l 0)))
    parts p q x (inl none) (inr one) = rw (none, one) (let gone : 0 * x ≡ 0 = omega arith in let whole : 1 * x ≡ x = omega arith in rw (gone, whole) (sym (xor_zero_l x)))
    parts p q x (inr one) (inl empty) = rw (one, empty) (let gone : 0 * x ≡ 0 = omega arith in let whole : 1 * x ≡ x = omega arith in rw (gone, whole) (sym (xor_zero_r x)))
    parts p q x (inr one) (inr other) = rw (one, other) (let gone : 0 * x ≡ 0 = omega arith in let whole : 1 * x ≡ x = omega arith in rw (gone, whole) (sym (xor_self x)))

-- the value is the sum over the list of what stands there once
by_terms : (terms : List ℕ) (a : Sum) → value terms a ≡ sum_below (length terms) (taken terms a)
by_terms terms (term i) = ⊎_elim
    (λ (listed : i < length terms).
    let alone : (k : ℕ) → k < length terms → k ≢ i → taken terms (term i) k ≡ 0 = λ k below other. rw (ne_eqb k i other) (omega arith) in
    let own : taken terms (term i) i ≡ get_or terms i 0 = rw (eq-eqb i i refl) (omega arith) in
    sym own ∙ sym (sum_below-single (length terms) i (taken terms (term i)) listed alone))
    (λ (past : length terms ≤ i).
    get_or_past terms i 0 past
    ∙ sym (sum_below-zero (length terms) (taken terms (term i)) (λ k below.
    let other : k ≢ i = omega (arith, below, past) in rw (ne_eqb k i other) (omega arith))))
    (cases_lt i (length terms))
by_terms terms (plus a b) =
    ap₂ bit_xor (by_terms terms a) (by_terms terms b)
    ∙ sym (sum_below-xor (length terms) (taken terms a) (taken terms b))
    ∙ sum_below-same (length terms) (λ k. bit_xor (taken terms a k) (taken terms b k)) (taken terms (plus a b)) (λ k below. sym (times_of-plus terms a b k))

-- sums in which each term stands as often, but for pairs, have one value
pub same_sums : (terms : List ℕ) (a b : Sum)
    → map (times_of a) (range_with_len 0 (length terms)) ≡ map (times_of b) (range_with_len 0 (length terms)) → value terms a ≡ value terms b
same_sums terms a b same =
    by_terms terms a
    ∙ sum_below-same (length terms) (taken terms a) (taken terms b) (λ k below.
    ap (λ (x : ℕ). x * get_or terms k 0)
    (sym (get_or-map-range_with_len (times_of a) 0 (length terms) k k 0 below (omega arith))
    ∙ ap (λ (xs : List ℕ). get_or xs k 0) same
    ∙ get_or-map-range_with_len (times_of b) 0 (length terms) k k 0 below (omega arith)))
    ∙ sym (by_terms terms b)
