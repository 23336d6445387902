-- Words of elements whose digits are all their bits: their digits are the fours of bits of the word with each element turned round.
use Rattle.std.proofs.Common.{◌≡◌, ℕ, ◌+◌, ◌*◌, ◌/◌, ◌%◌, ◌^◌, ◌<◌, ◌≤◌, ◌==◌, ◌||◌, IsTrue, inl, inr, false, List, sym, ◌∙◌, ap, subst, ext_get_or, arith}
use Rattle.std.specs.Fmt.{digit_glyph}
use Rattle.std.proofs.Math.Nat.{div-div-eq-div-mul}
use Rattle.std.proofs.lemmas.Nat.{pow-add}
use Rattle.std.proofs.lemmas.Bool.{cases_eq}
use Rattle.std.proofs.lemmas.List.FromFn.{length-map-range_with_len, get_or-map-range_with_len}
use Rattle.m4_etext.specs.Digits.{digit_of_elements, elements_of, fours_of}
use Rattle.m4_etext.proofs.BitRows.{pow_four}
use Rattle.m4_etext.proofs.ElementWords.{each_width}
use Rattle.m4_etext.proofs.FourLemmas.{AreTurned}

-- a four of bits of a word that is shifted by eight of them
pub shifted_four : (word place j : ℕ) → word / 2 ^ (32 * place) / 16 ^ j % 16 ≡ word / 16 ^ (8 * place + j) % 16
shifted_four word place j =
    let e : 32 * place ≡ 4 * (8 * place) = omega arith in
    ap (λ x. x % 16)
    (ap (λ x. word / x / 16 ^ j) (ap (λ k. 2 ^ k) e ∙ pow_four (8 * place)) ∙ div-div-eq-div-mul word (16 ^ (8 * place)) (16 ^ j)
    ∙ ap (λ x. word / x) (sym (pow-add 16 (8 * place) j)))

each_count : (P : ℕ → Type 0) (c : ℕ) → 1 ≤ c → c ≤ 4 → P 1 → P 2 → P 4 → (c ≡ 3 → ⊥) → P c
each_count P c some few one two four other =
    elim (cases_eq c 1) [
      | inl is ↦ subst P (sym is) one
      | inr a ↦ elim (cases_eq c 2) [
        | inl is ↦ subst P (sym is) two
        | inr b ↦ elim (cases_eq c 4) [
          | inl is ↦ subst P (sym is) four
          | inr d ↦ absurd (other (omega (arith, some, few, a, b, d)))
        ]
      ]
    ]

-- elements whose digits are all their bits have 16 digits in a word
pub few_digits : (w c n : ℕ) → IsTrue (w == 1 || w == 2 || w == 4 || w == 8 || w == 16) → 1 ≤ c → c ≤ 4 → 4 * c ≡ w → n ≤ 64 / w * c → n ≤ 16
few_digits w c n is some few whole room =
    each_count (λ c. 4 * c ≡ w → n ≤ 64 / w * c → n ≤ 16) c some few
    (λ e. rw (sym e) (λ r. omega (arith, r))) (λ e. rw (sym e) (λ r. omega (arith, r))) (λ e. rw (sym e) (λ r. omega (arith, r)))
    (λ three. absurd (each_width (λ w. w ≡ 12 → ⊥) (λ e. omega (arith, e)) (λ e. omega (arith, e)) (λ e. omega (arith, e)) (λ e. omega (arith, e)) (λ e. omega (arith, e)) w is (omega (arith, whole, three))))
    whole room

pub turned_digits : (w c word new n : ℕ) (digits : List ℕ) → 4 * c ≡ w → n ≤ 16 → AreTurned c word new → digits ≡ fours_of new n → digits ≡ elements_of w c word n
turned_digits w c word new n digits whole few are is =
    let f : ℕ → ℕ = λ i. digit_glyph false (new / 16 ^ i % 16) in
    let g : ℕ → ℕ = λ p. digit_glyph false (digit_of_elements w c word p) in
    is ∙ ext_get_or 0 _ _ (length-map-range_with_len f 0 n ∙ sym (length-map-range_with_len g 0 n)) (λ i below.
    let inside : i < n = (let l = length-map-range_with_len f 0 n in omega (arith, below, l)) in
    get_or-map-range_with_len f 0 n i i 0 inside (omega arith)
    ∙ ap (digit_glyph false) (sym (subst (λ w. digit_of_elements w c word i ≡ new / 16 ^ i % 16) whole (are i (omega (arith, inside, few)))))
    ∙ sym (get_or-map-range_with_len g 0 n i i 0 inside (omega arith)))
