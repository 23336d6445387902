-- Words of elements, gathered from their digits one element after another.
use Rattle.std.proofs.Common.{◌≡◌, ℕ, suc, ◌+◌, ◌-◌, ◌*◌, ◌/◌, ◌%◌, ◌^◌, ◌<◌, ◌≤◌, ◌==◌, ◌||◌, inl, inr, min, List, get_or, sym, ◌∙◌, ap, ap₂, subst, arith, IsTrue, bit_xor, cond, nat_eq, mod-eq_of_lt}
use Rattle.std.specs.Int.Bits.{xor_zero_l, xor_zero_r}
use Rattle.std.proofs.Math.Nat.{div-lt_iff_lt-mul, div-div-eq-div-mul}
use Rattle.std.proofs.lemmas.Nat.{div-add-mod', pow-add, pow_pos}
use Rattle.std.proofs.lemmas.Bool.{cases_eq, cond-true, cond-false, eq-eqb, ne_eqb}
use Rattle.m4_mzed.specs.Words.{element}
use Rattle.m4_mzed.proofs.ElementLemmas.{element_shifted}
use Rattle.m4_mzed.proofs.WordLemmas.{element-xor}
use Rattle.m4_etext.specs.Place.{IsValue}
use Rattle.m4_etext.specs.Digits.{digit_of_elements}
use Rattle.m4_etext.specs.ElementWords.{IsSpelled, IsWordOfElements}
use Rattle.m4_etext.proofs.BitRows.{joined_small}
use Rattle.m4_etext.proofs.ElementWords.{each_width, whole_word}

-- an element with one digit more
pub spelled_more : (digits : List ℕ) (start m x v y : ℕ) → IsSpelled digits start m x → (v < 65536 → IsValue (get_or digits (start + m) 0) v) → v ≤ 65536 → y ≡ min (x * 16 + v) 65536
    → IsSpelled digits start (m + 1) y
spelled_more digits start m x v y so_far value few is = record {
  most = omega (arith, is);
  spelled = λ small i below.
      let whole : y ≡ x * 16 + v = omega (arith, is, small) in
      let front = so_far.spelled (omega (arith, whole, small)) in
      let here = value (omega (arith, whole, small)) in
      let low = here.small in
      elim (cases_eq i m) [
        | inl last ↦
            let none : m + 1 - 1 - i ≡ 0 = omega (arith, last) in
            let digit : y / 16 ^ 0 % 16 ≡ v = omega (arith, whole, low) in
            subst (λ z. IsValue (get_or digits (start + i) 0) z) (sym (ap (λ e. y / 16 ^ e % 16) none ∙ digit)) (subst (λ j. IsValue (get_or digits (start + j) 0) v) (sym last) here)
        | inr before ↦
            let inside : i < m = omega (arith, below, before) in
            let next : m + 1 - 1 - i ≡ 1 + (m - 1 - i) = omega (arith, inside) in
            let power : 16 ^ (m + 1 - 1 - i) ≡ 16 * 16 ^ (m - 1 - i) = ap (λ e. 16 ^ e) next ∙ pow-add 16 1 (m - 1 - i) in
            let cut : y / 16 ≡ x = omega (arith, whole, low) in
            let digit : y / 16 ^ (m + 1 - 1 - i) % 16 ≡ x / 16 ^ (m - 1 - i) % 16 =
            ap (λ z. z % 16) (ap (λ p. y / p) power ∙ sym (div-div-eq-div-mul y 16 (16 ^ (m - 1 - i))) ∙ ap (λ z. z / 16 ^ (m - 1 - i)) cut) in
            subst (λ z. IsValue (get_or digits (start + i) 0) z) (sym digit) (front i inside)
      ];
}

-- the place of the next element
pub element_place : (w c n k : ℕ) → IsTrue (w == 1 || w == 2 || w == 4 || w == 8 || w == 16) → 1 ≤ c → n ≤ 64 / w * c → k < n / c → k < 64 / w
element_place w c n k is some room within =
    let spread : (64 / w + 1) * c ≡ 64 / w * c + c = omega arith in
    let few : n / c < 64 / w + 1 = (div-lt_iff_lt-mul some).1 (omega (arith, spread, room, some)) in
    omega (arith, few, within)

times_le : (a b c : ℕ) → a ≤ b → a * c ≤ b * c
times_le a b c le = grind arith

pub place_small : (w k : ℕ) → IsTrue (w == 1 || w == 2 || w == 4 || w == 8 || w == 16) → k < 64 / w → k * w + w ≤ 64
place_small w k is below =
    let whole = whole_word w is in
    let le : suc k * w ≤ 64 / w * w = times_le (suc k) (64 / w) w below in
    let s : suc k * w ≡ k * w + w = omega arith in
    omega (arith, whole, le, s)

pub place_below : (w k : ℕ) → IsTrue (w == 1 || w == 2 || w == 4 || w == 8 || w == 16) → k < 64 / w → k * w < 64
place_below w k is below =
    let room = place_small w k is below in
    let some : 0 < w = each_width (λ w. 0 < w) (omega arith) (omega arith) (omega arith) (omega arith) (omega arith) w is in
    omega (arith, room, some)

-- a word with one element more
module _ (digits : List ℕ) (w k end m word x : ℕ) (is : IsTrue (w == 1 || w == 2 || w == 4 || w == 8 || w == 16)) (some : 1 ≤ k) (below : m < 64 / w) (few : end ≤ 2 ^ w) (so_far : IsWordOfElements digits w k end m word)
    (spelled : IsSpelled digits (k * m) k x) (small : x < end) where
  fits : x * 2 ^ (m * w) % 2 ^ 64 ≡ x * 2 ^ (m * w)
  fits = let room = place_small w m is below in let j = joined_small x w (m * w) 0 (omega (arith, small, few)) (pow_pos (m * w)) (omega (arith, room)) in mod-eq_of_lt (omega (arith, j))

  sum : (j : ℕ) → element w j (bit_xor word (x * 2 ^ (m * w) % 2 ^ 64)) ≡ bit_xor (element w j word) (cond (nat_eq j m) x 0)
  sum j =
      element-xor w j word (x * 2 ^ (m * w) % 2 ^ 64)
      ∙ ap (bit_xor (element w j word)) (ap (element w j) fits ∙ element_shifted w m j x (omega (arith, small, few)))

  here : element w m (bit_xor word (x * 2 ^ (m * w) % 2 ^ 64)) ≡ x
  here =
      let e : m ≡ m = omega arith in
      sum m ∙ ap₂ bit_xor (so_far.rest m (omega arith)) (cond-true _ x 0 (eq-eqb m m e)) ∙ xor_zero_l x

  away : (j : ℕ) → (j ≡ m → ⊥) → element w j (bit_xor word (x * 2 ^ (m * w) % 2 ^ 64)) ≡ element w j word
  away j other = sum j ∙ ap (bit_xor (element w j word)) (cond-false _ x 0 (ne_eqb j m other)) ∙ xor_zero_r (element w j word)

  pub gathered_more : IsWordOfElements digits w k end (m + 1) (bit_xor word (x * 2 ^ (m * w) % 2 ^ 64))
  gathered_more =
      let new = bit_xor word (x * 2 ^ (m * w) % 2 ^ 64) in
      let most : 2 ^ w ≤ 65536 = each_width (λ w. 2 ^ w ≤ 65536) (omega arith) (omega arith) (omega arith) (omega arith) (omega arith) w is in
      record {
        elements = λ j inside. elim (cases_eq j m) [
          | inl last ↦ subst (λ y. y < end) (sym (ap (λ i. element w i new) last ∙ here)) small
          | inr other ↦ subst (λ y. y < end) (sym (away j other)) (so_far.elements j (omega (arith, inside, other)))
        ];
        rest = λ j past. away j (λ same. omega (arith, same, past)) ∙ so_far.rest j (omega (arith, past));
        values = λ i inside. elim (cases_eq (i / k) m) [
          | inl last ↦
              let d = div-add-mod' i k in
              let s : i / k * k ≡ k * m = ap (λ y. y * k) last ∙ (let c : m * k ≡ k * m = omega arith in c) in
              let place : k * m + i % k ≡ i = omega (arith, d, s) in
              let low : i % k < k = omega (arith, some) in
              let digit : digit_of_elements w k new i ≡ x / 16 ^ (k - 1 - i % k) % 16 = ap (λ y. y / 16 ^ (k - 1 - i % k) % 16) (ap (λ j. element w j new) last ∙ here) in
              subst (λ z. IsValue (get_or digits i 0) z) (sym digit)
              (subst (λ p. IsValue (get_or digits p 0) (x / 16 ^ (k - 1 - i % k) % 16)) place (spelled.spelled (omega (arith, small, few, most)) (i % k) low))
          | inr other ↦
              let within : i / k < m + 1 = (div-lt_iff_lt-mul some).1 inside in
              let front : i < m * k = (div-lt_iff_lt-mul some).0 (omega (arith, within, other)) in
              subst (λ z. IsValue (get_or digits i 0) z) (sym (ap (λ y. y / 16 ^ (k - 1 - i % k) % 16) (away (i / k) other))) (so_far.values i front)
        ];
      }
