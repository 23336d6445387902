-- Numbers in hexadecimal, written from their last digit on.
use Rattle.std.proofs.Common.{◌≡◌, ℕ, zero, suc, ◌+◌, ◌-◌, ◌/◌, ◌%◌, ◌^◌, ◌<◌, false, List, [], ◌∷◌, ◌++◌, length, set, drop, refl, sym, ◌∙◌, ap, subst, arith, inl, inr, append_assoc, mod-eq_of_lt}
use Rattle.std.specs.Fmt.{digit_glyph}
use Rattle.std.proofs.lemmas.Bool.{cases_lt}
use Rattle.m4_model.specs.Headed.{hexadecimal}
use Rattle.m4_etext.proofs.Numerals.{sixteen, numeral_digit, numeral_step, widen}

-- A number's digits, and none of zero.
abbrev pub hex_or_none : ℕ → List ℕ
hex_or_none zero = []
hex_or_none (suc n) = hexadecimal (suc n)

some_digits : (n : ℕ) → 0 < n → hex_or_none n ≡ hexadecimal n
some_digits zero some = absurd (omega arith)
some_digits (suc n) some = refl

-- the last digit, and those before it
pub last_digit : (n : ℕ) → n < 2 ^ 32 → hexadecimal n ≡ hex_or_none (n / 16) ++ digit_glyph false (n % 16) ∷ []
last_digit n small = elim (cases_lt n 16) [
  | inl one ↦
      let none : n / 16 ≡ 0 = omega arith in
      numeral_digit 16 sixteen n one ∙ ap (λ d. digit_glyph false d ∷ []) (sym (mod-eq_of_lt one))
      ∙ ap (λ q. hex_or_none q ++ digit_glyph false (n % 16) ∷ []) (sym none)
  | inr more ↦
      numeral_step 16 sixteen n more (widen 16 n 8 64 (omega arith) (omega arith) (omega (arith, small)))
      ∙ ap (λ l. l ++ digit_glyph false (n % 16) ∷ []) (sym (some_digits (n / 16) (omega (arith, more))))
]

-- a digit is put before others
pub digit_put : (bytes : List ℕ) (start v : ℕ) → start < length bytes → drop start (set bytes start v) ≡ v ∷ drop (start + 1) bytes
digit_put [] start v inside = absurd (omega arith)
digit_put (b ∷ bytes) zero v inside = refl
digit_put (b ∷ bytes) (suc start) v inside =
    let e : suc (start + 1) ≡ suc start + 1 = omega arith in
    digit_put bytes start v (omega (arith, inside)) ∙ ap (λ k. v ∷ drop k (b ∷ bytes)) e

pub hex_more : (n rest start v : ℕ) (bytes : List ℕ) → 0 < rest → rest < 2 ^ 32 → start < length bytes → v ≡ digit_glyph false (rest % 16)
    → hexadecimal n ≡ hex_or_none rest ++ drop (start + 1) bytes → hexadecimal n ≡ hex_or_none (rest / 16) ++ drop start (set bytes start v)
hex_more n rest start v bytes some small inside is spelled =
    spelled ∙ ap (λ l. l ++ drop (start + 1) bytes) (some_digits rest some ∙ last_digit rest small)
    ∙ append_assoc (hex_or_none (rest / 16)) (digit_glyph false (rest % 16) ∷ []) (drop (start + 1) bytes)
    ∙ ap (λ d. hex_or_none (rest / 16) ++ d ∷ drop (start + 1) bytes) (sym is)
    ∙ ap (λ l. hex_or_none (rest / 16) ++ l) (sym (digit_put bytes start v inside))

-- a place is left for a digit
pub some_start : (start rest : ℕ) → 0 < rest → rest < 16 ^ start → 0 < start
some_start zero rest some small = absurd (omega arith)
some_start (suc start) rest some small = omega arith

pub fewer_start : (start rest : ℕ) → 0 < start → rest < 16 ^ start → rest / 16 < 16 ^ (start - 1)
fewer_start zero rest some small = absurd (omega arith)
fewer_start (suc start) rest some small = let e : suc start - 1 ≡ start = omega arith in subst (λ k. rest / 16 < 16 ^ k) (sym e) (omega (arith, small))
