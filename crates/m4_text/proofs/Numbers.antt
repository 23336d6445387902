-- Numbers of a header with the byte that ends them, and where bytes go wrong in one.
use Rattle.std.proofs.Common.{◌≡◌, ℕ, ◌+◌, ◌-◌, ◌*◌, ◌/◌, ◌%◌, ◌^◌, ◌<◌, ◌≤◌, List, [], ◌∷◌, ◌++◌, length, get_or, take, decimal, refl, sym, ◌∙◌, ap, subst, arith, ◌⊎◌, inl, inr, append_assoc, length-append, length-take, lit<}
use Rattle.std.specs.Char.{IsAsciiDigit}
use Rattle.std.specs.List.{AllByRecursion}
use Rattle.std.proofs.lemmas.List.{take_more, get_or_append_left}
use Rattle.std.proofs.lemmas.Fmt.{decimal_by_steps, decimal_digit, decimal_step, decimal_nonempty, length-decimal-le, first_decimal}
use Rattle.std.proofs.lemmas.Bool.{cases_lt}
use Rattle.std.proofs.lemmas.Nat.{pow-add}
use Rattle.std.proofs.Math.Nat.{one-le-pow, le-mul_of_pos_right}
use Rattle.m4_model.specs.Text.{Begins, IsHeaderNumber}
use Rattle.m4_text.specs.Place.{GoesWrong, IsNumber, Lengthens, IsLeadingNumber}
use Rattle.m4_text.proofs.Fronts.{IsPrefixFree, IsLongest-from_next}

abbrev pub AreDigits : List ℕ → Type 0
AreDigits = AllByRecursion IsAsciiDigit

AreDigits-push : (ds : List ℕ) (d : ℕ) → AreDigits ds → IsAsciiDigit d → AreDigits (ds ++ d ∷ [])
AreDigits-push [] d all digit = (digit, tt)
AreDigits-push (c ∷ ds) d all digit = (all.0, AreDigits-push ds d all.1 digit)

AreDigits-behind : (xs ys : List ℕ) → AreDigits (xs ++ ys) → AreDigits ys
AreDigits-behind [] ys all = all
AreDigits-behind (x ∷ xs) ys all = AreDigits-behind xs ys all.1

-- a number of a header is small
pub word_sized : (n : ℕ) → IsHeaderNumber n → n < 2 ^ 64
word_sized n small = omega arith

-- a decimal is made of digits
pub AreDigits-decimal : (n : ℕ) → n < 2 ^ 64 → AreDigits (decimal n)
AreDigits-decimal n small =
    decimal_by_steps (λ n ds. AreDigits ds) (λ n below. ((omega arith, omega arith), tt))
    (λ n ds above all. AreDigits-push ds (48 + n % 10) all (omega arith, omega arith)) n small

-- digits and a next byte beside digits and their ending: either the byte is the ending, or a digit more
pub digits_apart : (xs ds rest tail : List ℕ) (c ending : ℕ) → AreDigits xs → AreDigits ds → (IsAsciiDigit ending → ⊥)
    → xs ++ c ∷ rest ≡ ds ++ ending ∷ tail
    → ((xs ≡ ds) × (c ≡ ending) × (rest ≡ tail)) ⊎ (IsAsciiDigit c × (length xs < length ds))
digits_apart [] [] rest tail c ending first second other e = inl (refl, cc, cc)
digits_apart [] (d ∷ ds) rest tail c ending first second other e =
    let same : d ≡ c = cc in inr (subst IsAsciiDigit same second.0, omega arith)
digits_apart (x ∷ xs) [] rest tail c ending first second other e =
    let same : x ≡ ending = cc in absurd (other (subst IsAsciiDigit same first.0))
digits_apart (x ∷ xs) (d ∷ ds) rest tail c ending first second other e =
    let head : x ≡ d = cc in
    let behind : xs ++ c ∷ rest ≡ ds ++ ending ∷ tail = cc in
    elim (digits_apart xs ds rest tail c ending first.1 second.1 other behind) [
      | inl same ↦ inl (cc (same.0), same.1, same.2)
      | inr longer ↦ inr (longer.0, omega (arith, longer.1))
    ]

-- no number with its ending begins another
pub IsPrefixFree-number : (ending : ℕ) → (IsAsciiDigit ending → ⊥) → IsPrefixFree (IsNumber ending)
IsPrefixFree-number ending other a b short long =
    let spelled : decimal short.0 ++ ending ∷ b ≡ decimal long.0 ++ ending ∷ [] =
    sym (append_assoc (decimal short.0) (ending ∷ []) b) ∙ ap (λ w. w ++ b) (sym short.2) ∙ long.2 in
    elim (digits_apart (decimal short.0) (decimal long.0) b [] ending ending (AreDigits-decimal short.0 (word_sized short.0 short.1))
    (AreDigits-decimal long.0 (word_sized long.0 long.1)) other spelled) [
      | inl same ↦ same.2
      | inr longer ↦ absurd (other longer.0)
    ]

-- digits alone are no number with its ending
not_ended : (ds front : List ℕ) (ending : ℕ) → (IsAsciiDigit ending → ⊥) → AreDigits ds → ds ≡ front ++ ending ∷ [] → ⊥
not_ended ds front ending other all e = other (AreDigits-behind front (ending ∷ []) (subst AreDigits e all)).0

-- no other decimal begins with a zero
zero_alone : (n c : ℕ) (rest tail : List ℕ) → n < 2 ^ 64 → 48 ∷ c ∷ rest ≡ decimal n ++ tail → n ≡ 0
zero_alone n c rest tail small e =
    elim (cases_lt 0 n) [
      | inl above ↦
          let first = get_or_append_left (decimal n) tail 0 0 (decimal_nonempty n small) in
          absurd (omega (arith, first_decimal n above small, first, ap (λ w. get_or w 0 0) e))
      | inr none ↦ omega arith
    ]

module _ (bytes : List ℕ) (ending value len : ℕ) (other : IsAsciiDigit ending → ⊥) (found : IsLeadingNumber bytes value len)
    (open_ended : 0 < len → len < length bytes → get_or bytes len 0 ≡ ending → ⊥) where
  -- the digits, spelled
  empty : len ≡ 0 → take len bytes ≡ []
  empty none = ap (λ n. take n bytes) none

  begins : Begins (IsNumber ending) (take len bytes)
  begins =
      elim (cases_lt 0 len) [
        | inl some ↦ (ending ∷ [], (value, found.small, ap (λ w. w ++ ending ∷ []) (found.spelled some)))
        | inr none ↦ (decimal 0 ++ ending ∷ [], (0, lit< tt, ap (λ w. w ++ (decimal 0 ++ ending ∷ [])) (empty (omega arith))))
      ]

  unfinished : IsNumber ending (take len bytes) → ⊥
  unfinished number =
      elim (cases_lt 0 len) [
        | inl some ↦
            not_ended (decimal value) (decimal number.0) ending other (AreDigits-decimal value (word_sized value found.small))
            (sym (found.spelled some) ∙ number.2)
        | inr none ↦
            omega (arith, length-append (decimal number.0) (ending ∷ []), ap length (sym (empty (omega arith)) ∙ number.2))
      ]

  -- no next byte goes on where digits stand
  after_digits : 0 < len → len < length bytes → (c : ℕ) → get_or bytes len 0 ≡ c → (n : ℕ) (rest : List ℕ) → IsHeaderNumber n
      → decimal value ++ c ∷ rest ≡ decimal n ++ ending ∷ [] → ⊥
  after_digits some inside c at n rest small e =
      elim (digits_apart (decimal value) (decimal n) rest [] c ending (AreDigits-decimal value (word_sized value found.small))
      (AreDigits-decimal n (word_sized n small)) other e) [
        | inl same ↦ open_ended some inside (at ∙ same.1)
        | inr longer ↦
            let most : length (decimal n) ≤ 9 = length-decimal-le 9 n (lit< tt) small (word_sized n small) in
            let fewer : len < 9 = omega (arith, longer.1, length-take len bytes, ap length (found.spelled some)) in
            let digit : IsAsciiDigit (get_or bytes len 0) = subst IsAsciiDigit (sym at) longer.0 in
            elim (cases_lt 0 value) [
              | inl above ↦ found.stops inside (record { digit = digit; room = fewer; nonzero = inr above })
              | inr none ↦
                  let zero_value : value ≡ 0 = omega arith in
                  let zero_number : n ≡ 0 =
                  zero_alone n c rest (ending ∷ []) (word_sized n small)
                  (ap (λ w. w ++ c ∷ rest) (sym (decimal_digit 0 (lit< tt))) ∙ sym (ap (λ v. decimal v ++ c ∷ rest) zero_value) ∙ e) in
                  omega (arith, longer.1, ap (λ v. length (decimal v)) (zero_value ∙ sym zero_number))
            ]
      ]

  stuck : len < length bytes → Begins (IsNumber ending) (take (len + 1) bytes) → ⊥
  stuck inside goes =
      let (rest, (n, small, e)) = goes in
      let c = get_or bytes len 0 in
      let parted : take len bytes ++ c ∷ rest ≡ decimal n ++ ending ∷ [] =
      sym (ap (λ w. w ++ rest) (take_more bytes len 0 inside) ∙ append_assoc (take len bytes) (c ∷ []) rest) ∙ e in
      elim (cases_lt 0 len) [
        | inl some ↦
            after_digits some inside c refl n rest small (sym (ap (λ w. w ++ c ∷ rest) (found.spelled some)) ∙ parted)
        | inr none ↦
            let at_start : c ∷ rest ≡ decimal n ++ ending ∷ [] = sym (ap (λ w. w ++ c ∷ rest) (empty (omega arith))) ∙ parted in
            elim (digits_apart [] (decimal n) rest [] c ending tt (AreDigits-decimal n (word_sized n small)) other at_start) [
              | inl same ↦ omega (arith, decimal_nonempty n (word_sized n small), ap length same.0)
              | inr longer ↦
                  found.stops inside (record { digit = longer.0; room = omega arith; nonzero = inl (omega arith) })
            ]
      ]

  -- a number with no ending goes wrong behind its last digit
  pub GoesWrong-number : GoesWrong (IsNumber ending) bytes len
  GoesWrong-number = record {
    longest = IsLongest-from_next (IsNumber ending) bytes len found.within begins stuck;
    unfinished = unfinished;
  }

-- it has one digit more
pub small_more : (value len digit : ℕ) → value < 10 ^ len → digit < 10 → 10 * value + digit < 10 ^ (len + 1)
small_more value len digit small below = rw (pow-add 10 len 1) (omega arith)

-- digits no more than so many are worth less than that power of ten
pub few_digits : (value len most : ℕ) → len ≤ most → value < 10 ^ len → value < 10 ^ most
few_digits value len most few small =
    let e : most ≡ len + (most - len) = omega arith in
    let whole : 10 ^ most ≡ 10 ^ len * 10 ^ (most - len) = ap (λ k. 10 ^ k) e ∙ pow-add 10 len (most - len) in
    let some : 1 ≤ 10 ^ (most - len) = one-le-pow (most - len) 10 (lit< tt) in
    let grows : 10 ^ len ≤ 10 ^ len * 10 ^ (most - len) = grind (arith, le-mul_of_pos_right) in
    omega arith

-- a number with one digit more
pub spelled_more : (bytes : List ℕ) (value len : ℕ) → len < length bytes → Lengthens value len (get_or bytes len 0)
    → value < 10 ^ len → len ≤ 9 → (0 < len → take len bytes ≡ decimal value)
    → take (len + 1) bytes ≡ decimal (10 * value + (get_or bytes len 0 - 48))
spelled_more bytes value len inside more small few spelled =
    let byte = get_or bytes len 0 in
    let digit : byte - 48 < 10 = omega (arith, more.digit.1) in
    let back : 48 + (byte - 48) ≡ byte = omega (arith, more.digit.0) in
    let one : take (len + 1) bytes ≡ take len bytes ++ byte ∷ [] = take_more bytes len 0 inside in
    elim (cases_lt 0 len) [
      | inl some ↦
          let next = 10 * value + (byte - 48) in
          let above : 0 < value = elim more.nonzero [ inl none ↦ omega arith | inr above ↦ above ] in
          let sized : value < 10 ^ 9 = few_digits value len 9 few small in
          let step = decimal_step next (omega arith) (omega arith) in
          let front : next / 10 ≡ value = omega arith in
          let last : 48 + next % 10 ≡ byte = omega arith in
          one ∙ ap (λ w. w ++ byte ∷ []) (spelled some)
          ∙ sym (step ∙ ap (λ v. decimal v ++ (48 + next % 10) ∷ []) front ∙ ap (λ d. decimal value ++ d ∷ []) last)
      | inr none ↦
          let zero_len : len ≡ 0 = omega arith in
          let zero_value : value ≡ 0 = omega (arith, small, ap (λ k. 10 ^ k) zero_len) in
          let alone : 10 * value + (byte - 48) ≡ byte - 48 = omega arith in
          one ∙ ap (λ n. take n bytes ++ byte ∷ []) zero_len
          ∙ sym (ap decimal alone ∙ decimal_digit (byte - 48) digit ∙ ap (λ d. d ∷ []) back)
    ]
