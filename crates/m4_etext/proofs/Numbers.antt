-- Numbers of a header with the byte that ends them, and where bytes go wrong in one.
use Rattle.std.proofs.Common.{◌≡◌, ℕ, ◌+◌, ◌*◌, ◌^◌, ◌<◌, ◌≤◌, false, List, [], ◌∷◌, ◌++◌, length, get_or, take, refl, sym, ◌∙◌, ap, subst, arith, ◌⊎◌, inl, inr, append_assoc, length-append, length-take, lit<}
use Rattle.std.specs.Fmt.{digits, digit_glyph}
use Rattle.std.proofs.lemmas.List.{take_more, get_or_append_left}
use Rattle.std.proofs.lemmas.Bool.{cases_lt}
use Rattle.m4_model.specs.Text.{Begins}
use Rattle.m4_etext.specs.Place.{GoesWrong, IsNumber, IsNext, IsDigitIn, IsLeadingNumber}
use Rattle.m4_etext.proofs.Fronts.{IsPrefixFree, IsLongest-from_next}
use Rattle.m4_etext.proofs.Numerals.{IsBase, AreDigits, AreDigits-numeral, numeral_some, first_numeral, numeral_digit, numeral_more, length-numeral, glyph_low, widen}

AreDigits-behind : (b : ℕ) (xs ys : List ℕ) → AreDigits b (xs ++ ys) → AreDigits b ys
AreDigits-behind b [] ys all = all
AreDigits-behind b (x ∷ xs) ys all = AreDigits-behind b xs ys all.1

-- digits and a next byte beside digits and their ending: either the byte is the ending, or a digit more
pub digits_apart : (b : ℕ) (xs ds rest tail : List ℕ) (c ending : ℕ) → AreDigits b xs → AreDigits b ds → (IsDigitIn b ending → ⊥)
    → xs ++ c ∷ rest ≡ ds ++ ending ∷ tail
    → ((xs ≡ ds) × (c ≡ ending) × (rest ≡ tail)) ⊎ (IsDigitIn b c × (length xs < length ds))
digits_apart b [] [] rest tail c ending first second other e = inl (refl, cc, cc)
digits_apart b [] (d ∷ ds) rest tail c ending first second other e =
    let same : d ≡ c = cc in inr (subst (IsDigitIn b) same second.0, omega arith)
digits_apart b (x ∷ xs) [] rest tail c ending first second other e =
    let same : x ≡ ending = cc in absurd (other (subst (IsDigitIn b) same first.0))
digits_apart b (x ∷ xs) (d ∷ ds) rest tail c ending first second other e =
    let head : x ≡ d = cc in
    let behind : xs ++ c ∷ rest ≡ ds ++ ending ∷ tail = cc in
    elim (digits_apart b xs ds rest tail c ending first.1 second.1 other behind) [
      | inl same ↦ inl (cc (same.0), same.1, same.2)
      | inr longer ↦ inr (longer.0, omega (arith, longer.1))
    ]

-- digits alone are no number with its ending
not_ended : (b : ℕ) (ds front : List ℕ) (ending : ℕ) → (IsDigitIn b ending → ⊥) → AreDigits b ds → ds ≡ front ++ ending ∷ [] → ⊥
not_ended b ds front ending other all e = other (AreDigits-behind b front (ending ∷ []) (subst (AreDigits b) e all)).0

module _ (b most : ℕ) (is : IsBase b) (some_digits : 0 < most) (few : most ≤ 63) where
  all : (n : ℕ) → n < b ^ most → AreDigits b (digits b false n)
  all n small = AreDigits-numeral b is most (omega arith) n small

  zero_small : 0 < b ^ most
  zero_small = let l = is.low in let z = is.none in widen b 0 0 most (omega (arith, l)) (omega arith) (omega (arith, z))

  zero_is : digits b false 0 ≡ 48 ∷ []
  zero_is = numeral_digit b is 0 (let l = is.low in omega (arith, l)) ∙ ap (λ d. d ∷ []) (glyph_low 0 (lit< tt))

  -- no number with its ending begins another
  pub IsPrefixFree-number : (ending : ℕ) → (IsDigitIn b ending → ⊥) → IsPrefixFree (IsNumber b most ending)
  IsPrefixFree-number ending other a t short long =
      let spelled : digits b false short.0 ++ ending ∷ t ≡ digits b false long.0 ++ ending ∷ [] =
      sym (append_assoc (digits b false short.0) (ending ∷ []) t) ∙ ap (λ w. w ++ t) (sym short.2) ∙ long.2 in
      elim (digits_apart b (digits b false short.0) (digits b false long.0) t [] ending ending (all short.0 short.1) (all long.0 long.1) other spelled) [
        | inl same ↦ same.2
        | inr longer ↦ absurd (other longer.0)
      ]

  -- a number with its ending
  pub some_number : (ending : ℕ) → IsNumber b most ending (digits b false 0 ++ ending ∷ [])
  some_number ending = (0, zero_small, refl)

  -- no other number begins with a zero
  zero_alone : (n c : ℕ) (rest tail : List ℕ) → n < b ^ most → 48 ∷ c ∷ rest ≡ digits b false n ++ tail → n ≡ 0
  zero_alone n c rest tail small e =
      elim (cases_lt 0 n) [
        | inl above ↦
            let first = get_or_append_left (digits b false n) tail 0 0 (numeral_some b is most (omega arith) n small) in
            absurd (omega (arith, first_numeral b is most (omega arith) n small above, first, ap (λ w. get_or w 0 0) e))
        | inr none ↦ omega arith
      ]

  module _ (bytes : List ℕ) (ending value len : ℕ) (other : IsDigitIn b ending → ⊥) (found : IsLeadingNumber b most bytes value len)
      (open_ended : 0 < len → len < length bytes → get_or bytes len 0 ≡ ending → ⊥) where
    -- the digits, spelled
    empty : len ≡ 0 → take len bytes ≡ []
    empty none = ap (λ n. take n bytes) none

    begins : Begins (IsNumber b most ending) (take len bytes)
    begins =
        elim (cases_lt 0 len) [
          | inl some ↦ (ending ∷ [], (value, found.small, ap (λ w. w ++ ending ∷ []) (found.spelled some)))
          | inr none ↦ (digits b false 0 ++ ending ∷ [], (0, zero_small, ap (λ w. w ++ (digits b false 0 ++ ending ∷ [])) (empty (omega arith))))
        ]

    unfinished : IsNumber b most ending (take len bytes) → ⊥
    unfinished number =
        elim (cases_lt 0 len) [
          | inl some ↦
              not_ended b (digits b false value) (digits b false number.0) ending other (all value found.small) (sym (found.spelled some) ∙ number.2)
          | inr none ↦
              omega (arith, length-append (digits b false number.0) (ending ∷ []), ap length (sym (empty (omega arith)) ∙ number.2))
        ]

    -- no next byte goes on where digits stand
    after_digits : 0 < len → len < length bytes → (c : ℕ) → get_or bytes len 0 ≡ c → (n : ℕ) (rest : List ℕ) → n < b ^ most
        → digits b false value ++ c ∷ rest ≡ digits b false n ++ ending ∷ [] → ⊥
    after_digits some inside c at n rest small e =
        elim (digits_apart b (digits b false value) (digits b false n) rest [] c ending (all value found.small) (all n small) other e) [
          | inl same ↦ open_ended some inside (at ∙ same.1)
          | inr longer ↦
              let widest : length (digits b false n) ≤ most = length-numeral b is most n some_digits (omega arith) small in
              let fewer : len < most = omega (arith, longer.1, widest, length-take len bytes, ap length (found.spelled some)) in
              let digit : IsDigitIn b (get_or bytes len 0) = subst (IsDigitIn b) (sym at) longer.0 in
              elim (cases_lt 0 value) [
                | inl above ↦ found.stops inside (digit.0, record { digit = digit.1; small = digit.2; room = fewer; nonzero = inr above })
                | inr none ↦
                    let zero_value : value ≡ 0 = omega arith in
                    let zero_number : n ≡ 0 =
                    zero_alone n c rest (ending ∷ []) small
                    (ap (λ w. w ++ c ∷ rest) (sym zero_is) ∙ sym (ap (λ v. digits b false v ++ c ∷ rest) zero_value) ∙ e) in
                    omega (arith, longer.1, ap (λ v. length (digits b false v)) (zero_value ∙ sym zero_number))
              ]
        ]

    stuck : len < length bytes → Begins (IsNumber b most ending) (take (len + 1) bytes) → ⊥
    stuck inside goes =
        let (rest, (n, small, e)) = goes in
        let c = get_or bytes len 0 in
        let parted : take len bytes ++ c ∷ rest ≡ digits b false n ++ ending ∷ [] =
        sym (ap (λ w. w ++ rest) (take_more bytes len 0 inside) ∙ append_assoc (take len bytes) (c ∷ []) rest) ∙ e in
        elim (cases_lt 0 len) [
          | inl some ↦ after_digits some inside c refl n rest small (sym (ap (λ w. w ++ c ∷ rest) (found.spelled some)) ∙ parted)
          | inr none ↦
              let at_start : c ∷ rest ≡ digits b false n ++ ending ∷ [] = sym (ap (λ w. w ++ c ∷ rest) (empty (omega arith))) ∙ parted in
              elim (digits_apart b [] (digits b false n) rest [] c ending tt (all n small) other at_start) [
                | inl same ↦ omega (arith, numeral_some b is most (omega arith) n small, ap length same.0)
                | inr longer ↦ found.stops inside (longer.0.0, record { digit = longer.0.1; small = longer.0.2; room = omega arith; nonzero = inl (omega arith) })
              ]
        ]

    -- a number with no ending goes wrong behind its last digit
    pub GoesWrong-number : GoesWrong (IsNumber b most ending) bytes len
    GoesWrong-number = record {
      longest = IsLongest-from_next (IsNumber b most ending) bytes len found.within begins stuck;
      unfinished = unfinished;
    }

  -- a number with one digit more
  pub spelled_more : (bytes : List ℕ) (value len d : ℕ) → len < length bytes → IsNext b most value len (get_or bytes len 0) d → value < b ^ len → (0 < len → take len bytes ≡ digits b false value)
      → take (len + 1) bytes ≡ digits b false (b * value + d)
  spelled_more bytes value len d inside next below spelled =
      let small = next.small in
      let room = next.room in
      let byte = get_or bytes len 0 in
      let one : take (len + 1) bytes ≡ take len bytes ++ digit_glyph false d ∷ [] = take_more bytes len 0 inside ∙ ap (λ c. take len bytes ++ c ∷ []) next.digit.glyph in
      elim (cases_lt 0 len) [
        | inl some ↦
            let above : 0 < value = elim next.nonzero [ inl none ↦ omega arith | inr above ↦ above ] in
            let l = is.low in
            let wide : b * value + d < b ^ 64 = widen b (b * value + d) (len + 1) 64 (omega (arith, l)) (omega arith) (is.grown value d len below small) in
            one ∙ ap (λ w. w ++ digit_glyph false d ∷ []) (spelled some) ∙ sym (numeral_more b is value d above small wide)
        | inr none ↦
            let zero_len : len ≡ 0 = omega arith in
            let zero_value : value ≡ 0 = let z = is.none in omega (arith, below, ap (λ k. b ^ k) zero_len, z) in
            let alone : b * value + d ≡ d = ap (λ v. b * v + d) zero_value ∙ omega arith in
            one ∙ ap (λ n. take n bytes ++ digit_glyph false d ∷ []) zero_len ∙ sym (ap (digits b false) alone ∙ numeral_digit b is d small)
      ]
