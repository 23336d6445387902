-- The line of one row, and where bytes go wrong in it.
use Rattle.std.proofs.Common.{◌≡◌, ℕ, suc, ◌+◌, ◌-◌, ◌<◌, ◌≤◌, List, [], ◌∷◌, ◌++◌, length, get_or, map, take, replicate, refl, sym, ◌∙◌, ap, subst, arith, append_assoc, length-append, length-take, get_or-take, inl, inr}
use Rattle.std.proofs.lemmas.List.{length-map, map-append, length-replicate, get_or-replicate, get_or_append_left, get_or-append_right, get_or-map, length-take-le, take_more}
use Rattle.std.proofs.lemmas.Bool.{cases_lt}
use Rattle.m4_model.specs.Text.{Begins, line}
use Rattle.m4_text.specs.Place.{GoesWrong, AreBits, IsLine, IsBinaryDigit}
use Rattle.m4_text.specs.Reading.{entries_of}
use Rattle.m4_text.proofs.Fronts.{IsPrefixFree, IsPrefixFree-same_length, IsLongest-from_next}

-- a line is one longer than its row
pub length-line : (n : ℕ) (w : List ℕ) → IsLine n w → length w ≡ n + 1
length-line n w (entries, bits, e) =
    omega (arith, ap length e, length-append (map (λ x. 48 + x) entries) (10 ∷ []), length-map entries (λ x. 48 + x), bits.width)

pub IsPrefixFree-line : (n : ℕ) → IsPrefixFree (IsLine n)
IsPrefixFree-line n = IsPrefixFree-same_length (IsLine n) (λ a b first second. length-line n a first ∙ sym (length-line n b second))

-- digits spell their entries
pub spelled_back : (digits : List ℕ) → ((j : ℕ) → j < length digits → IsBinaryDigit (get_or digits j 0))
    → map (λ x. 48 + x) (entries_of digits) ≡ digits
spelled_back [] are = refl
spelled_back (d ∷ digits) are =
    let first : 48 + (d - 48) ≡ d = omega (arith, (are 0 (omega arith)).0) in
    cc (first, spelled_back digits (λ j below. are (suc j) (omega arith)))

-- the byte of a line at a column's place, and behind the last
pub digit_in_line : (n : ℕ) (w : List ℕ) (j : ℕ) → IsLine n w → j < n → IsBinaryDigit (get_or w j 0)
digit_in_line n w j (entries, bits, e) below =
    let inside : j < length (map (λ x. 48 + x) entries) = omega (arith, length-map entries (λ x. 48 + x), bits.width) in
    let here : j < length entries = omega (arith, bits.width) in
    let read : get_or w j 0 ≡ 48 + get_or entries j 0 =
    ap (λ l. get_or l j 0) e ∙ get_or_append_left (map (λ x. 48 + x) entries) (10 ∷ []) 0 j inside
    ∙ get_or-map (λ x. 48 + x) entries j 0 0 here in
    (omega (arith, read), omega (arith, read, bits.elements j below))

pub end_of_line : (n : ℕ) (w : List ℕ) → IsLine n w → get_or w n 0 ≡ 10
end_of_line n w (entries, bits, e) =
    let width : length (map (λ x. 48 + x) entries) ≡ n = length-map entries (λ x. 48 + x) ∙ bits.width in
    let none : n - n ≡ 0 = omega arith in
    ap (λ l. get_or l n 0) e ∙ get_or-append_right (map (λ x. 48 + x) entries) (10 ∷ []) n n 0 width (omega arith)
    ∙ ap (λ k. get_or (10 ∷ []) k 0) none

-- digits and then zeros are a row
filled_row : (n : ℕ) (digits : List ℕ) → length digits ≤ n → ((j : ℕ) → j < length digits → IsBinaryDigit (get_or digits j 0))
    → AreBits n (entries_of digits ++ replicate (n - length digits) 0)
filled_row n digits few are =
    let k = length digits in
    let width : length (entries_of digits) ≡ k = length-map digits (λ byte. byte - 48) in
    record {
      width = omega (arith, length-append (entries_of digits) (replicate (n - k) 0), width, length-replicate {A = ℕ} (n - k) 0);
      elements = λ j below.
          elim (cases_lt j k) [
            | inl front ↦
                let read = get_or_append_left (entries_of digits) (replicate (n - k) 0) 0 j (omega (arith, width)) in
                let entry = get_or-map (λ byte. byte - 48) digits j 0 0 front in
                omega (arith, read, entry, (are j front).1)
            | inr behind ↦
                let read = get_or-append_right (entries_of digits) (replicate (n - k) 0) k j 0 width behind in
                let entry = get_or-replicate {A = ℕ} (n - k) (j - k) 0 0 (omega arith) in
                omega (arith, read, entry)
          ];
    }

-- the first digits of a row begin its line
pub begins_line : (n : ℕ) (digits : List ℕ) → length digits ≤ n → ((j : ℕ) → j < length digits → IsBinaryDigit (get_or digits j 0))
    → Begins (IsLine n) digits
begins_line n digits few are =
    let zeros = replicate (n - length digits) 0 in (
      map (λ x. 48 + x) zeros ++ 10 ∷ [],
      (
        entries_of digits ++ zeros,
        filled_row n digits few are,
        sym (append_assoc digits (map (λ x. 48 + x) zeros) (10 ∷ []))
            ∙ ap (λ l. (l ++ map (λ x. 48 + x) zeros) ++ 10 ∷ []) (sym (spelled_back digits are))
            ∙ ap (λ l. l ++ 10 ∷ []) (sym (map-append (λ x. 48 + x) (entries_of digits) zeros)),
      ),
    )

-- bytes go wrong behind the first k digits of a row where no digit follows that is wanted, nor a line feed that is
pub wrong_line : (n : ℕ) (bytes : List ℕ) (k : ℕ) → k ≤ n → k ≤ length bytes
    → ((j : ℕ) → j < k → IsBinaryDigit (get_or bytes j 0))
    → (k < length bytes → k < n → IsBinaryDigit (get_or bytes k 0) → ⊥)
    → (k < length bytes → k ≡ n → get_or bytes k 0 ≡ 10 → ⊥) → GoesWrong (IsLine n) bytes k
wrong_line n bytes k few within are no_digit no_end =
    let width : length (take k bytes) ≡ k = length-take-le k bytes within in
    record {
      longest = IsLongest-from_next (IsLine n) bytes k within
          (begins_line n (take k bytes) (omega arith)
          (λ j below. let front : j < k = omega arith in rw (get_or-take k bytes j 0 front) (are j front)))
          (λ inside goes.
          let read : get_or (take (k + 1) bytes ++ goes.0) k 0 ≡ get_or bytes k 0 =
          get_or_append_left (take (k + 1) bytes) goes.0 0 k (omega (arith, length-take (k + 1) bytes))
          ∙ get_or-take (k + 1) bytes k 0 (omega arith) in
          elim (cases_lt k n) [
            | inl short ↦ no_digit inside short (subst IsBinaryDigit read (digit_in_line n _ k goes.1 short))
            | inr full ↦
                let end : k ≡ n = omega arith in
                let last : get_or (take (k + 1) bytes ++ goes.0) k 0 ≡ 10 =
                ap (λ p. get_or (take (k + 1) bytes ++ goes.0) p 0) end ∙ end_of_line n _ goes.1 in
                no_end inside end (sym read ∙ last)
          ]);
      unfinished = λ whole. omega (arith, length-line n _ whole, width);
    }

-- the first n bytes of a row and its line feed are its line
pub line_read : (n : ℕ) (bytes : List ℕ) → n < length bytes → ((j : ℕ) → j < n → IsBinaryDigit (get_or bytes j 0))
    → get_or bytes n 0 ≡ 10 → AreBits n (entries_of (take n bytes)) × (take (n + 1) bytes ≡ line (entries_of (take n bytes)))
line_read n bytes inside are end =
    let digits = take n bytes in
    let width : length digits ≡ n = length-take-le n bytes (omega arith) in
    let digits_are : (j : ℕ) → j < length digits → IsBinaryDigit (get_or digits j 0) = λ j below.
    let front : j < n = omega arith in
    rw (get_or-take n bytes j 0 front) (are j front) in (
      record {
        width = length-map digits (λ byte. byte - 48) ∙ width;
        elements = λ j below.
            let here : j < length digits = omega arith in
            let entry = get_or-map (λ byte. byte - 48) digits j 0 0 here in
            omega (arith, entry, (digits_are j here).1);
      },
      take_more bytes n 0 inside ∙ ap (λ byte. digits ++ byte ∷ []) end ∙ ap (λ l. l ++ 10 ∷ []) (sym (spelled_back digits digits_are)),
    )
