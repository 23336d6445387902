-- Bytes are read as a matrix or refused: one of the two can always be found.
use Rattle.std.proofs.Common.{◌≡◌, ℕ, zero, suc, ◌+◌, ◌-◌, ◌*◌, ◌/◌, ◌%◌, ◌^◌, ◌<◌, ◌≤◌, min, List, [], ◌∷◌, ◌++◌, length, get_or, take, drop, refl, sym, ◌∙◌, ap, ap₂, subst, subst₂, arith, ◌⊎◌, inl, inr, append_assoc, append-nil, length-append, take-append-drop, length-drop, below_more, codes, decimal, lit<}
use Rattle.std.proofs.Math.Nat.{mul-le-mul_right}
use Rattle.std.proofs.lemmas.Bool.{cases_lt, cases_eq}
use Rattle.std.specs.Char.{IsAsciiDigit}
use Rattle.std.proofs.lemmas.List.{take_at, nil_from_length, take_more, take_more_same, drop-drop}
use Rattle.m4_model.specs.Field.{gf2}
use Rattle.m4_model.specs.Matrix.{Matrix, zero_matrix}
use Rattle.m4_model.specs.Text.{Begins, Reads, Refusal, Fault, BadAt, PastLimit, IsWithinLimits, IsHeader, IsTextOf, header, words_per_row}
use Rattle.m4_model.specs.Bare.{ReadsBare, RefusalBare}
use Rattle.m4_text.specs.Place.{GoesWrong, GoesWrongFrom, IsOpening, IsOpeningOf, IsNumber, Lengthens, IsLeadingNumber, IsNumberAt, IsHeaderOf, IsLine, IsBareOf, HasLine, IsBinaryDigit}
use Rattle.m4_text.specs.Refused.{IsRefusal}
use Rattle.m4_text.specs.Reading.{AreRowsToRead, entries_of}
use Rattle.m4_text.proofs.Fronts.{GoesWrong-first, GoesWrong-second, GoesWrong-same}
use Rattle.m4_text.proofs.Numbers.{few_digits, small_more, spelled_more, GoesWrong-number}
use Rattle.m4_text.proofs.Headers.{GoesWrong-opening, space_apart, line_feed_apart, wrong_opening, wrong_rows, wrong_cols, header_read}
use Rattle.m4_text.proofs.Refusals.{refused_header, refused_limit, refused_body}
use Rattle.m4_text.proofs.Lines.{IsPrefixFree-line, wrong_line, line_read}
use Rattle.m4_text.proofs.Bodies.{IsBody, length-body, some_body, bare_of_body, body_of_bare, text_of_body, wrong_text, none_wrong, longer_text}
use Rattle.m4_text.proofs.Bares.{no_lines, bad_first_line, large_first_line, bad_line, large_rows, bad_rows, rows_to_read, begins_digit, begins_end, begins_with}

-- a byte is a digit or not
digit_or_not : (byte : ℕ) → IsBinaryDigit byte ⊎ (IsBinaryDigit byte → ⊥)
digit_or_not byte =
    elim (cases_lt byte 48) [
      | inl below ↦ inr (λ digit. omega (arith, digit.0))
      | inr above ↦
          elim (cases_lt 49 byte) [
            | inl past ↦ inr (λ digit. omega (arith, digit.1))
            | inr within ↦ inl (above, within)
          ]
    ]

-- The first k bytes are digits, at most n; where they are fewer than n, no digit follows.
record IsRun (n : ℕ) (bytes : List ℕ) (k : ℕ) : Type 0 where
  few : k ≤ n
  within : k ≤ length bytes
  digits : (j : ℕ) → j < k → IsBinaryDigit (get_or bytes j 0)
  ended : k < n → k < length bytes → IsBinaryDigit (get_or bytes k 0) → ⊥

run : (n : ℕ) (bytes : List ℕ) → (k : ℕ) × IsRun n bytes k
run zero bytes = (
  0,
  record {
    few = omega arith;
    within = omega arith;
    digits = λ j below. absurd (omega arith);
    ended = λ less. absurd (omega arith);
  },
)
run (suc n) bytes =
    let (k, far) = run n bytes in
    elim (cases_lt k n) [
      | inl less ↦ (
        k,
        record {
          few = omega (arith, far.few);
          within = far.within;
          digits = far.digits;
          ended = λ _ inside digit. far.ended less inside digit;
        },
      )
      | inr full ↦
          elim (cases_lt k (length bytes)) [
            | inr last ↦ (
              k,
              record {
                few = omega (arith, far.few);
                within = far.within;
                digits = far.digits;
                ended = λ _ inside digit. omega arith;
              },
            )
            | inl inside ↦
                elim (digit_or_not (get_or bytes k 0)) [
                  | inl digit ↦ (
                    k + 1,
                    record {
                      few = omega (arith, far.few);
                      within = omega arith;
                      digits = below_more _ _ far.digits digit;
                      ended = λ more. absurd (omega (arith, full, more));
                    },
                  )
                  | inr none ↦ (
                    k,
                    record {
                      few = omega (arith, far.few);
                      within = far.within;
                      digits = far.digits;
                      ended = λ _ there digit. none digit;
                    },
                  )
                ]
          ]
    ]

-- The bytes begin with a text with P, or go wrong in one.
abbrev BeginsOrNot : (List ℕ → Type 0) → List ℕ → Type 0
BeginsOrNot P bytes = ((w rest : List ℕ) × P w × (bytes ≡ w ++ rest)) ⊎ ((k : ℕ) × GoesWrong P bytes k)

line_or_not : (n : ℕ) (bytes : List ℕ) → BeginsOrNot (IsLine n) bytes
line_or_not n bytes =
    let (k, far) = run n bytes in
    elim (cases_lt k n) [
      | inl less ↦
          inr (k, wrong_line n bytes k far.few far.within far.digits (λ inside short digit. far.ended less inside digit) (λ inside full. absurd (omega arith)))
      | inr full ↦
          let all : k ≡ n = omega (arith, far.few) in
          let stuck = λ (none : k < length bytes → get_or bytes k 0 ≡ 10 → ⊥).
          wrong_line n bytes k far.few far.within far.digits (λ inside short. absurd (omega arith)) (λ inside _ end. none inside end) in
          elim (cases_lt k (length bytes)) [
            | inr last ↦ inr (k, stuck (λ inside. absurd (omega arith)))
            | inl inside ↦
                elim (cases_eq (get_or bytes k 0) 10) [
                  | inl end ↦
                      let read = line_read n bytes (omega arith) (λ j below. far.digits j (omega arith)) (ap (λ j. get_or bytes j 0) (sym all) ∙ end) in
                      inl (take (n + 1) bytes, drop (n + 1) bytes, (entries_of (take n bytes), read.0, read.1), sym (take-append-drop (n + 1) bytes))
                  | inr other ↦ inr (k, stuck (λ _ end. other end))
                ]
          ]
    ]

body_or_not : (m n : ℕ) (bytes : List ℕ) → BeginsOrNot (IsBody m n) bytes
unfolding IsBody
body_or_not zero n bytes = inl ([], bytes, refl, refl)
body_or_not (suc m) n bytes =
    elim (line_or_not n bytes) [
      | inr (k, found) ↦
          let rest = some_body m n in
          inr (k, GoesWrong-first (IsLine n) (IsBody m n) (IsPrefixFree-line n) rest.0 rest.1 bytes k found)
      | inl (w, after, line, split) ↦
          elim (body_or_not m n after) [
            | inl (v, rest, body, more) ↦
                inl (w ++ v, rest, (w, v, line, body, refl), split ∙ ap (λ x. w ++ x) more ∙ sym (append_assoc w v rest))
            | inr (k, found) ↦
                let wrong = GoesWrong-second (IsLine n) (IsBody m n) (IsPrefixFree-line n) w line after k found in
                inr (length w + k, subst (λ x. GoesWrong (IsBody (suc m) n) x (length w + k)) (sym split) wrong)
          ]
    ]

-- a quotient and its next, times the divisor
quotient_bounds : (total w q r : ℕ) → 0 < w → w ≤ total → w * q + r ≡ total → r < w → (0 < q) × (q * w ≤ total) × (total < (q + 1) * w)
quotient_bounds total w zero r some fits whole rest = absurd (omega arith)
quotient_bounds total w (suc q) r some fits whole rest = (omega arith, omega arith, omega arith)

-- the most rows of n columns within the limits
most_rows : (n : ℕ) → n ≤ 65536 → (m : ℕ) × (0 < m) × IsWithinLimits 1 m n × (IsWithinLimits 1 (m + 1) n → ⊥)
most_rows n few =
    let words = words_per_row (n * 1) in
    elim (cases_lt 0 words) [
      | inr none ↦ (
        65536,
        omega arith,
        record { rows = omega arith; cols = few; words = omega arith },
        λ more. omega (arith, more.rows),
      )
      | inl some ↦
          let most = 2 ^ 22 / words in
          let found = quotient_bounds (2 ^ 22) words most (2 ^ 22 % words) some (omega arith) (omega arith) (omega arith) in
          elim (cases_lt 65536 most) [
            | inl larger ↦
                let fits : 65536 * words ≤ most * words = mul-le-mul_right words (omega arith) in (
                  65536,
                  omega arith,
                  record { rows = omega arith; cols = few; words = omega (arith, fits, found.1) },
                  λ more. omega (arith, more.rows),
                )
            | inr smaller ↦ (
              most,
              found.0,
              record { rows = smaller; cols = few; words = found.1 },
              λ more. omega (arith, more.words, found.2),
            )
          ]
    ]

-- a first line, or a refusal
first_or_not : (bytes : List ℕ) → 0 < length bytes → ((n : ℕ) × (n ≤ 65536) × HasLine bytes n) ⊎ ((fault : Fault) × RefusalBare bytes fault)
first_or_not bytes some =
    let (k, far) = run 65536 bytes in
    elim (cases_lt k (length bytes)) [
      | inr last ↦
          inr (BadAt k, bad_first_line bytes k some far.within far.few far.digits (λ inside. absurd (omega arith)) (λ inside. absurd (omega arith)))
      | inl inside ↦
          elim (cases_eq (get_or bytes k 0) 10) [
            | inl end ↦ inl (k, far.few, record { inside = inside; digits = far.digits; ended = end })
            | inr other ↦
                elim (digit_or_not (get_or bytes k 0)) [
                  | inr none ↦ inr (BadAt k, bad_first_line bytes k some far.within far.few far.digits (λ _. none) (λ _. other))
                  | inl digit ↦
                      elim (cases_lt k 65536) [
                        | inl less ↦ absurd (far.ended less inside digit)
                        | inr full ↦
                            inr (PastLimit, (k, large_first_line bytes k (omega (arith, far.few)) inside (below_more _ _ far.digits digit)))
                      ]
                ]
          ]
    ]

-- a byte begins a row, or doesn't
row_or_not : (n byte : ℕ) → Begins (IsLine n) (byte ∷ []) ⊎ (Begins (IsLine n) (byte ∷ []) → ⊥)
row_or_not n byte =
    elim (cases_lt 0 n) [
      | inl some ↦
          elim (digit_or_not byte) [
            | inl digit ↦ inl (begins_digit n byte some digit)
            | inr none ↦ inr (λ begins. none ((begins_with n byte begins).0 some))
          ]
      | inr zero_cols ↦
          elim (cases_eq byte 10) [
            | inl end ↦ inl (begins_end n byte (omega arith) end)
            | inr other ↦ inr (λ begins. other ((begins_with n byte begins).1 (omega arith)))
          ]
    ]

-- lines that are read, with what stands behind them
behind_lines : (bytes : List ℕ) (m n : ℕ) → HasLine bytes n → AreRowsToRead (length bytes) n m → (w rest : List ℕ) → IsBody m n w
    → bytes ≡ w ++ rest → ((M : Matrix) × ReadsBare bytes M) ⊎ ((fault : Fault) × RefusalBare bytes fault)
behind_lines bytes m n first rows w rest body split =
    let place = length w in
    let front : take place bytes ≡ w = ap (take place) split ∙ take_at w rest place refl in
    elim (cases_lt place (length bytes)) [
      | inr last ↦
          let none : rest ≡ [] = nil_from_length rest (omega (arith, ap length split, length-append w rest)) in
          let whole : bytes ≡ w = split ∙ ap (λ x. w ++ x) none ∙ append-nil w in
          let (M, matrix, field, many, wide, e) = bare_of_body m n w body in
          inl (
            M,
            record {
              accepted = record { matrix = matrix; over_gf2 = field; limits = subst₂ (IsWithinLimits 1) (sym many) (sym wide) rows.limits };
              held = λ zero_rows. absurd (omega (arith, rows.some, many, zero_rows));
              spelled = whole ∙ e;
            },
          )
      | inl inside ↦
          let lines : IsBody m n (take place bytes) = subst (IsBody m n) (sym front) body in
          let most : IsWithinLimits 1 (m + 1) n → ⊥ = λ more.
          elim rows.all [
            | inl all ↦ omega (arith, length-body m n w body)
            | inr past ↦ past more
          ] in
          elim (row_or_not n (get_or bytes place 0)) [
            | inl begins ↦ inr (PastLimit, (place, large_rows bytes m n first rows.some rows.limits place lines inside most begins))
            | inr none ↦ inr (BadAt place, bad_rows bytes m n first rows.some rows.limits place lines inside most none)
          ]
    ]

-- bare text is read or refused
pub bare_or_not : (bytes : List ℕ) → ((M : Matrix) × ReadsBare bytes M) ⊎ ((fault : Fault) × RefusalBare bytes fault)
bare_or_not bytes =
    elim (cases_lt 0 (length bytes)) [
      | inr empty ↦
          let none : bytes ≡ [] = nil_from_length bytes (omega arith) in
          inl (zero_matrix gf2 0 0, subst (λ w. ReadsBare w (zero_matrix gf2 0 0)) (sym none) (no_lines (zero_matrix gf2 0 0) refl))
      | inl some ↦
          elim (first_or_not bytes some) [
            | inr refused ↦ inr refused
            | inl (n, few, first) ↦
                let (most, above, limits, past) = most_rows n few in
                let m = min (length bytes / (n + 1) + min 1 (length bytes % (n + 1))) most in
                let rows : AreRowsToRead (length bytes) n m = rows_to_read (length bytes) n most some above limits past in
                elim (body_or_not m n bytes) [
                  | inl (w, rest, body, split) ↦ behind_lines bytes m n first rows w rest body split
                  | inr (k, found) ↦ inr (BadAt k, bad_line bytes m n first rows.some rows.limits k rows.begun found)
                ]
          ]
    ]

-- the opening letters of a header
letters_or_not : (i : ℕ) (bytes : List ℕ) → i ≤ 4
    → ((i ≤ length bytes) × (take i bytes ≡ take i (codes "gf2 "))) ⊎ ((p : ℕ) × GoesWrong IsOpening bytes p)
letters_or_not zero bytes few = inl (omega arith, refl)
letters_or_not (suc i) bytes few =
    elim (letters_or_not i bytes (omega (arith, few))) [
      | inr wrong ↦ inr wrong
      | inl (within, same) ↦
          elim (cases_lt i (length bytes)) [
            | inr last ↦ inr (i, GoesWrong-opening bytes i few within same (λ inside. absurd (omega arith)))
            | inl inside ↦
                elim (cases_eq (get_or bytes i 0) (get_or (codes "gf2 ") i 0)) [
                  | inr other ↦ inr (i, GoesWrong-opening bytes i few within same (λ _. other))
                  | inl letter ↦
                      let one : i + 1 ≡ suc i = omega arith in
                      inl (omega arith, subst (λ k. take k bytes ≡ take k (codes "gf2 ")) one (take_more_same bytes (codes "gf2 ") i 0 inside few same letter))
                ]
          ]
    ]

-- a byte goes on with a number, or doesn't
lengthens_or_not : (value len byte : ℕ) → Lengthens value len byte ⊎ (Lengthens value len byte → ⊥)
lengthens_or_not value len byte =
    elim (cases_lt byte 48) [
      | inl below ↦ inr (λ more. omega (arith, more.digit.0))
      | inr above ↦
          elim (cases_lt 57 byte) [
            | inl past ↦ inr (λ more. omega (arith, more.digit.1))
            | inr within ↦
                elim (cases_lt len 9) [
                  | inr full ↦ inr (λ more. omega (arith, more.room))
                  | inl room ↦
                      elim (cases_lt 0 value) [
                        | inl some ↦ inl (record { digit = (above, within); room = room; nonzero = inr some })
                        | inr none ↦
                            elim (cases_eq len 0) [
                              | inl first ↦ inl (record { digit = (above, within); room = room; nonzero = inl first })
                              | inr later ↦ inr (λ more. elim more.nonzero [ inl first ↦ later first | inr some ↦ omega arith ])
                            ]
                      ]
                ]
          ]
    ]

-- Digits spell a value so far.
record IsNumberSoFar (bytes : List ℕ) (value len : ℕ) : Type 0 where
  within : len ≤ length bytes
  few : len ≤ 9
  small : value < 10 ^ len
  spelled : 0 < len → take len bytes ≡ decimal value

leading : (fuel : ℕ) (bytes : List ℕ) (value len : ℕ) → len + fuel ≡ 10 → IsNumberSoFar bytes value len
    → (v k : ℕ) × IsLeadingNumber bytes v k
leading zero bytes value len all far = absurd (omega (arith, far.few))
leading (suc fuel) bytes value len all far =
    let stopped : (len < length bytes → Lengthens value len (get_or bytes len 0) → ⊥) → (v k : ℕ) × IsLeadingNumber bytes v k = λ stops.
    let found : IsLeadingNumber bytes value len = record {
      within = far.within;
      small = few_digits value len 9 far.few far.small;
      spelled = far.spelled;
      stops = stops;
    } in
    (value, len, found) in
    elim (cases_lt len (length bytes)) [
      | inr last ↦ stopped (λ inside. absurd (omega arith))
      | inl inside ↦
          let byte = get_or bytes len 0 in
          elim (lengthens_or_not value len byte) [
            | inr none ↦ stopped (λ _. none)
            | inl more ↦
                leading fuel bytes (10 * value + (byte - 48)) (len + 1) (omega (arith, all)) (record {
                  within = omega arith;
                  few = omega (arith, more.room);
                  small = small_more value len (byte - 48) far.small (omega (arith, more.digit.1));
                  spelled = λ _. spelled_more bytes value len inside more far.small far.few far.spelled;
                })
          ]
    ]

-- a number of a header with the byte that ends it, from a place on
number_or_not : (bytes : List ℕ) (start ending : ℕ) → start ≤ length bytes → (IsAsciiDigit ending → ⊥)
    → ((value end : ℕ) × IsNumberAt bytes start ending value end) ⊎ ((p : ℕ) × GoesWrongFrom (IsNumber ending) bytes start p)
number_or_not bytes start ending within other =
    let rest = drop start bytes in
    let (value, len, found) = leading 10 rest 0 0 refl (record {
      within = omega arith;
      few = omega arith;
      small = lit< tt;
      spelled = λ some. absurd (omega arith);
    }) in
    let wrong : (0 < len → len < length rest → get_or rest len 0 ≡ ending → ⊥) → (p : ℕ) × GoesWrongFrom (IsNumber ending) bytes start p = λ ends.
    let here : len ≡ start + len - start = omega arith in
    let from : GoesWrongFrom (IsNumber ending) bytes start (start + len) = record {
      behind = omega arith;
      wrong = subst (GoesWrong (IsNumber ending) rest) here (GoesWrong-number rest ending value len other found ends);
    } in
    (start + len, from) in
    elim (cases_lt 0 len) [
      | inr none ↦ inr (wrong (λ some. absurd (omega arith)))
      | inl some ↦
          elim (cases_lt len (length rest)) [
            | inr last ↦ inr (wrong (λ _ inside. absurd (omega arith)))
            | inl inside ↦
                elim (cases_eq (get_or rest len 0) ending) [
                  | inr apart ↦ inr (wrong (λ _ _. apart))
                  | inl end ↦
                      let far : start + (len + 1) ≡ start + len + 1 = omega arith in
                      let number : IsNumberAt bytes start ending value (start + len + 1) = record {
                        within = omega (arith, length-drop start bytes);
                        small = found.small;
                        spelled = sym (take-append-drop (len + 1) rest)
                            ∙ ap₂ (λ x y. x ++ y)
                            (take_more rest len 0 inside ∙ ap₂ (λ x y. x ++ y ∷ []) (found.spelled some) end)
                            (drop-drop (len + 1) start bytes ∙ ap (λ k. drop k bytes) far);
                      } in
                      inl (value, start + len + 1, number)
                ]
          ]
    ]

-- a header line, or where the bytes go wrong in it
header_or_not : (bytes : List ℕ) → ((m n end : ℕ) × IsHeaderOf bytes m n end) ⊎ ((p : ℕ) × GoesWrong IsHeader bytes p)
header_or_not bytes =
    elim (letters_or_not 4 bytes (omega arith)) [
      | inr (p, wrong) ↦ inr (p, wrong_opening bytes p wrong)
      | inl (within, same) ↦
          let opened : IsOpeningOf bytes 4 = record { within = within; spelled = same } in
          elim (number_or_not bytes 4 32 within space_apart) [
            | inr (p, wrong) ↦ inr (p, wrong_rows bytes 4 p opened wrong)
            | inl (m, middle, rows) ↦
                elim (number_or_not bytes middle 10 rows.within line_feed_apart) [
                  | inr (p, wrong) ↦ inr (p, wrong_cols bytes 4 m middle p opened rows wrong)
                  | inl (n, end, cols) ↦ inl (m, n, end, header_read bytes 4 m middle n end opened rows cols)
                ]
          ]
    ]

-- numbers are within the limits or not
pub limits_or_not : (m n : ℕ) → IsWithinLimits 1 m n ⊎ (IsWithinLimits 1 m n → ⊥)
limits_or_not m n =
    elim (cases_lt 65536 m) [
      | inl many ↦ inr (λ limits. omega (arith, limits.rows))
      | inr rows ↦
          elim (cases_lt 65536 n) [
            | inl wide ↦ inr (λ limits. omega (arith, limits.cols))
            | inr cols ↦
                elim (cases_lt (2 ^ 22) (m * words_per_row (n * 1))) [
                  | inl large ↦ inr (λ limits. omega (arith, limits.words))
                  | inr words ↦ inl (record { rows = rows; cols = cols; words = words })
                ]
          ]
    ]

-- a refusal of bytes, from one of every file that begins so
itself : (bytes : List ℕ) (fault : Fault) → IsRefusal bytes fault → Refusal bytes fault
itself bytes fault refused = subst (λ w. Refusal w fault) (append-nil bytes) (refused [] (inl refl))

-- headed text is read or refused
pub headed_or_not : (bytes : List ℕ) → ((M : Matrix) × Reads bytes M) ⊎ ((fault : Fault) × Refusal bytes fault)
headed_or_not bytes =
    elim (header_or_not bytes) [
      | inr (p, wrong) ↦ inr (BadAt p, itself bytes (BadAt p) (refused_header bytes p wrong))
      | inl (m, n, end, found) ↦
          elim (limits_or_not m n) [
            | inr past ↦ inr (PastLimit, itself bytes PastLimit (refused_limit bytes m n end found past))
            | inl limits ↦
                let after = drop end bytes in
                let whole : header m n ++ after ≡ bytes = ap (λ w. w ++ after) (sym found.spelled) ∙ take-append-drop end bytes in
                elim (body_or_not m n after) [
                  | inr (k, wrong) ↦
                      let placed = subst (λ w. GoesWrong (IsTextOf m n) w (length (header m n) + k)) whole
                      (wrong_text m n after k (GoesWrong-same (IsBody m n) (IsBareOf m n) (bare_of_body m n) (body_of_bare m n) after k wrong)) in
                      let place = length (header m n) + k in
                      inr (
                        BadAt place,
                        itself bytes (BadAt place) (refused_body bytes m n end place found limits
                            (record { none = none_wrong (IsTextOf m n) bytes place placed; longest = placed.longest })),
                      )
                  | inl (w, rest, body, split) ↦
                      let start = header m n ++ w in
                      let parts : bytes ≡ start ++ rest = sym whole ∙ ap (λ x. header m n ++ x) split ∙ sym (append_assoc (header m n) w rest) in
                      let (M, matrix, field, many, wide, e) = text_of_body m n start (header m n, w, refl, body, refl) in
                      elim (cases_lt (length start) (length bytes)) [
                        | inl inside ↦
                            let front : take (length start) bytes ≡ start = ap (take (length start)) parts ∙ take_at start rest (length start) refl in
                            let is : IsTextOf m n (take (length start) bytes) = subst (IsTextOf m n) (sym front) (M, matrix, field, many, wide, e) in
                            inr (
                              BadAt (length start),
                              itself bytes (BadAt (length start)) (refused_body bytes m n end (length start) found limits
                                  (longer_text m n bytes (length start) inside is)),
                            )
                        | inr last ↦
                            let none : rest ≡ [] = nil_from_length rest (omega (arith, ap length parts, length-append start rest)) in
                            inl (
                              M,
                              record {
                                accepted = record { matrix = matrix; over_gf2 = field; limits = subst₂ (IsWithinLimits 1) (sym many) (sym wide) limits };
                                spelled = parts ∙ ap (λ x. start ++ x) none ∙ append-nil start ∙ e;
                              },
                            )
                      ]
                ]
          ]
    ]
