-- A matrix whose rectangle was taken out as a window, written, and put back.
use Rattle.std.proofs.Common.{◌≡◌, ℕ, ◌+◌, ◌-◌, ◌*◌, ◌/◌, ◌%◌, ◌<◌, ◌≤◌, inl, inr, List, [], ◌++◌, length, take, drop, map, refl, sym, ◌∙◌, ap, arith}
use Rattle.std.specs.Simd.Lanes.{zip2}
use Rattle.std.proofs.lemmas.Bool.{cases_lt}
use Rattle.std.proofs.lemmas.List.{length-append, length-take-le, length-drop, length-map, get_or_append_left, get_or-append_right, get_or-take, get_or-drop, get_or-map}
use Rattle.std.proofs.lemmas.Simd.{length-zip2, get_or-zip2}
use Rattle.std.specs.Int.{bit_at}
use Rattle.m4_bits.specs.Bits.{bit}
use Rattle.m4_area.specs.Rows.{row_of}

-- the bits of words that follow others, of the first words and of the others
bit-before : (xs ys : List ℕ) (j : ℕ) → j < length xs * 64 → bit (xs ++ ys) j ≡ bit xs j
bit-before xs ys j before = ap (λ w. bit_at w (j % 64)) (get_or_append_left xs ys 0 (j / 64) (omega arith))

bit-after : (xs ys : List ℕ) (k j : ℕ) → length xs ≡ k → bit (xs ++ ys) (k * 64 + j) ≡ bit ys j
bit-after xs ys k j long =
    let word : (k * 64 + j) / 64 - k ≡ j / 64 = omega arith in
    let place : (k * 64 + j) % 64 ≡ j % 64 = omega arith in
    ap (λ w. bit_at w ((k * 64 + j) % 64)) (get_or-append_right xs ys k ((k * 64 + j) / 64) 0 long (omega arith))
    ∙ (rw (word, place) refl)

bit-take : (k j : ℕ) (xs : List ℕ) → j < k * 64 → bit (take k xs) j ≡ bit xs j
bit-take k j xs before = ap (λ w. bit_at w (j % 64)) (get_or-take k xs (j / 64) 0 (omega arith))

bit-drop : (k j : ℕ) (xs : List ℕ) → bit (drop k xs) j ≡ bit xs (k * 64 + j)
bit-drop k j xs =
    let word : k + j / 64 ≡ (k * 64 + j) / 64 = omega arith in
    let place : j % 64 ≡ (k * 64 + j) % 64 = omega arith in
    ap (λ w. bit_at w (j % 64)) (get_or-drop k xs (j / 64) 0) ∙ (rw (word, place) refl)

-- a row of which some words were written
abbrev pub patched : ℕ → ℕ → List ℕ → List ℕ → List ℕ
patched p q old new = (take p old ++ new) ++ drop q (drop p old)

patched-inside : (p q k : ℕ) (old new : List ℕ) → p ≤ length old → length new ≡ q → k < q * 64 → bit (patched p q old new) (p * 64 + k) ≡ bit new k
patched-inside p q k old new within long inside =
    let front : length (take p old) ≡ p = length-take-le p old within in
    bit-before (take p old ++ new) (drop q (drop p old)) (p * 64 + k) (omega (arith, length-append (take p old) new))
    ∙ bit-after (take p old) new p k front

patched-before : (p q j : ℕ) (old new : List ℕ) → p ≤ length old → j < p * 64 → bit (patched p q old new) j ≡ bit old j
patched-before p q j old new within before =
    let front : length (take p old) ≡ p = length-take-le p old within in
    bit-before (take p old ++ new) (drop q (drop p old)) j (omega (arith, length-append (take p old) new))
    ∙ bit-before (take p old) new j (omega arith) ∙ bit-take p j old before

patched-after : (p q k : ℕ) (old new : List ℕ) → p ≤ length old → length new ≡ q → bit (patched p q old new) ((p + q) * 64 + k) ≡ bit old ((p + q) * 64 + k)
patched-after p q k old new within long =
    let front : length (take p old ++ new) ≡ p + q = omega (arith, length-append (take p old) new, length-take-le p old within) in
    let same : p * 64 + (q * 64 + k) ≡ (p + q) * 64 + k = omega arith in
    bit-after (take p old ++ new) (drop q (drop p old)) (p + q) k front
    ∙ bit-drop q k (drop p old) ∙ bit-drop p (q * 64 + k) old ∙ ap (bit old) same

-- but for the columns of the window the row is as it was
pub patched-outside : (p q n j : ℕ) (old new : List ℕ) → p + q ≤ length old → length new ≡ q
    → ((k : ℕ) → n ≤ k → k < q * 64 → bit new k ≡ bit (take q (drop p old)) k)
    → (p * 64 ≤ j → j < p * 64 + n → ⊥) → bit (patched p q old new) j ≡ bit old j
patched-outside p q n j old new within long past out =
    elim (cases_lt j (p * 64)) [
      | inl before ↦ patched-before p q j old new (omega arith) before
      | inr from ↦ elim (cases_lt j ((p + q) * 64)) [
        | inl under ↦
            let k : p * 64 + (j - p * 64) ≡ j = omega arith in
            let beyond : n ≤ j - p * 64 = elim (cases_lt (j - p * 64) n) [ inl less ↦ absurd (out from (omega arith)) | inr more ↦ more ] in
            ap (bit (patched p q old new)) (sym k)
            ∙ (patched-inside p q (j - p * 64) old new (omega arith) long (omega arith)
            ∙ (past (j - p * 64) beyond (omega arith)
            ∙ (bit-take q (j - p * 64) (drop p old) (omega arith) ∙ (bit-drop p (j - p * 64) old ∙ ap (bit old) k))))
        | inr after ↦
            let k : (p + q) * 64 + (j - (p + q) * 64) ≡ j = omega arith in
            ap (bit (patched p q old new)) (sym k) ∙ (patched-after p q (j - (p + q) * 64) old new (omega arith) long ∙ ap (bit old) k)
      ]
    ]

-- the rows of a rectangle of words of which a part was written
abbrev pub rows_patched : ℕ → ℕ → ℕ → ℕ → List (List ℕ) → List (List ℕ) → List (List ℕ)
rows_patched r0 r1 p q rows new =
    (take r0 (take r1 rows) ++ zip2 (λ l r. l ++ r) (zip2 (λ l r. l ++ r) (map (take p) (drop r0 (take r1 rows))) new) (map (drop q) (map (drop p) (drop r0 (take r1 rows))))) ++ drop r1 rows

-- what is known of such a write
pub record Patch (r0 r1 p q n : ℕ) (rows new : List (List ℕ)) : Type 0 where
  pub in_order : r0 ≤ r1
  pub in_rows : r1 ≤ length rows
  pub count : length new ≡ r1 - r0
  pub room : (i : ℕ) → i < length rows → p + q ≤ length (row_of rows i)
  pub long : (k : ℕ) → k < r1 - r0 → length (row_of new k) ≡ q
  pub kept : (k j : ℕ) → k < r1 - r0 → n ≤ j → j < q * 64 → bit (row_of new k) j ≡ bit (take q (drop p (row_of rows (r0 + k)))) j

module _ (r0 r1 p q n : ℕ) (rows new : List (List ℕ)) (t : Patch r0 r1 p q n rows new) where
  abbrev mid : List (List ℕ)
  mid = drop r0 (take r1 rows)

  abbrev inner : List (List ℕ)
  inner = zip2 (λ l r. l ++ r) (zip2 (λ l r. l ++ r) (map (take p) mid) new) (map (drop q) (map (drop p) mid))

  high : length mid ≡ r1 - r0
  high = omega (arith, length-drop r0 (take r1 rows), length-take-le r1 rows t.in_rows)

  lefts_high : length (zip2 (λ l r. l ++ r) (map (take p) mid) new) ≡ r1 - r0
  lefts_high = length-zip2 (λ l r. l ++ r) (map (take p) mid) new (length-map mid (take p) ∙ (high ∙ sym t.count)) ∙ (length-map mid (take p) ∙ high)

  inner_high : length inner ≡ r1 - r0
  inner_high =
      length-zip2 (λ l r. l ++ r) (zip2 (λ l r. l ++ r) (map (take p) mid) new) (map (drop q) (map (drop p) mid))
      (lefts_high ∙ sym (length-map (map (drop p) mid) (drop q) ∙ (length-map mid (drop p) ∙ high)))
      ∙ lefts_high

  above_high : length (take r0 (take r1 rows)) ≡ r0
  above_high = length-take-le r0 (take r1 rows) (omega (arith, length-take-le r1 rows t.in_rows, t.in_order))

  front_high : length (take r0 (take r1 rows) ++ inner) ≡ r1
  front_high = omega (arith, length-append (take r0 (take r1 rows)) inner, above_high, inner_high, t.in_order)

  mid_row : (k : ℕ) → k < r1 - r0 → row_of mid k ≡ row_of rows (r0 + k)
  mid_row k below = get_or-drop r0 (take r1 rows) k [] ∙ get_or-take r1 rows (r0 + k) [] (omega arith)

  inner_row : (k : ℕ) → k < r1 - r0 → row_of inner k ≡ patched p q (row_of rows (r0 + k)) (row_of new k)
  inner_row k below =
      let right_high : length (map (drop q) (map (drop p) mid)) ≡ r1 - r0 = length-map (map (drop p) mid) (drop q) ∙ (length-map mid (drop p) ∙ high) in
      let left_high : length (map (take p) mid) ≡ r1 - r0 = length-map mid (take p) ∙ high in
      get_or-zip2 (λ l r. l ++ r) (zip2 (λ l r. l ++ r) (map (take p) mid) new) (map (drop q) (map (drop p) mid)) k [] [] [] (omega (arith, lefts_high)) (omega (arith, right_high))
      ∙ ((λ i. get_or-zip2 (λ l r. l ++ r) (map (take p) mid) new k [] [] [] (omega (arith, left_high)) (omega (arith, t.count)) i
      ++ (get_or-map (drop q) (map (drop p) mid) k [] [] (omega (arith, length-map mid (drop p), high)) ∙ ap (drop q) (get_or-map (drop p) mid k [] [] (omega (arith, high)))) i)
      ∙ (λ i. (get_or-map (take p) mid k [] [] (omega (arith, high)) i ++ row_of new k) ++ drop q (drop p (row_of mid k)))
      ∙ ap (λ l. patched p q l (row_of new k)) (mid_row k below))

  pub row_above_patch : (i : ℕ) → i < r0 → row_of (rows_patched r0 r1 p q rows new) i ≡ row_of rows i
  row_above_patch i above =
      get_or_append_left (take r0 (take r1 rows) ++ inner) (drop r1 rows) [] i (omega (arith, front_high, t.in_order))
      ∙ (get_or_append_left (take r0 (take r1 rows)) inner [] i (omega (arith, above_high))
      ∙ (get_or-take r0 (take r1 rows) i [] above ∙ get_or-take r1 rows i [] (omega (arith, t.in_order))))

  pub row_in_patch : (i : ℕ) → r0 ≤ i → i < r1 → row_of (rows_patched r0 r1 p q rows new) i ≡ patched p q (row_of rows i) (row_of new (i - r0))
  row_in_patch i from below =
      let back : r0 + (i - r0) ≡ i = omega arith in
      get_or_append_left (take r0 (take r1 rows) ++ inner) (drop r1 rows) [] i (omega (arith, front_high))
      ∙ (get_or-append_right (take r0 (take r1 rows)) inner r0 i [] above_high from
      ∙ (inner_row (i - r0) (omega arith) ∙ ap (λ m. patched p q (row_of rows m) (row_of new (i - r0))) back))

  pub row_below_patch : (i : ℕ) → r1 ≤ i → row_of (rows_patched r0 r1 p q rows new) i ≡ row_of rows i
  row_below_patch i past =
      let back : r1 + (i - r1) ≡ i = omega arith in
      get_or-append_right (take r0 (take r1 rows) ++ inner) (drop r1 rows) r1 i [] front_high past
      ∙ (get_or-drop r1 rows (i - r1) [] ∙ ap (row_of rows) back)

  -- a bit in the window, and one outside
  pub bit_inside : (i j : ℕ) → r0 ≤ i → i < r1 → p * 64 ≤ j → j < p * 64 + n → n ≤ q * 64
      → bit (row_of (rows_patched r0 r1 p q rows new) i) j ≡ bit (row_of new (i - r0)) (j - p * 64)
  bit_inside i j from below left right fits =
      let back : p * 64 + (j - p * 64) ≡ j = omega arith in
      let room : p ≤ length (row_of rows i) = omega (arith, t.room i (omega (arith, t.in_rows))) in
      ap (λ l. bit l j) (row_in_patch i from below)
      ∙ (ap (bit (patched p q (row_of rows i) (row_of new (i - r0)))) (sym back)
      ∙ patched-inside p q (j - p * 64) (row_of rows i) (row_of new (i - r0)) room (t.long (i - r0) (omega arith)) (omega arith))

  pub bit_outside : (i j : ℕ) → i < length rows → (r0 ≤ i → i < r1 → p * 64 ≤ j → j < p * 64 + n → ⊥)
      → bit (row_of (rows_patched r0 r1 p q rows new) i) j ≡ bit (row_of rows i) j
  bit_outside i j within out =
      elim (cases_lt i r0) [
        | inl above ↦ ap (λ l. bit l j) (row_above_patch i above)
        | inr from ↦ elim (cases_lt i r1) [
          | inl below ↦
              let back : r0 + (i - r0) ≡ i = omega arith in
              ap (λ l. bit l j) (row_in_patch i from below)
              ∙ patched-outside p q n j (row_of rows i) (row_of new (i - r0)) (t.room i within) (t.long (i - r0) (omega arith))
              (λ k past under. t.kept (i - r0) k (omega arith) past under ∙ ap (λ m. bit (take q (drop p (row_of rows m))) k) back)
              (out from below)
          | inr past ↦ ap (λ l. bit l j) (row_below_patch i past)
        ]
      ]
