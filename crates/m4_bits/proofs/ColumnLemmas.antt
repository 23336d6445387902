-- A row added to another from a column on: the words from the column's word on, and the bits of that word.
use Rattle.std.proofs.Common.{◌≡◌, ℕ, ◌+◌, ◌-◌, ◌*◌, ◌/◌, ◌%◌, ◌^◌, ◌<◌, ◌≤◌, inl, inr, List, length, get_or, set, take, drop, ◌++◌, sym, ◌∙◌, ap, arith, bit_xor, bit_and}
use borrow.Rule.Slice.PartMut.{put_mid}
use Rattle.std.specs.Int.{bit_at}
use Rattle.std.proofs.lemmas.Nat.Bits.{bit_at_mask_inside, bit_at_mask_below, ones_shl}
use Rattle.std.proofs.lemmas.List.{length-set, length-take-le, length-drop, length-append, get_or-set_same, get_or-set_other, get_or-take, get_or-drop, get_or_append_left, get_or-append_right, take_rest}
use Rattle.std.proofs.lemmas.Bool.{cases_eq, cases_lt}
use Rattle.m4_model.specs.Matrix.{row_sum}
use Rattle.m4_bits.specs.Bits.{bit, masked, merged}
use Rattle.m4_bits.proofs.BitsLemmas.{length-row_sum, get_or-row_sum, length-masked, bit_past}
use Rattle.m4_bits.proofs.OverlaidLemmas.{bit_at-merged_under, bit_at-merged_outside}

-- the words of a masked row from word p on
pub get_or-masked_drop : (src : List ℕ) (mask p i : ℕ) → p < length src → p ≤ i
    → get_or (masked (drop p src) mask) (i - p) 0 ≡ get_or (masked src mask) i 0
get_or-masked_drop src mask p i within past =
    let long : length (drop p src) ≡ length src - p = length-drop p src in
    let at : p + (i - p) ≡ i = omega (arith, past) in
    elim (cases_eq i (length src - 1)) [
      | inl last ↦
          let here : i - p ≡ length (drop p src) - 1 = omega (arith, long, last, within) in
          let same : get_or (drop p src) (length (drop p src) - 1) 0 ≡ get_or src (length src - 1) 0 =
          get_or-drop p src (length (drop p src) - 1) 0 ∙ ap (λ k. get_or src k 0) (omega (arith, long, within)) in
          ap (λ k. get_or (masked (drop p src) mask) k 0) here
          ∙ (get_or-set_same (drop p src) (length (drop p src) - 1) _ 0 (omega (arith, long, within))
          ∙ (ap (λ w. bit_and w mask) same
          ∙ (sym (get_or-set_same src (length src - 1) _ 0 (omega (arith, within))) ∙ ap (λ k. get_or (masked src mask) k 0) (sym last))))
      | inr away ↦
          get_or-set_other (drop p src) (length (drop p src) - 1) (i - p) _ 0 (λ is. away (omega (arith, is, long, within, past)))
          ∙ (get_or-drop p src (i - p) 0
          ∙ (ap (λ k. get_or src k 0) at ∙ sym (get_or-set_other src (length src - 1) i _ 0 away)))
    ]

-- a row, in place of whose words from word p on stands their sum with those of the masked row
abbrev pub SumFrom : List ℕ → List ℕ → ℕ → ℕ → List ℕ → Type 0
SumFrom old src mask p mid = mid ≡ row_sum (take (length old - p) (drop p old)) (masked (take (length src - p) (drop p src)) mask)

sum_from-is : (old src : List ℕ) (mask p : ℕ) (mid : List ℕ) → SumFrom old src mask p mid → mid ≡ row_sum (drop p old) (masked (drop p src) mask)
sum_from-is old src mask p mid is =
    is ∙ (ap (λ l. row_sum l (masked (take (length src - p) (drop p src)) mask)) (take_rest old p)
    ∙ ap (λ l. row_sum (drop p old) (masked l mask)) (take_rest src p))

length-sum_from : (old src : List ℕ) (mask p : ℕ) (mid : List ℕ) → p < length old → SumFrom old src mask p mid
    → length (put_mid p (length old - p) old mid) ≡ length old
length-sum_from old src mask p mid within is =
    let many : length mid ≡ length old - p =
    ap length (sum_from-is old src mask p mid is) ∙ (length-row_sum (drop p old) (masked (drop p src) mask) ∙ length-drop p old) in
    let rest = drop (length old - p) (drop p old) in
    let none : length rest ≡ 0 = length-drop (length old - p) (drop p old) ∙ omega (arith, length-drop p old) in
    let front : length (take p old) ≡ p = length-take-le p old (omega (arith, within)) in
    length-append (take p old) (mid ++ rest) ∙ omega (arith, front, length-append mid rest, many, none, within)

-- the words before word p
get_or-sum_before : (old : List ℕ) (p : ℕ) (mid : List ℕ) (i : ℕ) → p < length old → i < p
    → get_or (put_mid p (length old - p) old mid) i 0 ≡ get_or old i 0
get_or-sum_before old p mid i within before =
    let front : length (take p old) ≡ p = length-take-le p old (omega (arith, within)) in
    get_or_append_left (take p old) _ 0 i (omega (arith, front, before)) ∙ get_or-take p old i 0 before

-- the words from word p on
get_or-sum_from : (old src : List ℕ) (mask p : ℕ) (mid : List ℕ) (i : ℕ) → length old ≡ length src → SumFrom old src mask p mid → p ≤ i
    → i < length old → get_or (put_mid p (length old - p) old mid) i 0 ≡ get_or (row_sum old (masked src mask)) i 0
get_or-sum_from old src mask p mid i same is past inside =
    let part = masked (drop p src) mask in
    let mine : length (drop p old) ≡ length old - p = length-drop p old in
    let theirs : length part ≡ length src - p = length-masked (drop p src) mask ∙ length-drop p src in
    let sum : mid ≡ row_sum (drop p old) part = sum_from-is old src mask p mid is in
    let many : length mid ≡ length old - p = ap length sum ∙ (length-row_sum (drop p old) part ∙ mine) in
    let front : length (take p old) ≡ p = length-take-le p old (omega (arith, past, inside)) in
    let at : p + (i - p) ≡ i = omega (arith, past) in
    get_or-append_right (take p old) _ p i 0 front past
    ∙ (get_or_append_left mid _ 0 (i - p) (omega (arith, many, past, inside))
    ∙ (ap (λ l. get_or l (i - p) 0) sum
    ∙ (get_or-row_sum (drop p old) part (i - p) (omega (arith, mine, theirs, same))
    ∙ (ap (λ w. bit_xor w (get_or part (i - p) 0)) (get_or-drop p old (i - p) 0 ∙ ap (λ k. get_or old k 0) at)
    ∙ (ap (λ w. bit_xor (get_or old i 0) w) (get_or-masked_drop src mask p i (omega (arith, past, inside, same)) past)
    ∙ sym (get_or-row_sum old (masked src mask) i (same ∙ sym (length-masked src mask))))))))

-- The row after the bits before column `first` are put back into its word: w is that word.
pub record Column (old src : List ℕ) (mask first : ℕ) (mid : List ℕ) (w : ℕ) : Type 0 where
  pub same : length old ≡ length src
  pub within : first / 64 < length old
  pub sum : SumFrom old src mask (first / 64) mid
  pub word : w ≡ merged (18446744073709551615 * 2 ^ (first % 64) % 18446744073709551616) (get_or old (first / 64) 0)
      (get_or (put_mid (first / 64) (length old - first / 64) old mid) (first / 64) 0)

high-is : (first : ℕ) → 18446744073709551615 * 2 ^ (first % 64) % 18446744073709551616 ≡ 2 ^ 64 - 2 ^ (first % 64)
high-is first = ones_shl 64 (first % 64) (omega arith)

-- the bits from the column on are those of the sum
pub bit-column_added : (old src : List ℕ) (mask first : ℕ) (mid : List ℕ) (w k : ℕ) → Column old src mask first mid w → first ≤ k
    → bit (set (put_mid (first / 64) (length old - first / 64) old mid) (first / 64) w) k ≡ bit (row_sum old (masked src mask)) k
bit-column_added old src mask first mid w k h from =
    let p = first / 64 in
    let after = put_mid p (length old - p) old mid in
    let total = row_sum old (masked src mask) in
    let long : length after ≡ length old = length-sum_from old src mask p mid h.within h.sum in
    elim (cases_lt (k / 64) (length old)) [
      | inl inside ↦ elim (cases_eq (k / 64) p) [
        | inl here ↦
            let one : bit_at (18446744073709551615 * 2 ^ (first % 64) % 18446744073709551616) (k % 64) ≡ 1 =
            ap (λ m. bit_at m (k % 64)) (high-is first) ∙ bit_at_mask_inside (first % 64) 64 (k % 64) (omega (arith, from, here)) (omega arith) in
            ap (λ q. bit_at (get_or (set after p w) q 0) (k % 64)) here
            ∙ (ap (λ v. bit_at v (k % 64)) (get_or-set_same after p w 0 (omega (arith, long, h.within)) ∙ h.word)
            ∙ (bit_at-merged_under _ (get_or old p 0) (get_or after p 0) (k % 64) one
            ∙ (ap (λ v. bit_at v (k % 64)) (get_or-sum_from old src mask p mid p h.same h.sum (omega arith) h.within)
            ∙ ap (λ q. bit_at (get_or total q 0) (k % 64)) (sym here))))
        | inr away ↦
            ap (λ v. bit_at v (k % 64))
            (get_or-set_other after p (k / 64) w 0 away ∙ get_or-sum_from old src mask p mid (k / 64) h.same h.sum (omega (arith, from)) inside)
      ]
      | inr outside ↦
          bit_past (set after p w) k (omega (arith, length-set after p w, long, outside))
          ∙ sym (bit_past total k (omega (arith, length-row_sum old (masked src mask), outside)))
    ]

-- the bits before the column are as they were
pub bit-column_kept : (old src : List ℕ) (mask first : ℕ) (mid : List ℕ) (w k : ℕ) → Column old src mask first mid w → k < first
    → bit (set (put_mid (first / 64) (length old - first / 64) old mid) (first / 64) w) k ≡ bit old k
bit-column_kept old src mask first mid w k h before =
    let p = first / 64 in
    let after = put_mid p (length old - p) old mid in
    let long : length after ≡ length old = length-sum_from old src mask p mid h.within h.sum in
    elim (cases_eq (k / 64) p) [
      | inl here ↦
          let none : bit_at (18446744073709551615 * 2 ^ (first % 64) % 18446744073709551616) (k % 64) ≡ 0 =
          ap (λ m. bit_at m (k % 64)) (high-is first) ∙ bit_at_mask_below (first % 64) 64 (k % 64) (omega (arith, before, here)) in
          ap (λ q. bit_at (get_or (set after p w) q 0) (k % 64)) here
          ∙ (ap (λ v. bit_at v (k % 64)) (get_or-set_same after p w 0 (omega (arith, long, h.within)) ∙ h.word)
          ∙ (bit_at-merged_outside _ (get_or old p 0) (get_or after p 0) (k % 64) none ∙ ap (λ q. bit_at (get_or old q 0) (k % 64)) (sym here)))
      | inr away ↦
          ap (λ v. bit_at v (k % 64))
          (get_or-set_other after p (k / 64) w 0 away ∙ get_or-sum_before old p mid (k / 64) h.within (omega (arith, before, away)))
    ]
