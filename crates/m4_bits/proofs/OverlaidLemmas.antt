-- One word over another under a mask, and one row over another under a mask on the last word.
use Rattle.std.proofs.Common.{◌≡◌, ℕ, ◌-◌, ◌/◌, ◌%◌, ◌^◌, ◌<◌, ◌≤◌, inl, inr, List, length, replicate, refl, sym, ◌∙◌, ap, arith, min, bit_xor, bit_and}
use Rattle.std.specs.Int.{bit_at}
use Rattle.std.specs.Int.Bits.{xor_assoc, xor_self, xor_zero_r}
use Rattle.std.proofs.lemmas.Nat.Bits.{bit_at_and, bit_at_ones, bit_at_ones_above, bit_at-lt, bit_at-zero}
use Rattle.std.proofs.lemmas.List.{length-set, get_or-set_same, get_or-set_other, get_or-replicate, length-replicate}
use Rattle.std.proofs.lemmas.Bool.{cases_eq, cases_lt}
use Rattle.m4_model.specs.Text.{words_per_row}
use Rattle.m4_bits.specs.Bits.{bit, last_bits, merged, overlaid}
use Rattle.m4_bits.proofs.BitsLemmas.{bit_at-xor, bit_past, last_bits-is}

-- under the mask, the bit of the new word
pub bit_at-merged_under : (mask old new i : ℕ) → bit_at mask i ≡ 1 → bit_at (merged mask old new) i ≡ bit_at new i
bit_at-merged_under mask old new i one =
    let x = bit_at old i in
    let y = bit_at new i in
    let differ : bit_at (bit_and (bit_xor old new) mask) i ≡ bit_xor x y =
    bit_at_and (bit_xor old new) mask i
    ∙ (rw one (let small = bit_at-lt (bit_xor old new) i in let whole : min (bit_at (bit_xor old new) i) 1 ≡ bit_at (bit_xor old new) i = omega (arith, small) in whole ∙ bit_at-xor old new i)) in
    bit_at-xor old (bit_and (bit_xor old new) mask) i
    ∙ (ap (λ d. bit_xor x d) differ ∙ (sym (xor_assoc x x y) ∙ ap (λ z. bit_xor z y) (xor_self x)))

-- outside the mask, the bit of the old word
pub bit_at-merged_outside : (mask old new i : ℕ) → bit_at mask i ≡ 0 → bit_at (merged mask old new) i ≡ bit_at old i
bit_at-merged_outside mask old new i none =
    let differ : bit_at (bit_and (bit_xor old new) mask) i ≡ 0 =
    bit_at_and (bit_xor old new) mask i ∙ (rw none (omega arith)) in
    bit_at-xor old (bit_and (bit_xor old new) mask) i ∙ (ap (λ d. bit_xor (bit_at old i) d) differ ∙ xor_zero_r (bit_at old i))

-- a row laid over another is as long as itself
pub length-overlaid : (old new : List ℕ) (mask : ℕ) → length (overlaid old new mask) ≡ length new
length-overlaid old new mask = length-set new _ _

-- within the columns, the bit of the new row
pub bit-overlaid_below : (old new : List ℕ) (cols j : ℕ) → length new ≡ words_per_row cols → j < cols
    → bit (overlaid old new (2 ^ last_bits cols - 1)) j ≡ bit new j
bit-overlaid_below old new cols j long below =
    elim (cases_eq (j / 64) (length new - 1)) [
      | inl last ↦
          rw last (rw (get_or-set_same new (length new - 1) _ 0 (omega (arith, long, below)))
          (bit_at-merged_under _ _ _ (j % 64) (bit_at_ones (last_bits cols) (j % 64) (rw (last_bits-is cols) (omega (arith, last, long, below))))))
      | inr before ↦ rw (get_or-set_other new (length new - 1) (j / 64) _ 0 before) refl
    ]

-- past the columns, the bit of the old row
pub bit-overlaid_past : (old new : List ℕ) (cols j : ℕ) → length old ≡ length new → length new ≡ words_per_row cols → cols ≤ j
    → bit (overlaid old new (2 ^ last_bits cols - 1)) j ≡ bit old j
bit-overlaid_past old new cols j same long past =
    elim (cases_lt (j / 64) (length new)) [
      | inl within ↦
          let last : j / 64 ≡ length new - 1 = omega (arith, within, long, past) in
          rw last (rw (get_or-set_same new (length new - 1) _ 0 (omega (arith, within)))
          (bit_at-merged_outside _ _ _ (j % 64) (bit_at_ones_above (last_bits cols) (j % 64) (rw (last_bits-is cols) (omega (arith, last, long, past, within))))))
      | inr outside ↦
          bit_past (overlaid old new (2 ^ last_bits cols - 1)) j (rw (length-overlaid old new (2 ^ last_bits cols - 1)) outside)
          ∙ sym (bit_past old j (rw same outside))
    ]

-- a row of zeros has no bit
pub bit-zeros : (n j : ℕ) → bit (replicate n 0) j ≡ 0
bit-zeros n j =
    elim (cases_lt (j / 64) n) [
      | inl within ↦ rw (get_or-replicate {A = ℕ} n (j / 64) 0 0 within) (bit_at-zero (j % 64))
      | inr outside ↦ bit_past (replicate n 0) j (rw (length-replicate {A = ℕ} n 0) outside)
    ]

-- within the columns, a cleared row has no bit
pub bit-cleared_below : (old : List ℕ) (cols j : ℕ) → length old ≡ words_per_row cols → j < cols
    → bit (overlaid old (replicate (length old) 0) (2 ^ last_bits cols - 1)) j ≡ 0
bit-cleared_below old cols j long below =
    bit-overlaid_below old (replicate (length old) 0) cols j (length-replicate {A = ℕ} (length old) 0 ∙ long) below ∙ bit-zeros (length old) j

-- past the columns, a cleared row is as it was
pub bit-cleared_past : (old : List ℕ) (cols j : ℕ) → length old ≡ words_per_row cols → cols ≤ j
    → bit (overlaid old (replicate (length old) 0) (2 ^ last_bits cols - 1)) j ≡ bit old j
bit-cleared_past old cols j long past =
    bit-overlaid_past old (replicate (length old) 0) cols j (sym (length-replicate {A = ℕ} (length old) 0)) (length-replicate {A = ℕ} (length old) 0 ∙ long) past
