-- Products of words added to a row from a column on: its words, and the bits of the column's word.
use Rattle.std.proofs.Common.{◌≡◌, ℕ, ◌+◌, ◌-◌, ◌*◌, ◌/◌, ◌%◌, ◌^◌, ◌<◌, ◌≤◌, inl, inr, List, length, get_or, set, map, sym, ◌∙◌, ap, arith, bit_xor, bit_and}
use Rattle.std.specs.Int.{bit_at}
use Rattle.std.proofs.lemmas.Nat.Bits.{bit_at_mask_inside, bit_at_mask_below, ones_shl}
use Rattle.std.proofs.lemmas.List.{length-set, length-map, get_or-map, get_or-set_same, get_or-set_other}
use Rattle.std.proofs.lemmas.Bool.{cases_eq, cases_lt}
use Rattle.m4_model.specs.Matrix.{row_sum}
use Rattle.m4_model.proofs.Polynomials.{xor_twice}
use Rattle.m4_bits.specs.Bits.{bit, masked, merged}
use Rattle.m4_bits.specs.Products.{products, row_products}
use Rattle.m4_bits.proofs.BitsLemmas.{length-row_sum, get_or-row_sum, length-masked, bit_past}
use Rattle.m4_bits.proofs.OverlaidLemmas.{bit_at-merged_under, bit_at-merged_outside}

-- What was done: the products were added to the words from the column's word on, which are then the words `mid`; the last word
-- was written anew under its mask, and the bits before the column were put back into its word.
pub record Made (n low : ℕ) (patterns old src : List ℕ) (first last : ℕ) (mid : List ℕ) (tail head : ℕ) : Type 0 where
  pub same : length old ≡ length src
  pub within : first / 64 < length old
  pub long : length mid ≡ length old
  pub added : (k : ℕ) → first / 64 ≤ k → k < length old → get_or mid k 0 ≡ bit_xor (get_or old k 0) (products n low patterns (get_or src k 0))
  pub kept : (k : ℕ) → k < first / 64 → get_or mid k 0 ≡ get_or old k 0
  pub tail_is : tail ≡ merged last (get_or old (length old - 1) 0) (bit_xor (get_or old (length old - 1) 0) (products n low patterns (bit_and (get_or src (length old - 1) 0) last)))
  pub head_is : head ≡ merged (18446744073709551615 * 2 ^ (first % 64) % 18446744073709551616) (get_or old (first / 64) 0) (get_or (set mid (length old - 1) tail) (first / 64) 0)

module _ (n low : ℕ) (patterns old src : List ℕ) (first last : ℕ) (mid : List ℕ) (tail head : ℕ) (h : Made n low patterns old src first last mid tail head) where
  f : ℕ → ℕ
  f = products n low patterns

  pub length-sources : length (masked (row_products n low patterns src last) last) ≡ length old
  length-sources = length-masked (row_products n low patterns src last) last ∙ length-map (masked src last) (products n low patterns) ∙ length-masked src last ∙ sym h.same

  many : length (row_products n low patterns src last) ≡ length old
  many = length-map (masked src last) (products n low patterns) ∙ length-masked src last ∙ sym h.same

  -- the words of the sources
  source_inside : (q : ℕ) → q < length old → (q ≡ length old - 1 → ⊥) → get_or (masked (row_products n low patterns src last) last) q 0 ≡ products n low patterns (get_or src q 0)
  source_inside q below away =
      let s = h.same in
      get_or-set_other (row_products n low patterns src last) (length (row_products n low patterns src last) - 1) q _ 0 (λ is. away (omega (arith, is, many)))
      ∙ get_or-map (products n low patterns) (masked src last) q 0 0 (omega (arith, below, s, length-masked src last))
      ∙ ap (products n low patterns) (get_or-set_other src (length src - 1) q _ 0 (λ is. away (omega (arith, is, s))))

  source_last : get_or (masked (row_products n low patterns src last) last) (length old - 1) 0 ≡ bit_and (products n low patterns (bit_and (get_or src (length old - 1) 0) last)) last
  source_last =
      let s = h.same in
      let w = h.within in
      let end : length (row_products n low patterns src last) - 1 ≡ length old - 1 = omega (arith, many) in
      let end' : length src - 1 ≡ length old - 1 = omega (arith, s) in
      ap (λ k. get_or (masked (row_products n low patterns src last) last) k 0) (sym end)
      ∙ get_or-set_same (row_products n low patterns src last) (length (row_products n low patterns src last) - 1) _ 0 (omega (arith, many, w))
      ∙ ap (λ k. bit_and (get_or (row_products n low patterns src last) k 0) last) end
      ∙ ap (λ x. bit_and x last)
      (get_or-map (products n low patterns) (masked src last) (length old - 1) 0 0 (omega (arith, w, s, length-masked src last))
      ∙ ap (products n low patterns)
      (ap (λ k. get_or (masked src last) k 0) (sym end')
      ∙ get_or-set_same src (length src - 1) _ 0 (omega (arith, s, w))
      ∙ ap (λ k. bit_and (get_or src k 0) last) end'))

  -- a word from the column's word on is the sum
  sum_word : (q : ℕ) → first / 64 ≤ q → q < length old → get_or (set mid (length old - 1) tail) q 0 ≡ get_or (row_sum old (masked (row_products n low patterns src last) last)) q 0
  sum_word q from below = elim (cases_eq q (length old - 1)) [
    | inl here ↦
        let o = get_or old (length old - 1) 0 in
        let F = products n low patterns (bit_and (get_or src (length old - 1) 0) last) in
        ap (λ k. get_or (set mid (length old - 1) tail) k 0) here
        ∙ get_or-set_same mid (length old - 1) tail 0 (let l = h.long in omega (arith, l, below))
        ∙ h.tail_is
        ∙ ap (λ x. bit_xor o (bit_and x last)) (xor_twice o F)
        ∙ ap (bit_xor o) (sym source_last)
        ∙ sym (get_or-row_sum old (masked (row_products n low patterns src last) last) (length old - 1) (sym length-sources))
        ∙ ap (λ k. get_or (row_sum old (masked (row_products n low patterns src last) last)) k 0) (sym here)
    | inr away ↦
        get_or-set_other mid (length old - 1) q tail 0 away ∙ h.added q from below
        ∙ ap (bit_xor (get_or old q 0)) (sym (source_inside q below away))
        ∙ sym (get_or-row_sum old (masked (row_products n low patterns src last) last) q (sym length-sources))
  ]

  -- and one before it is as it was
  old_word : (q : ℕ) → q < first / 64 → get_or (set mid (length old - 1) tail) q 0 ≡ get_or old q 0
  old_word q before = get_or-set_other mid (length old - 1) q tail 0 (let w = h.within in λ is. omega (arith, is, w, before)) ∙ h.kept q before

  high-is : 18446744073709551615 * 2 ^ (first % 64) % 18446744073709551616 ≡ 2 ^ 64 - 2 ^ (first % 64)
  high-is = ones_shl 64 (first % 64) (omega arith)

  length-after : length (set mid (length old - 1) tail) ≡ length old
  length-after = length-set mid (length old - 1) tail ∙ h.long

  pub bit-products_added : (k : ℕ) → first ≤ k → bit (set (set mid (length old - 1) tail) (first / 64) head) k ≡ bit (row_sum old (masked (row_products n low patterns src last) last)) k
  bit-products_added k from =
      let p = first / 64 in
      let after = set mid (length old - 1) tail in
      let total = row_sum old (masked (row_products n low patterns src last) last) in
      let w = h.within in
      elim (cases_lt (k / 64) (length old)) [
        | inl inside ↦ elim (cases_eq (k / 64) p) [
          | inl here ↦
              let one : bit_at (18446744073709551615 * 2 ^ (first % 64) % 18446744073709551616) (k % 64) ≡ 1 =
              ap (λ m. bit_at m (k % 64)) high-is ∙ bit_at_mask_inside (first % 64) 64 (k % 64) (omega (arith, from, here)) (omega arith) in
              ap (λ q. bit_at (get_or (set after p head) q 0) (k % 64)) here
              ∙ ap (λ v. bit_at v (k % 64)) (get_or-set_same after p head 0 (omega (arith, length-after, w)) ∙ h.head_is)
              ∙ bit_at-merged_under _ (get_or old p 0) (get_or after p 0) (k % 64) one
              ∙ ap (λ v. bit_at v (k % 64)) (sum_word p (omega arith) w)
              ∙ ap (λ q. bit_at (get_or total q 0) (k % 64)) (sym here)
          | inr away ↦
              ap (λ v. bit_at v (k % 64)) (get_or-set_other after p (k / 64) head 0 away ∙ sum_word (k / 64) (omega (arith, from)) inside)
        ]
        | inr outside ↦
            bit_past (set after p head) k (omega (arith, length-set after p head, length-after, outside))
            ∙ sym (bit_past total k (omega (arith, length-row_sum old (masked (row_products n low patterns src last) last), outside)))
      ]

  pub bit-products_kept : (k : ℕ) → k < first → bit (set (set mid (length old - 1) tail) (first / 64) head) k ≡ bit old k
  bit-products_kept k before =
      let p = first / 64 in
      let after = set mid (length old - 1) tail in
      let w = h.within in
      elim (cases_eq (k / 64) p) [
        | inl here ↦
            let none : bit_at (18446744073709551615 * 2 ^ (first % 64) % 18446744073709551616) (k % 64) ≡ 0 =
            ap (λ m. bit_at m (k % 64)) high-is ∙ bit_at_mask_below (first % 64) 64 (k % 64) (omega (arith, before, here)) in
            ap (λ q. bit_at (get_or (set after p head) q 0) (k % 64)) here
            ∙ ap (λ v. bit_at v (k % 64)) (get_or-set_same after p head 0 (omega (arith, length-after, w)) ∙ h.head_is)
            ∙ bit_at-merged_outside _ (get_or old p 0) (get_or after p 0) (k % 64) none
            ∙ ap (λ q. bit_at (get_or old q 0) (k % 64)) (sym here)
        | inr away ↦
            ap (λ v. bit_at v (k % 64)) (get_or-set_other after p (k / 64) head 0 away ∙ old_word (k / 64) (omega (arith, before, away)))
      ]
