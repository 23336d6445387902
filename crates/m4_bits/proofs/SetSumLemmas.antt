-- A row that becomes the sum of two others in one pass: its words, block by block, and its last word under the mask.
use Rattle.std.proofs.Common.{◌≡◌, ◌≢◌, ℕ, ◌+◌, ◌-◌, ◌<◌, ◌≤◌, inl, inr, List, [], length, get_or, set, refl, sym, ◌∙◌, ap, arith, bit_xor}
use lib.Lanes.{zip2, chunk, put_chunk}
use Rattle.std.proofs.lemmas.List.{length-set, get_or-set_same, get_or-set_other, ext_get_or}
use Rattle.std.proofs.lemmas.Bool.{cases_eq, cases_lt}
use Rattle.std.proofs.lemmas.Simd.{length-zip2, length-chunk, get_or-zip2, get_or-chunk, get_or-put_chunk_below, get_or-put_chunk_at}
use Rattle.m4_model.specs.Matrix.{row_sum}
use Rattle.m4_bits.specs.Bits.{merged, overlaid}
use Rattle.m4_bits.proofs.BitsLemmas.{length-row_sum, get_or-row_sum}

-- the first k words are the sums of those of two rows
abbrev pub AreSums : List ℕ → List ℕ → List ℕ → ℕ → Type 0
AreSums now xs ys k = (i : ℕ) → i < k → get_or now i 0 ≡ bit_xor (get_or xs i 0) (get_or ys i 0)

-- one more block of n words is written
pub sums-more : (now xs ys : List ℕ) (k n m : ℕ) → length xs ≡ length now → length ys ≡ length now → k + n ≤ length now → m ≡ k + n
    → AreSums now xs ys k → AreSums (put_chunk k now (zip2 bit_xor (chunk k n xs) (chunk k n ys))) xs ys m
sums-more now xs ys k n m long_x long_y room next so_far i below =
    let lanes = zip2 bit_xor (chunk k n xs) (chunk k n ys) in
    let first : length (chunk k n xs) ≡ n = length-chunk k n xs (omega (arith, long_x)) in
    let second : length (chunk k n ys) ≡ n = length-chunk k n ys (omega (arith, long_y)) in
    let many : length lanes ≡ n = length-zip2 bit_xor (chunk k n xs) (chunk k n ys) (first ∙ sym second) ∙ first in
    elim (cases_lt i k) [
      | inl before ↦ get_or-put_chunk_below k now lanes i 0 before ∙ so_far i before
      | inr inside ↦
          let at : i ≡ k + (i - k) = omega (arith, inside) in
          let short : i - k < n = omega (arith, inside, below, next) in
          ap (λ p. get_or (put_chunk k now lanes) p 0) at
          ∙ get_or-put_chunk_at k now lanes (i - k) 0 (omega (arith, many, short)) (omega (arith, many))
          ∙ get_or-zip2 bit_xor (chunk k n xs) (chunk k n ys) (i - k) 0 0 0 (omega (arith, first, short)) (omega (arith, second, short))
          ∙ (λ j. bit_xor (get_or-chunk k n xs (i - k) 0 short j) (get_or-chunk k n ys (i - k) 0 short j))
          ∙ ap (λ p. bit_xor (get_or xs p 0) (get_or ys p 0)) (sym at)
    ]

-- one more word is written
pub sums-word : (now xs ys : List ℕ) (k m : ℕ) → k < length now → m ≡ k + 1 → AreSums now xs ys k
    → AreSums (set now k (bit_xor (get_or xs k 0) (get_or ys k 0))) xs ys m
sums-word now xs ys k m within next so_far i below = elim (cases_eq i k) [
  | inl here ↦ rw here (get_or-set_same now k (bit_xor (get_or xs k 0) (get_or ys k 0)) 0 within)
  | inr away ↦ get_or-set_other now k i (bit_xor (get_or xs k 0) (get_or ys k 0)) 0 away ∙ so_far i (omega (arith, below, next, away))
]

-- all words are written, the last one under the mask
pub sums-all : (old now xs ys : List ℕ) (mask end k : ℕ) → length xs ≡ length old → length ys ≡ length old → length now ≡ length old
    → end + 1 ≡ length old → end ≤ k → AreSums now xs ys k
    → set now end (merged mask (get_or old end 0) (bit_xor (get_or xs end 0) (get_or ys end 0))) ≡ overlaid old (row_sum xs ys) mask
sums-all old now xs ys mask end k long_x long_y same ends far so_far =
    let S = row_sum xs ys in
    let word = merged mask (get_or old end 0) (bit_xor (get_or xs end 0) (get_or ys end 0)) in
    let pair : length xs ≡ length ys = long_x ∙ sym long_y in
    let long : length S ≡ length old = length-row_sum xs ys ∙ long_x in
    let last : length S - 1 ≡ end = omega (arith, long, ends) in
    let laid : overlaid old S mask ≡ set S end word =
    ap (λ e. set S e (merged mask (get_or old e 0) (get_or S e 0))) last
    ∙ ap (λ w. set S end (merged mask (get_or old end 0) w)) (get_or-row_sum xs ys end pair) in
    ext_get_or 0 _ _ (length-set now end word ∙ same ∙ sym long ∙ sym (length-set S end word)) (λ i within.
    elim (cases_eq i end) [
      | inl here ↦ rw here (get_or-set_same now end word 0 (omega (arith, same, ends)) ∙ sym (get_or-set_same S end word 0 (omega (arith, long, ends))))
      | inr away ↦
          let inside : i < k = omega (arith, within, length-set now end word, same, ends, far, away) in
          get_or-set_other now end i word 0 away
          ∙ so_far i inside
          ∙ sym (get_or-set_other S end i word 0 away ∙ get_or-row_sum xs ys i pair)
    ])
    ∙ sym laid
