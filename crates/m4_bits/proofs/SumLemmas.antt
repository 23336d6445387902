-- Several rows added to one in one pass: the words of the sum, block by block, and its last word under the mask.
use Rattle.std.proofs.Common.{◌≡◌, ◌≢◌, ℕ, ◌+◌, ◌-◌, ◌^◌, ◌<◌, ◌≤◌, inl, inr, List, [], ◌∷◌, length, get_or, set, refl, sym, ◌∙◌, ap, arith, bit_xor, bit_and}
use lib.Lanes.{zip2, chunk, put_chunk}
use Rattle.std.proofs.lemmas.List.{length-set, get_or-set_same, get_or-set_other, ext_get_or}
use Rattle.std.proofs.lemmas.Bool.{cases_eq, cases_lt}
use Rattle.std.proofs.lemmas.Simd.{length-zip2, length-chunk, get_or-zip2, get_or-chunk, get_or-put_chunk_below, get_or-put_chunk_at, get_or-put_chunk_above}
use Rattle.m4_model.specs.Matrix.{row_sum}
use Rattle.m4_model.specs.Text.{words_per_row}
use Rattle.m4_bits.specs.Bits.{bit, last_bits, masked, rows_added}
use Rattle.m4_bits.proofs.BitsLemmas.{length-row_sum, get_or-row_sum, length-masked, bit-sum_masked_below, bit-sum_masked_past}

-- rows of n words each
abbrev pub AllLong : ℕ → List (List ℕ) → Type 0
AllLong n [] = Unit {0}
AllLong n (x ∷ xs) = (length x ≡ n) × AllLong n xs

-- a word with word i of each row added
abbrev pub word_added : ℕ → List (List ℕ) → ℕ → ℕ
word_added w [] i = w
word_added w (x ∷ xs) i = word_added (bit_xor w (get_or x i 0)) xs i

-- the same, with the bits of the mask alone of those words
abbrev pub word_added_under : ℕ → ℕ → List (List ℕ) → ℕ → ℕ
word_added_under mask w [] i = w
word_added_under mask w (x ∷ xs) i = word_added_under mask (bit_xor w (bit_and (get_or x i 0) mask)) xs i

-- n lanes with n words of each row from word k on added
abbrev pub lanes_added : List ℕ → List (List ℕ) → ℕ → ℕ → List ℕ
lanes_added v [] k n = v
lanes_added v (x ∷ xs) k n = lanes_added (zip2 bit_xor v (chunk k n x)) xs k n

-- the first k words have the rows added, and the others are as they were
pub record Added (old now : List ℕ) (xs : List (List ℕ)) (k : ℕ) : Type 0 where
  pub added : (i : ℕ) → i < k → get_or now i 0 ≡ word_added (get_or old i 0) xs i
  pub kept : (i : ℕ) → k ≤ i → get_or now i 0 ≡ get_or old i 0

pub length-lanes_added : (v : List ℕ) (xs : List (List ℕ)) (k n long : ℕ) → length v ≡ n → AllLong long xs → k + n ≤ long
    → length (lanes_added v xs k n) ≡ n
length-lanes_added v [] k n long is all room = is
length-lanes_added v (x ∷ xs) k n long is all room =
    let same : length v ≡ length (chunk k n x) = is ∙ sym (length-chunk k n x (omega (arith, all.0))) in
    length-lanes_added (zip2 bit_xor v (chunk k n x)) xs k n long (length-zip2 bit_xor v (chunk k n x) same ∙ is) all.1 room

pub get_or-lanes_added : (v : List ℕ) (xs : List (List ℕ)) (k n long j : ℕ) → length v ≡ n → AllLong long xs → k + n ≤ long → j < n
    → get_or (lanes_added v xs k n) j 0 ≡ word_added (get_or v j 0) xs (k + j)
get_or-lanes_added v [] k n long j is all room within = refl
get_or-lanes_added v (x ∷ xs) k n long j is all room within =
    let chunked : length (chunk k n x) ≡ n = length-chunk k n x (omega (arith, all.0)) in
    let lane : get_or (zip2 bit_xor v (chunk k n x)) j 0 ≡ bit_xor (get_or v j 0) (get_or x (k + j) 0) =
    get_or-zip2 bit_xor v (chunk k n x) j 0 0 0 (omega (arith, is)) (omega (arith, chunked))
    ∙ ap (λ w. bit_xor (get_or v j 0) w) (get_or-chunk k n x j 0 within) in
    get_or-lanes_added (zip2 bit_xor v (chunk k n x)) xs k n long j (length-zip2 bit_xor v (chunk k n x) (is ∙ sym chunked) ∙ is) all.1 room within
    ∙ ap (λ w. word_added w xs (k + j)) lane

-- one more block of n words is added
pub added-more : (old now : List ℕ) (xs : List (List ℕ)) (k n m : ℕ) → AllLong (length old) xs → length now ≡ length old
    → k + n ≤ length old → m ≡ k + n → Added old now xs k → Added old (put_chunk k now (lanes_added (chunk k n now) xs k n)) xs m
added-more old now xs k n m all same room next so_far =
    let v = chunk k n now in
    let lanes = lanes_added v xs k n in
    let many : length v ≡ n = length-chunk k n now (omega (arith, same)) in
    let long : length lanes ≡ n = length-lanes_added v xs k n (length old) many all room in
    record {
      added = λ i below. elim (cases_lt i k) [
        | inl before ↦ get_or-put_chunk_below k now lanes i 0 before ∙ so_far.added i before
        | inr inside ↦
            let at : i ≡ k + (i - k) = omega (arith, inside) in
            let short : i - k < n = omega (arith, inside, below, next) in
            ap (λ p. get_or (put_chunk k now lanes) p 0) at
            ∙ get_or-put_chunk_at k now lanes (i - k) 0 (omega (arith, long, short)) (omega (arith, long, same))
            ∙ get_or-lanes_added v xs k n (length old) (i - k) many all room short
            ∙ ap (λ w. word_added w xs (k + (i - k))) (get_or-chunk k n now (i - k) 0 short)
            ∙ ap (λ p. word_added (get_or now p 0) xs p) (sym at)
            ∙ ap (λ w. word_added w xs i) (so_far.kept i inside)
      ];
      kept = λ i past. get_or-put_chunk_above k now lanes i 0 (omega (arith, long, past, next)) ∙ so_far.kept i (omega (arith, past, next));
    }

-- one more word is added
pub added-word : (old now : List ℕ) (xs : List (List ℕ)) (k m : ℕ) → k < length now → m ≡ k + 1 → Added old now xs k
    → Added old (set now k (word_added (get_or now k 0) xs k)) xs m
added-word old now xs k m within next so_far = record {
  added = λ i below. elim (cases_eq i k) [
    | inl here ↦
        rw here (get_or-set_same now k (word_added (get_or now k 0) xs k) 0 within ∙ ap (λ w. word_added w xs k) (so_far.kept k (omega arith)))
    | inr away ↦ get_or-set_other now k i (word_added (get_or now k 0) xs k) 0 away ∙ so_far.added i (omega (arith, below, next, away))
  ];
  kept = λ i past.
      get_or-set_other now k i (word_added (get_or now k 0) xs k) 0 (λ is. omega (arith, is, past, next)) ∙ so_far.kept i (omega (arith, past, next));
}

pub length-rows_added : (row : List ℕ) (xs : List (List ℕ)) (mask : ℕ) → length (rows_added row xs mask) ≡ length row
length-rows_added row [] mask = refl
length-rows_added row (x ∷ xs) mask =
    length-rows_added (row_sum row (masked x mask)) xs mask ∙ length-row_sum row (masked x mask)

-- the words of the sum before the last
pub get_or-rows_added : (row : List ℕ) (xs : List (List ℕ)) (mask n i : ℕ) → length row ≡ n → AllLong n xs → i ≢ n - 1
    → get_or (rows_added row xs mask) i 0 ≡ word_added (get_or row i 0) xs i
get_or-rows_added row [] mask n i is all away = refl
get_or-rows_added row (x ∷ xs) mask n i is all away =
    let last : length x - 1 ≡ n - 1 = ap (λ m. m - 1) all.0 in
    let long : length row ≡ length (masked x mask) = is ∙ sym (length-masked x mask ∙ all.0) in
    let word : get_or (row_sum row (masked x mask)) i 0 ≡ bit_xor (get_or row i 0) (get_or x i 0) =
    get_or-row_sum row (masked x mask) i long
    ∙ ap (λ w. bit_xor (get_or row i 0) w) (get_or-set_other x (length x - 1) i _ 0 (λ here. away (here ∙ last))) in
    get_or-rows_added (row_sum row (masked x mask)) xs mask n i (length-row_sum row (masked x mask) ∙ is) all.1 away
    ∙ ap (λ w. word_added w xs i) word

-- the last word of the sum
pub get_or-rows_added_last : (row : List ℕ) (xs : List (List ℕ)) (mask n i : ℕ) → length row ≡ n → AllLong n xs → i + 1 ≡ n
    → get_or (rows_added row xs mask) i 0 ≡ word_added_under mask (get_or row i 0) xs i
get_or-rows_added_last row [] mask n i is all last = refl
get_or-rows_added_last row (x ∷ xs) mask n i is all last =
    let here : length x - 1 ≡ i = omega (arith, all.0, last) in
    let long : length row ≡ length (masked x mask) = is ∙ sym (length-masked x mask ∙ all.0) in
    let under : get_or (masked x mask) i 0 ≡ bit_and (get_or x i 0) mask =
    rw here (get_or-set_same x i (bit_and (get_or x i 0) mask) 0 (omega (arith, all.0, last))) in
    let word : get_or (row_sum row (masked x mask)) i 0 ≡ bit_xor (get_or row i 0) (bit_and (get_or x i 0) mask) =
    get_or-row_sum row (masked x mask) i long ∙ ap (λ w. bit_xor (get_or row i 0) w) under in
    get_or-rows_added_last (row_sum row (masked x mask)) xs mask n i (length-row_sum row (masked x mask) ∙ is) all.1 last
    ∙ ap (λ w. word_added_under mask w xs i) word

-- all words are added, the last one under the mask
pub added-all : (old now : List ℕ) (xs : List (List ℕ)) (mask end k : ℕ) → AllLong (length old) xs → length now ≡ length old
    → end + 1 ≡ length old → end ≤ k → Added old now xs k
    → set now end (word_added_under mask (get_or old end 0) xs end) ≡ rows_added old xs mask
added-all old now xs mask end k all same ends far so_far =
    let word = word_added_under mask (get_or old end 0) xs end in
    let long : length (set now end word) ≡ length old = length-set now end word ∙ same in
    ext_get_or 0 _ _ (long ∙ sym (length-rows_added old xs mask)) (λ i within.
    elim (cases_eq i end) [
      | inl here ↦
          rw here
          (get_or-set_same now end word 0 (omega (arith, same, ends)) ∙ sym (get_or-rows_added_last old xs mask (length old) end refl all ends))
      | inr away ↦
          get_or-set_other now end i word 0 away
          ∙ so_far.added i (omega (arith, within, long, ends, far, away))
          ∙ sym (get_or-rows_added old xs mask (length old) i refl all (λ is. away (omega (arith, is, ends))))
    ])

-- bit j with bit j of each row added
abbrev pub bit_added : ℕ → List (List ℕ) → ℕ → ℕ
bit_added b [] j = b
bit_added b (x ∷ xs) j = bit_added (bit_xor b (bit x j)) xs j

-- a bit of the columns of rows added to a row is the sum of the bits
pub bit-rows_added_below : (row : List ℕ) (xs : List (List ℕ)) (cols j : ℕ) → length row ≡ words_per_row cols
    → AllLong (words_per_row cols) xs → j < cols → bit (rows_added row xs (2 ^ last_bits cols - 1)) j ≡ bit_added (bit row j) xs j
bit-rows_added_below row [] cols j is all below = refl
bit-rows_added_below row (x ∷ xs) cols j is all below =
    let mask = 2 ^ last_bits cols - 1 in
    bit-rows_added_below (row_sum row (masked x mask)) xs cols j (length-row_sum row (masked x mask) ∙ is) all.1 below
    ∙ ap (λ b. bit_added b xs j) (bit-sum_masked_below row x cols j (is ∙ sym all.0) all.0 below)

-- a bit past the columns stays where rows are added
pub bit-rows_added_past : (row : List ℕ) (xs : List (List ℕ)) (cols j : ℕ) → length row ≡ words_per_row cols
    → AllLong (words_per_row cols) xs → cols ≤ j → bit (rows_added row xs (2 ^ last_bits cols - 1)) j ≡ bit row j
bit-rows_added_past row [] cols j is all past = refl
bit-rows_added_past row (x ∷ xs) cols j is all past =
    let mask = 2 ^ last_bits cols - 1 in
    bit-rows_added_past (row_sum row (masked x mask)) xs cols j (length-row_sum row (masked x mask) ∙ is) all.1 past
    ∙ bit-sum_masked_past row x cols j (is ∙ sym all.0) all.0 past
