-- A number added to one element of a row of bits.
use Rattle.std.proofs.Common.{◌≡◌, ◌≢◌, ℕ, suc, ◌+◌, ◌-◌, ◌*◌, ◌/◌, ◌%◌, ◌^◌, ◌<◌, ◌≤◌, inl, inr, List, length, get_or, sym, ◌∙◌, ap, ap₂, arith, bit_xor, mod-eq_of_lt, cond, nat_eq}
use Rattle.std.specs.Int.{bit_at}
use Rattle.std.specs.Int.Bits.{xor_zero_r}
use Rattle.std.proofs.Math.Nat.{div-lt_iff_lt-mul, mul-mod_left}
use Rattle.std.proofs.Math.Pow.{pow_pos, pow_mono}
use Rattle.std.proofs.lemmas.Nat.{div-mul-add, div-add-mod', pow-add}
use Rattle.std.proofs.lemmas.Nat.Bits.{bit_at-zero, bit_at_above, bit_at_cat_low, bit_at_cat_high, same_from_bits_below}
use Rattle.std.proofs.lemmas.Bool.{cases_lt, cases_eq, cond-true, cond-false, eq-eqb, ne_eqb}
use Rattle.std.proofs.lemmas.List.FromFn.{get_or-map-range_with_len}
use Rattle.m4_bits.proofs.BitsLemmas.{bit_at-xor}
use Rattle.m4_mzd.specs.Rows.{with_word}
use Rattle.m4_mzed.specs.Words.{element}
use Rattle.m4_mzed.proofs.WordLemmas.{element-lt, bit_at-element}
use Rattle.m4_mzed.proofs.SumLemmas.{told_bit, place_element, place_bit}

times_le : (a b k : ℕ) → a ≤ b → a * k ≤ b * k
times_le a b k le = grind arith

next : (i j k : ℕ) → i < j → i * k + k ≤ j * k
next i j k less = let e = times_le (suc i) j k less in let f : suc i * k ≡ i * k + k = omega arith in omega (arith, e, f)

-- the elements of a shifted number
pub element_shifted : (k at i d : ℕ) → d < 2 ^ k → element k i (d * 2 ^ (at * k)) ≡ cond (nat_eq i at) d 0
element_shifted k at i d small = elim (cases_eq i at) [
  | inl here ↦
      same_from_bits_below k _ d (element-lt k i _) small (λ v v_below.
      let e : i * k + v ≡ at * k + v = ap (λ n. n * k + v) here in
      let back : at * k + v - at * k ≡ v = omega arith in
      bit_at-element k i (d * 2 ^ (at * k)) v v_below ∙ ap (bit_at (d * 2 ^ (at * k))) e
      ∙ ap (λ n. bit_at n (at * k + v)) (plus_zero (d * 2 ^ (at * k)))
      ∙ bit_at_cat_high d (at * k) 0 (at * k + v) (pow_pos (at * k)) (omega arith) ∙ ap (bit_at d) back)
      ∙ sym (cond-true _ d 0 (eq-eqb i at here))
  | inr away ↦
      same_from_bits_below k _ 0 (element-lt k i _) (pow_pos k) (λ v v_below.
      bit_at-element k i (d * 2 ^ (at * k)) v v_below ∙ ap (λ n. bit_at n (i * k + v)) (plus_zero (d * 2 ^ (at * k)))
      ∙ (elim (cases_lt i at) [
        | inl before ↦ bit_at_cat_low d (at * k) 0 (i * k + v) (let m = next i at k before in omega (arith, m, v_below))
        | inr behind ↦
            let m = next at i k (omega (arith, away, behind)) in
            bit_at_cat_high d (at * k) 0 (i * k + v) (pow_pos (at * k)) (omega (arith, m))
            ∙ bit_at_above d k (i * k + v - at * k) small (omega (arith, m)) ∙ sym (bit_at-zero (i * k + v))
      ]) ∙ none (i * k + v) v)
      ∙ sym (cond-false _ d 0 (ne_eqb i at away))
]
  where
    plus_zero : (n : ℕ) → n ≡ n + 0
    plus_zero n = omega arith

    none : (a b : ℕ) → bit_at 0 a ≡ bit_at 0 b
    none a b = bit_at-zero a ∙ sym (bit_at-zero b)

module _ (k m : ℕ) (whole : m * k ≡ 64) (some : 0 < k) (c : ℕ) where
  -- the word of element c, and its place in it
  place_parts : c * k ≡ (c * k / 64) * 64 + c * k % 64
  place_parts = omega arith

  c_is : c ≡ (c * k / 64) * m + c * k % 64 / k
  c_is = sym (ap (λ n. n / k) (let e : c * k ≡ c * k + 0 = omega arith in e) ∙ div-mul-add c k 0 some) ∙ ap (λ n. n / k) place_parts ∙ place_element k m whole (c * k / 64) (c * k % 64)

  shift_is : c * k % 64 ≡ c * k % 64 / k * k
  shift_is =
      let r : c * k % 64 % k ≡ 0 = sym (place_bit k m whole (c * k / 64) (c * k % 64)) ∙ ap (λ n. n % k) (sym place_parts) ∙ times_mod c k in
      let d = div-add-mod' (c * k % 64) k in
      omega (arith, r, d)
    where
      times_mod : (c k : ℕ) → c * k % k ≡ 0
      times_mod c k = mul-mod_left c k

  pub told : ℕ → ℕ → ℕ
  told d e = cond (nat_eq e c) d 0

  -- a bit of the shifted number
  pub shifted_bit : (d q : ℕ) → d < 2 ^ k → q < 64 → bit_at (d * 2 ^ (c * k % 64)) q ≡ bit_at (cond (nat_eq ((c * k / 64 * 64 + q) / k) c) d 0) ((c * k / 64 * 64 + q) % k)
  shifted_bit d q small below =
      told_bit k m whole (λ e. cond (nat_eq e c) d 0) (c * k / 64) (d * 2 ^ (c * k % 64)) (λ i i_below.
      ap (λ s. element k i (d * 2 ^ s)) shift_is ∙ element_shifted k (c * k % 64 / k) i d small ∙ same i) q below
    where
      same : (i : ℕ) → cond (nat_eq i (c * k % 64 / k)) d 0 ≡ cond (nat_eq (c * k / 64 * m + i) c) d 0
      same i = elim (cases_eq i (c * k % 64 / k)) [
        | inl here ↦ cond-true _ d 0 (eq-eqb i _ here) ∙ sym (cond-true _ d 0 (eq-eqb (c * k / 64 * m + i) c (ap (λ n. c * k / 64 * m + n) here ∙ sym c_is)))
        | inr away ↦ cond-false _ d 0 (ne_eqb i _ away) ∙ sym (cond-false _ d 0 (ne_eqb (c * k / 64 * m + i) c (λ is. away (let e = c_is in omega (arith, is, e)))))
      ]

  pub shift_room : c * k % 64 + k ≤ 64
  shift_room =
      let i = c * k % 64 / k in
      let below : i < m = (div-lt_iff_lt-mul some).1 (let w = whole in omega (arith, w)) in
      let t : i * k + k ≤ m * k = next i m k below in
      let s = shift_is in
      omega (arith, t, s, whole)

  -- the row with the number added there
  pub added_bit : (d limit : ℕ) (row : List ℕ) (word p : ℕ) → d < 2 ^ k → length row ≡ limit → ((j : ℕ) → j < 64 → bit_at word j ≡ get_or row (c * k / 64 * 64 + j) 0) → p < limit
      → get_or (with_word (c * k / 64) (bit_xor word (d * 2 ^ (c * k % 64))) row) p 0 ≡ bit_xor (get_or row p 0) (bit_at (cond (nat_eq (p / k) c) d 0) (p % k))
  added_bit d limit row word p small long reads inside =
      get_or-map-range_with_len _ 0 (length row) p p 0 (omega (arith, long, inside)) (omega arith)
      ∙ (elim (cases_eq (p / 64) (c * k / 64)) [
        | inl here ↦
            let q_small : p % 64 < 64 = omega arith in
            let place : c * k / 64 * 64 + p % 64 ≡ p = omega (arith, here) in
            cond-true _ _ _ (eq-eqb (p / 64) (c * k / 64) here) ∙ bit_at-xor word (d * 2 ^ (c * k % 64)) (p % 64)
            ∙ ap₂ bit_xor (reads (p % 64) q_small ∙ ap (λ n. get_or row n 0) place)
            (shifted_bit d (p % 64) small q_small ∙ ap (λ n. bit_at (cond (nat_eq (n / k) c) d 0) (n % k)) place)
        | inr away ↦
            let off : p / k ≢ c = λ is. away (sym (word_of p is)) in
            cond-false _ _ _ (ne_eqb (p / 64) (c * k / 64) away)
            ∙ sym (ap (λ x. bit_xor (get_or row p 0) (bit_at x (p % k))) (cond-false _ d 0 (ne_eqb (p / k) c off)) ∙ ap (bit_xor (get_or row p 0)) (bit_at-zero (p % k)) ∙ xor_zero_r (get_or row p 0))
      ])
    where
      word_of : (p : ℕ) → p / k ≡ c → c * k / 64 ≡ p / 64
      word_of p is =
          let d : p ≡ c * k + p % k = sym (div-add-mod' p k) ∙ ap (λ n. n * k + p % k) is in
          let r : p % k < k = let s = some in omega arith in
          let room = shift_room in
          omega (arith, d, r, room)

  pub shifted_fits : (d : ℕ) → d < 2 ^ k → d * 2 ^ (c * k % 64) % 2 ^ 64 ≡ d * 2 ^ (c * k % 64)
  shifted_fits d small =
      let room = shift_room in
      let p = pow-add 2 k (c * k % 64) in
      let m = pow_mono {i = k + c * k % 64} {j = 64} (omega (arith, room)) in
      let q = pow_pos (c * k % 64) in
      mod-eq_of_lt (below d (2 ^ k) (2 ^ (c * k % 64)) (2 ^ (k + c * k % 64)) (2 ^ 64) small q p m)
    where
      lt : (d a b : ℕ) → d < a → 0 < b → d * b < a * b
      lt d a b less some = grind arith

      below : (d a b ab n : ℕ) → d < a → 0 < b → ab ≡ a * b → ab ≤ n → d * b < n
      below d a b ab n less some is le = let l = lt d a b less some in omega (arith, l, is, le)
