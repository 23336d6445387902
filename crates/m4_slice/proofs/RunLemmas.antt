-- Words whose bits stand in runs that lie far apart, and the steps that bring the runs together or take them apart.
use Rattle.std.proofs.Common.{eqb, ◌≡◌, ℕ, zero, suc, ◌+◌, ◌-◌, ◌*◌, ◌/◌, ◌%◌, ◌^◌, ◌<◌, ◌≤◌, min, max, inl, inr, cond, nat_lt, Bool, true, ◌&&◌, refl, sym, ◌∙◌, ap, arith, bit_and, bit_or, mod-eq_of_lt}
use Rattle.std.specs.Int.{bit_at}
use Rattle.std.proofs.Math.Nat.{mul-add-mod_self_right}
use Rattle.std.proofs.lemmas.Nat.Bits.{bit_at_and, bit_at_or, bit_at_above, bit_at-lt}
use Rattle.std.proofs.lemmas.Bool.{cases_lt, cases_eq, cond-true, cond-false, lt-ltb, le-ltb, eqb-true, and_parts}
use Rattle.m4_bits.proofs.TransposeLemmas.{bit_at-shr, bit_at-mod, bit_at-shl_low, bit_at-shl_high}
use Rattle.m4_slice.specs.Gathered.{IsGathered, IsSpread}

-- of each p of the first n p bits of x the first g are the next ones of f, and the others are 0
pub record InRuns (n g p : ℕ) (f : ℕ → ℕ) (x : ℕ) : Type 0 where
  pub inside : (q r : ℕ) → q < n → r < g → bit_at x (q * p + r) ≡ f (q * g + r)
  pub outside : (q r : ℕ) → q < n → g ≤ r → r < p → bit_at x (q * p + r) ≡ 0

abbrev pub AreOnes : ℕ → ℕ → ℕ → ℕ → Type 0
AreOnes n g p m = InRuns n g p (λ _. 1) m

-- ---- masks
run_bit : ℕ → ℕ → ℕ → ℕ
run_bit g p k = cond (nat_lt (k % p) g) 1 0

ones_in : ℕ → ℕ → ℕ → ℕ → Bool
ones_in g p m zero = true
ones_in g p m (suc k) = eqb (bit_at m k) (run_bit g p k) && ones_in g p m k

ones_in-true : (g p m n k : ℕ) → ones_in g p m n ≡ true → k < n → bit_at m k ≡ run_bit g p k
unfolding ones_in
ones_in-true g p m zero k is below = absurd (omega arith)
ones_in-true g p m (suc n) k is below =
    let parts = and_parts (eqb (bit_at m n) (run_bit g p n)) (ones_in g p m n) is in
    elim (cases_eq k n) [
      | inl here ↦ rw here (eqb-true (bit_at m n) (run_bit g p n) parts.0)
      | inr other ↦ ones_in-true g p m n k parts.1 (omega (arith, other))
    ]

next_le : (q n p : ℕ) → q < n → q * p + p ≤ n * p
next_le q n p less = grind arith

are_ones : (n g p m : ℕ) → g ≤ p → n * p ≡ 64 → ones_in g p m 64 ≡ true → AreOnes n g p m
unfolding run_bit
are_ones n g p m short whole is = record {
  inside = λ q r q_below r_below.
      let e = next_le q n p q_below in
      ones_in-true g p m 64 (q * p + r) is (omega (arith, e, whole, short, r_below))
      ∙ ap (λ k. cond (nat_lt k g) 1 0) (mul-add-mod_self_right q p r ∙ mod-eq_of_lt (omega (arith, r_below, short))) ∙ cond-true _ _ _ (lt-ltb r g r_below);
  outside = λ q r q_below past within.
      let e = next_le q n p q_below in
      ones_in-true g p m 64 (q * p + r) is (omega (arith, e, whole, within))
      ∙ ap (λ k. cond (nat_lt k g) 1 0) (mul-add-mod_self_right q p r ∙ mod-eq_of_lt within) ∙ cond-false _ _ _ (le-ltb r g past);
}

-- the masks
pub one_of_2 : AreOnes 32 1 2 0x5555555555555555
unfolding ones_in run_bit
one_of_2 = are_ones 32 1 2 0x5555555555555555 (omega arith) refl refl

pub two_of_4 : AreOnes 16 2 4 0x3333333333333333
unfolding ones_in run_bit
two_of_4 = are_ones 16 2 4 0x3333333333333333 (omega arith) refl refl

pub four_of_8 : AreOnes 8 4 8 0xF0F0F0F0F0F0F0F
unfolding ones_in run_bit
four_of_8 = are_ones 8 4 8 0xF0F0F0F0F0F0F0F (omega arith) refl refl

pub eight_of_16 : AreOnes 4 8 16 0xFF00FF00FF00FF
unfolding ones_in run_bit
eight_of_16 = are_ones 4 8 16 0xFF00FF00FF00FF (omega arith) refl refl

pub sixteen_of_32 : AreOnes 2 16 32 0xFFFF0000FFFF
unfolding ones_in run_bit
sixteen_of_32 = are_ones 2 16 32 0xFFFF0000FFFF (omega arith) refl refl

pub first_32 : AreOnes 1 32 64 0xFFFFFFFF
unfolding ones_in run_bit
first_32 = are_ones 1 32 64 0xFFFFFFFF (omega arith) refl refl

pub one_of_4 : AreOnes 16 1 4 0x1111111111111111
unfolding ones_in run_bit
one_of_4 = are_ones 16 1 4 0x1111111111111111 (omega arith) refl refl

pub two_of_8 : AreOnes 8 2 8 0x303030303030303
unfolding ones_in run_bit
two_of_8 = are_ones 8 2 8 0x303030303030303 (omega arith) refl refl

pub four_of_16 : AreOnes 4 4 16 0xF000F000F000F
unfolding ones_in run_bit
four_of_16 = are_ones 4 4 16 0xF000F000F000F (omega arith) refl refl

pub eight_of_32 : AreOnes 2 8 32 0xFF000000FF
unfolding ones_in run_bit
eight_of_32 = are_ones 2 8 32 0xFF000000FF (omega arith) refl refl

pub first_16 : AreOnes 1 16 64 0xFFFF
unfolding ones_in run_bit
first_16 = are_ones 1 16 64 0xFFFF (omega arith) refl refl

pub one_of_8 : AreOnes 8 1 8 0x101010101010101
unfolding ones_in run_bit
one_of_8 = are_ones 8 1 8 0x101010101010101 (omega arith) refl refl

pub two_of_16 : AreOnes 4 2 16 0x3000300030003
unfolding ones_in run_bit
two_of_16 = are_ones 4 2 16 0x3000300030003 (omega arith) refl refl

pub four_of_32 : AreOnes 2 4 32 0xF0000000F
unfolding ones_in run_bit
four_of_32 = are_ones 2 4 32 0xF0000000F (omega arith) refl refl

pub first_8 : AreOnes 1 8 64 0xFF
unfolding ones_in run_bit
first_8 = are_ones 1 8 64 0xFF (omega arith) refl refl

pub one_of_16 : AreOnes 4 1 16 0x1000100010001
unfolding ones_in run_bit
one_of_16 = are_ones 4 1 16 0x1000100010001 (omega arith) refl refl

pub two_of_32 : AreOnes 2 2 32 0x300000003
unfolding ones_in run_bit
two_of_32 = are_ones 2 2 32 0x300000003 (omega arith) refl refl

pub first_4 : AreOnes 1 4 64 0xF
unfolding ones_in run_bit
first_4 = are_ones 1 4 64 0xF (omega arith) refl refl

-- ---- what a mask leaves
bit_under : (b m : ℕ) → b < 2 → m ≡ 1 → min b m ≡ b
bit_under b m small is = rw is (omega arith)

bit_off : (b m : ℕ) → m ≡ 0 → min b m ≡ 0
bit_off b m is = rw is (omega arith)

pub begun : (n g p : ℕ) (x m : ℕ) → AreOnes n g p m → (f : ℕ → ℕ) → ((q r : ℕ) → q < n → r < g → bit_at x (q * p + r) ≡ f (q * g + r)) → InRuns n g p f (bit_and x m)
begun n g p x m ones f is = record {
  inside = λ q r q_below r_below. bit_at_and x m (q * p + r) ∙ bit_under _ _ (bit_at-lt x (q * p + r)) (ones.inside q r q_below r_below) ∙ is q r q_below r_below;
  outside = λ q r q_below past within. bit_at_and x m (q * p + r) ∙ bit_off _ _ (ones.outside q r q_below past within);
}

left_of_two : (a b c : ℕ) → b ≡ 0 → a ≡ c → max a b ≡ c
left_of_two a b c none is = rw none (rw is (omega arith))

right_of_two : (a b c : ℕ) → a ≡ 0 → b ≡ c → max a b ≡ c
right_of_two a b c none is = rw none (rw is (omega arith))

max-lt : (a b : ℕ) → a < 2 → b < 2 → max a b < 2
max-lt a b x y = omega (arith, x, y)

-- ---- one step
pub closing : (x far m j : ℕ) → bit_at (bit_and (bit_or x (x / 2 ^ far)) m) j ≡ min (max (bit_at x j) (bit_at x (far + j))) (bit_at m j)
closing x far m j = bit_at_and _ m j ∙ ap (λ b. min b (bit_at m j)) (bit_at_or x (x / 2 ^ far) j ∙ ap (max (bit_at x j)) (bit_at-shr x far j))

pub drawing : (x far m j : ℕ) → bit_at (bit_and (bit_or x (x * 2 ^ far % 2 ^ 64)) m) j ≡ min (max (bit_at x j) (bit_at (x * 2 ^ far % 2 ^ 64) j)) (bit_at m j)
drawing x far m j = bit_at_and _ m j ∙ ap (λ b. min b (bit_at m j)) (bit_at_or x (x * 2 ^ far % 2 ^ 64) j)

-- ---- pairs of runs brought together
module _ (n g p far : ℕ) (f : ℕ → ℕ) (x y m : ℕ) (runs : InRuns (2 * n) g p f x) (ones : AreOnes n (2 * g) (2 * p) m) (room : 2 * g ≤ p) (is_far : far + g ≡ p)
    (step : (j : ℕ) → bit_at y j ≡ min (max (bit_at x j) (bit_at x (far + j))) (bit_at m j)) where
  both_small : (j : ℕ) → max (bit_at x j) (bit_at x (far + j)) < 2
  both_small j = max-lt _ _ (bit_at-lt x j) (bit_at-lt x (far + j))

  first_run : (q r : ℕ) → q < n → r < g → bit_at y (q * (2 * p) + r) ≡ f (q * (2 * g) + r)
  first_run q r q_below r_below =
      let k = q * (2 * p) + r in
      let here : k ≡ 2 * q * p + r = grind arith in
      let there : far + k ≡ 2 * q * p + (far + r) = omega (arith, here) in
      let index : 2 * q * g + r ≡ q * (2 * g) + r = grind arith in
      step k
      ∙ bit_under _ _ (both_small k) (ones.inside q r q_below (omega (arith, r_below)))
      ∙ left_of_two _ _ _ (ap (bit_at x) there ∙ runs.outside (2 * q) (far + r) (omega (arith, q_below)) (omega (arith, room, is_far)) (omega (arith, is_far, r_below)))
      (ap (bit_at x) here ∙ runs.inside (2 * q) r (omega (arith, q_below)) r_below ∙ ap f index)

  second_run : (q r : ℕ) → q < n → g ≤ r → r < 2 * g → bit_at y (q * (2 * p) + r) ≡ f (q * (2 * g) + r)
  second_run q r q_below past within =
      let k = q * (2 * p) + r in
      let here : k ≡ 2 * q * p + r = grind arith in
      let twice : (2 * q + 1) * p ≡ 2 * q * p + p = grind arith in
      let there : far + k ≡ (2 * q + 1) * p + (r - g) = omega (arith, here, twice, is_far, past) in
      let twice_g : (2 * q + 1) * g ≡ q * (2 * g) + g = grind arith in
      let index : (2 * q + 1) * g + (r - g) ≡ q * (2 * g) + r = omega (arith, twice_g, past) in
      step k
      ∙ bit_under _ _ (both_small k) (ones.inside q r q_below within)
      ∙ right_of_two _ _ _ (ap (bit_at x) here ∙ runs.outside (2 * q) r (omega (arith, q_below)) past (omega (arith, within, room)))
      (ap (bit_at x) there ∙ runs.inside (2 * q + 1) (r - g) (omega (arith, q_below)) (omega (arith, past, within)) ∙ ap f index)

  pub closed_up : InRuns n (2 * g) (2 * p) f y
  closed_up = record {
    inside = λ q r q_below r_below. elim (cases_lt r g) [
      | inl low ↦ first_run q r q_below low
      | inr high ↦ second_run q r q_below high r_below
    ];
    outside = λ q r q_below past within. step (q * (2 * p) + r) ∙ bit_off _ _ (ones.outside q r q_below past within);
  }

-- ---- runs taken apart into pairs
module _ (n g p far : ℕ) (f : ℕ → ℕ) (x y m : ℕ) (runs : InRuns n (2 * g) (2 * p) f x) (ones : AreOnes (2 * n) g p m) (room : 2 * g ≤ p) (is_far : far + g ≡ p) (whole : n * (2 * p) ≡ 64)
    (step : (j : ℕ) → bit_at y j ≡ min (max (bit_at x j) (bit_at (x * 2 ^ far % 2 ^ 64) j)) (bit_at m j)) where
  pair_small : (j : ℕ) → max (bit_at x j) (bit_at (x * 2 ^ far % 2 ^ 64) j) < 2
  pair_small j = max-lt _ _ (bit_at-lt x j) (bit_at-lt (x * 2 ^ far % 2 ^ 64) j)

  in_word : (q r : ℕ) → q < n → r < 2 * p → q * (2 * p) + r < 64
  in_word q r q_below within = let e = next_le q n (2 * p) q_below in omega (arith, e, whole, within)

  low_half : (q r : ℕ) → q < n → r < g → bit_at y (2 * q * p + r) ≡ f (2 * q * g + r)
  low_half q r q_below r_below =
      let here : 2 * q * p + r ≡ q * (2 * p) + r = grind arith in
      let index : q * (2 * g) + r ≡ 2 * q * g + r = grind arith in
      step (2 * q * p + r)
      ∙ bit_under _ _ (pair_small (2 * q * p + r)) (ones.inside (2 * q) r (omega (arith, q_below)) r_below)
      ∙ left_of_two _ _ _ (nothing q r q_below r_below here)
      (ap (bit_at x) here ∙ runs.inside q r q_below (omega (arith, r_below)) ∙ ap f index)
    where
      nothing : (q r : ℕ) → q < n → r < g → 2 * q * p + r ≡ q * (2 * p) + r → bit_at (x * 2 ^ far % 2 ^ 64) (2 * q * p + r) ≡ 0
      nothing zero r q_below r_below here =
          bit_at-mod _ 64 (2 * 0 * p + r) (let e = in_word 0 r q_below (omega (arith, r_below, room)) in omega (arith, e)) ∙ bit_at-shl_low x far (2 * 0 * p + r) (omega (arith, r_below, room, is_far))
      nothing (suc q) r q_below r_below here =
          let before : suc q * (2 * p) ≡ q * (2 * p) + 2 * p = grind arith in
          bit_at-mod _ 64 _ (let e = in_word (suc q) r q_below (omega (arith, r_below, room)) in omega (arith, e, here))
          ∙ bit_at-shl_high x far _ (q * (2 * p) + (p + g + r)) (omega (arith, here, before, is_far))
          ∙ runs.outside q (p + g + r) (omega (arith, q_below)) (omega (arith, room)) (omega (arith, room, r_below))

  high_half : (q r : ℕ) → q < n → r < g → bit_at y ((2 * q + 1) * p + r) ≡ f ((2 * q + 1) * g + r)
  high_half q r q_below r_below =
      let k = (2 * q + 1) * p + r in
      let here : k ≡ q * (2 * p) + (p + r) = grind arith in
      let index : q * (2 * g) + (g + r) ≡ (2 * q + 1) * g + r = grind arith in
      step k
      ∙ bit_under _ _ (pair_small k) (ones.inside (2 * q + 1) r (omega (arith, q_below)) r_below)
      ∙ right_of_two _ _ _ (ap (bit_at x) here ∙ runs.outside q (p + r) q_below (omega (arith, room)) (omega (arith, room, r_below)))
      (bit_at-mod _ 64 k (let e = in_word q (p + r) q_below (omega (arith, r_below, room)) in omega (arith, e, here))
      ∙ bit_at-shl_high x far k (q * (2 * p) + (g + r)) (omega (arith, here, is_far))
      ∙ runs.inside q (g + r) q_below (omega (arith, r_below)) ∙ ap f index)

  pub drawn_apart : InRuns (2 * n) g p f y
  drawn_apart = record {
    inside = λ q r q_below r_below.
        let h = q / 2 in
        elim (cases_eq (q % 2) 0) [
          | inl even ↦ (let e : 2 * (q / 2) ≡ q = omega (arith, even) in ap (λ t. bit_at y (t * p + r)) (sym e) ∙ low_half (q / 2) r (omega (arith, q_below)) r_below ∙ ap (λ t. f (t * g + r)) e)
          | inr odd ↦ (let e : 2 * (q / 2) + 1 ≡ q = omega (arith, odd) in ap (λ t. bit_at y (t * p + r)) (sym e) ∙ high_half (q / 2) r (omega (arith, q_below)) r_below ∙ ap (λ t. f (t * g + r)) e)
        ];
    outside = λ q r q_below past within. step (q * p + r) ∙ bit_off _ _ (ones.outside q r q_below past within);
  }

-- ---- the first and the last word
pub begun_at : (n w : ℕ) (x m : ℕ) → AreOnes n 1 w m → InRuns n 1 w (λ k. bit_at x (k * w)) (bit_and x m)
begun_at n w x m ones = begun n 1 w x m ones (λ k. bit_at x (k * w)) (λ q r q_below r_below. ap (bit_at x) (place q r w r_below))
  where
    place : (q r w : ℕ) → r < 1 → q * w + r ≡ (q * 1 + r) * w
    place q r w low = let z : r ≡ 0 = omega (arith, low) in rw z (grind arith)

pub gathered : (w g x y m : ℕ) → InRuns 1 g 64 (λ k. bit_at x (k * w)) y → g ≡ 64 / w → m < 2 ^ g → (both : ℕ → ℕ) → ((j : ℕ) → bit_at y j ≡ min (both j) (bit_at m j)) → IsGathered w x y
gathered w g x y m runs is small both step = record {
  gathered = λ k below.
      let at : k ≡ 0 * 64 + k = omega arith in
      let index : 0 * g + k ≡ k = grind arith in
      ap (bit_at y) at ∙ runs.inside 0 k (omega arith) (omega (arith, below, is)) ∙ ap (λ t. bit_at x (t * w)) index;
  rest = λ k past. step k ∙ bit_off _ _ (bit_at_above m g k small (omega (arith, past, is)));
}

pub begun_first : (g x m : ℕ) → AreOnes 1 g 64 m → InRuns 1 g 64 (bit_at x) (bit_and x m)
begun_first g x m ones = begun 1 g 64 x m ones (bit_at x) (λ q r q_below r_below. ap (bit_at x) (place q r g q_below))
  where
    place : (q r g : ℕ) → q < 1 → q * 64 + r ≡ q * g + r
    place q r g low = let z : q ≡ 0 = omega (arith, low) in rw z (grind arith)

pub is_spread : (w n x y : ℕ) → InRuns n 1 w (bit_at x) y → n ≡ 64 / w → IsSpread w x y
is_spread w n x y runs is = record {
  spread = λ k below.
      let at : k * w ≡ k * w + 0 = omega arith in
      let index : k * 1 + 0 ≡ k = omega arith in
      ap (bit_at y) at ∙ runs.inside k 0 (omega (arith, below, is)) (omega arith) ∙ ap (bit_at x) index;
  between = λ k u below some within. runs.outside k u (omega (arith, below, is)) some within;
}

-- at width 1 the word is its own
pub gathered_one : (w x : ℕ) → w ≡ 1 → x < 2 ^ 64 → IsGathered w x x
gathered_one w x is small = record {
  gathered = λ k below. ap (bit_at x) (let e : k * w ≡ k = rw is (omega arith) in sym e);
  rest = λ k past. bit_at_above x 64 k small (let e : 64 ≤ k = rw is at past in e);
}
