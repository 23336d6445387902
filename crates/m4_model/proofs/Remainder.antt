-- Numbers that differ by a multiple of the field's polynomial, and the remainder, which is the one small number of its
-- kind: so sums and products may be reduced at any time.
use Rattle.std.proofs.Common.{◌≡◌, ℕ, zero, suc, ◌+◌, ◌-◌, ◌*◌, ◌^◌, ◌<◌, ◌≤◌, Bool, true, false, cond, refl, sym, ◌∙◌, ap, arith, bit_xor, nat_lt, ltb-true, ltb-false}
use Rattle.std.proofs.Math.Pow.{pow_pos, pow_mono}
use Rattle.std.specs.Int.Bits.{xor_assoc, xor_comm, xor_self, xor_lt}
use Rattle.m4_model.specs.Field.{Field, bit_length, clmul, rem_within, rem, without_highest}
use Rattle.m4_model.proofs.Polynomials.{xor_exchange, xor_twice, xor_zero_equal, clmul_assoc, clmul-zero, clmul-sum_left, clmul-sum_right, bit_length-zero}
use Rattle.m4_model.proofs.Division.{IsTop, product_top, has_top, top_of, xor_tops, shift_top, clmul-power}

-- c and d differ by a multiple of f
pub record Congruent (f c d : ℕ) : Type 0 where
  pub multiple : ℕ
  pub difference : bit_xor c d ≡ clmul f multiple

pub congruent_same : (f c : ℕ) → Congruent f c c
congruent_same f c = record { multiple = 0; difference = xor_self c ∙ sym (clmul-zero f) }

pub congruent_sym : (f c d : ℕ) → Congruent f c d → Congruent f d c
congruent_sym f c d h = record { multiple = h.multiple; difference = xor_comm d c ∙ h.difference }

-- three numbers, one after the other
xor_between : (a b c : ℕ) → bit_xor (bit_xor a b) (bit_xor b c) ≡ bit_xor a c
xor_between a b c = xor_assoc a b (bit_xor b c) ∙ ap (bit_xor a) (xor_twice b c)

pub congruent_trans : (f a b c : ℕ) → Congruent f a b → Congruent f b c → Congruent f a c
congruent_trans f a b c h k = record {
  multiple = bit_xor h.multiple k.multiple;
  difference = sym (xor_between a b c) ∙ ap (λ x. bit_xor x (bit_xor b c)) h.difference ∙ ap (bit_xor (clmul f h.multiple)) k.difference ∙ sym (clmul-sum_right f h.multiple k.multiple);
}

-- sums of congruent numbers
pub congruent_sum : (f a b c d : ℕ) → Congruent f a b → Congruent f c d → Congruent f (bit_xor a c) (bit_xor b d)
congruent_sum f a b c d h k = record {
  multiple = bit_xor h.multiple k.multiple;
  difference = xor_exchange a c b d ∙ ap (λ x. bit_xor x (bit_xor c d)) h.difference ∙ ap (bit_xor (clmul f h.multiple)) k.difference ∙ sym (clmul-sum_right f h.multiple k.multiple);
}

-- products of congruent numbers with one number
pub congruent_product : (f a b c : ℕ) → Congruent f a b → Congruent f (clmul a c) (clmul b c)
congruent_product f a b c h = record {
  multiple = clmul h.multiple c;
  difference = sym (clmul-sum_left c a b) ∙ ap (λ x. clmul x c) h.difference ∙ clmul_assoc f h.multiple c;
}

-- f itself is congruent to 0
pub congruent_multiple : (f a q r : ℕ) → f ≡ bit_xor (clmul a q) r → Congruent f (clmul a q) r
congruent_multiple f a q r whole = record {
  multiple = 1;
  difference = sym whole ∙ sym (times_one f);
}
  where
    times_one : (f : ℕ) → clmul f 1 ≡ f
    times_one f = let e : f * 2 ^ 0 ≡ f = omega arith in clmul-power f 0 ∙ e

-- small congruent numbers are equal
pub congruent_small : (k f c d : ℕ) → IsTop k f → c < 2 ^ k → d < 2 ^ k → Congruent f c d → c ≡ d
congruent_small k f c d top small_c small_d h = cases h.multiple h.difference
  where
    cases : (q : ℕ) → bit_xor c d ≡ clmul f q → c ≡ d
    cases zero none = xor_zero_equal c d (none ∙ clmul-zero f)
    cases (suc q) some =
        let t = has_top (suc q) (omega arith) in
        let big = product_top (bit_length (suc q) - 1) k f (suc q) top t in
        let small = xor_lt k c d small_c small_d in
        absurd (impossible (bit_xor c d) (clmul f (suc q)) (2 ^ k) (2 ^ (bit_length (suc q) - 1 + k)) some small big.low (pow_mono {i = k} {j = bit_length (suc q) - 1 + k} (omega arith)))
      where
        impossible : (x y p r : ℕ) → x ≡ y → x < p → r ≤ y → p ≤ r → ⊥
        impossible x y p r same small big le = omega arith

module _ (F : Field) (top : IsTop F.degree F.poly) where
  -- a step of the division leaves what is congruent, and one bit less
  step_congruent : (c : ℕ) → Congruent F.poly c (without_highest F c)
  step_congruent c = record { multiple = 2 ^ (bit_length c - 1 - F.degree); difference = xor_twice c (F.poly * 2 ^ (bit_length c - 1 - F.degree)) ∙ sym (clmul-power F.poly (bit_length c - 1 - F.degree)) }

  step_lower : (steps c : ℕ) → c < 2 ^ suc steps → 2 ^ F.degree ≤ c → without_highest F c < 2 ^ steps
  step_lower steps c below large =
      let some : 0 < c = positive (2 ^ F.degree) c (pow_pos F.degree) large in
      let t = has_top c some in
      let m = bit_length c - 1 in
      let reaches : F.degree ≤ m = at_least F.degree m c large t.high in
      let within : m ≤ steps = at_most m steps c t.low below in
      let shifted = shift_top F.degree F.poly (m - F.degree) m (omega (arith, reaches)) top in
      lower (without_highest F c) (2 ^ m) (2 ^ steps) (xor_tops m c (F.poly * 2 ^ (m - F.degree)) t shifted) (pow_mono {i = m} {j = steps} within)
    where
      positive : (p c : ℕ) → 0 < p → p ≤ c → 0 < c
      positive p c some le = omega arith

      lower : (x p q : ℕ) → x < p → p ≤ q → x < q
      lower x p q l le = omega arith

      at_least : (e m c : ℕ) → 2 ^ e ≤ c → c < 2 ^ suc m → e ≤ m
      at_least e m c low high = elim (e - m) as (λ d. d ≡ e - m → e ≤ m) [
        | zero ↦ λ is. omega arith
        | suc d ↦ λ is. absurd (let mono = pow_mono {i = suc m} {j = e} (omega arith) in omega arith)
      ] refl

      at_most : (m steps c : ℕ) → 2 ^ m ≤ c → c < 2 ^ suc steps → m ≤ steps
      at_most m steps c low high = at_least m steps c low high

  -- the remainder is congruent to the number
  within_congruent : (steps c : ℕ) → Congruent F.poly c (rem_within steps F c)
  unfolding rem_within
  within_congruent zero c = congruent_same F.poly c
  within_congruent (suc steps) c =
      choose (nat_lt c (2 ^ F.degree)) (congruent_same F.poly c)
      (congruent_trans F.poly c (without_highest F c) (rem_within steps F (without_highest F c)) (step_congruent c) (within_congruent steps (without_highest F c)))
    where
      choose : (b : Bool) {x y : ℕ} → Congruent F.poly c x → Congruent F.poly c y → Congruent F.poly c (cond b x y)
      choose true h k = h
      choose false h k = k

  -- and is an element
  within_small : (steps c : ℕ) → c < 2 ^ steps → rem_within steps F c < 2 ^ F.degree
  unfolding rem_within
  within_small zero c below = least (2 ^ F.degree) c (pow_pos F.degree) below
    where
      least : (p c : ℕ) → 0 < p → c < 1 → c < p
      least p c some none = omega arith
  within_small (suc steps) c below =
      choose (nat_lt c (2 ^ F.degree)) refl (λ large. within_small steps (without_highest F c) (step_lower steps c below large))
    where
      choose : (b : Bool) → nat_lt c (2 ^ F.degree) ≡ b → (2 ^ F.degree ≤ c → rem_within steps F (without_highest F c) < 2 ^ F.degree)
          → cond b c (rem_within steps F (without_highest F c)) < 2 ^ F.degree
      choose true is smaller = ltb-true c (2 ^ F.degree) is
      choose false is smaller = smaller (ltb-false c (2 ^ F.degree) is)

  pub rem_congruent : (c : ℕ) → Congruent F.poly c (rem F c)
  rem_congruent c = within_congruent (bit_length c) c

  pub rem_small : (c : ℕ) → rem F c < 2 ^ F.degree
  rem_small c = within_small (bit_length c) c (fits c)
    where
      fits : (c : ℕ) → c < 2 ^ bit_length c
      fits zero = rw bit_length-zero (omega arith)
      fits (suc c) = let t = top_of (suc c) (omega arith) in rw t.1 t.2.high

  -- congruent numbers have one remainder
  pub rem_same : (c d : ℕ) → Congruent F.poly c d → rem F c ≡ rem F d
  rem_same c d h =
      congruent_small F.degree F.poly (rem F c) (rem F d) top (rem_small c) (rem_small d)
      (congruent_trans F.poly (rem F c) c (rem F d) (congruent_sym F.poly c (rem F c) (rem_congruent c))
      (congruent_trans F.poly c d (rem F d) h (rem_congruent d)))

  -- an element is its own remainder
  pub rem_element : (c : ℕ) → c < 2 ^ F.degree → rem F c ≡ c
  rem_element c small = congruent_small F.degree F.poly (rem F c) c top (rem_small c) small (congruent_sym F.poly c (rem F c) (rem_congruent c))
