-- Polynomials whose coefficients are entries of slices: sums, halves and single coefficients.
use Rattle.std.proofs.Common.{◌≡◌, ℕ, zero, suc, ◌+◌, ◌-◌, ◌*◌, ◌^◌, ◌<◌, ◌≤◌, inl, inr, cond, nat_lt, List, [], length, get_or, take, drop, get_or-take, get_or-drop, sym, ◌∙◌, ap, ap₂, subst, arith, bit_xor}
use Rattle.std.specs.Int.Bits.{xor_zero_l, xor_zero_r}
use Rattle.std.proofs.lemmas.Nat.{pow-add}
use Rattle.std.proofs.lemmas.Bool.{cases_lt, cond-true, cond-false, lt-ltb, le-ltb}
use Rattle.std.proofs.lemmas.List.{get_or_past}
use Rattle.m4_model.specs.Field.{Field, IsElement, gf2, sum_below, clmul, mul}
use Rattle.m4_model.specs.Matrix.{Matrix, IsMatrix, at, added, product, zero_matrix}
use Rattle.m4_model.proofs.FieldLemmas.{sum_below-same, mul_gf2}
use Rattle.m4_model.proofs.SumLemmas.{sum_below-zero, sum_below-xor, sum_below-split, sum_below-short, sum_below-late}
use Rattle.m4_model.proofs.MatrixLemmas.{at-table}
use Rattle.m4_model.proofs.Polynomials.{xor_shift, clmul-one_left, clmul-zero_left}
use Rattle.m4_karatsuba.specs.Polynomials.{polynomial, product_at, added_from}

pub next_le : (v e m : ℕ) → v < e → v * m + m ≤ e * m
next_le v e m less = grind arith

-- ---- sums that are shifted
pub sum_shifted : (n k : ℕ) (g : ℕ → ℕ) → sum_below n (λ i. g i * 2 ^ k) ≡ sum_below n g * 2 ^ k
unfolding sum_below
sum_shifted zero k g = omega arith
sum_shifted (suc n) k g = ap (λ x. bit_xor x (g n * 2 ^ k)) (sum_shifted n k g) ∙ xor_shift (sum_below n g) (g n) k

power_sum : (a w u : ℕ) → a * 2 ^ (u + w) ≡ a * 2 ^ w * 2 ^ u
power_sum a w u = (let e : 2 ^ (u + w) ≡ 2 ^ u * 2 ^ w = pow-add 2 u w in rw e (grind arith))

-- ---- no rows
pub past_rows : (S : Matrix) (p j : ℕ) → length S.entries ≤ p → at S p j ≡ 0
past_rows S p j past = ap (λ l. get_or l j 0) (get_or_past S.entries p [] past) ∙ get_or_past [] j 0 (omega arith)

-- ---- a matrix that is added to some slices
module _ (n k u m : ℕ) (A B : Matrix) (room : u + k ≤ n) (rows : A.rows ≡ n * m) (b_rows : length B.entries ≡ k * m) where
  shifted : ℕ → ℕ → ℕ → ℕ
  shifted i j v = cond (nat_lt v u) 0 (at B ((v - u) * m + i) j)

  place : (v i : ℕ) → u ≤ v → v * m + i - u * m ≡ (v - u) * m + i
  place v i past = let e : v * m ≡ (v - u) * m + u * m = grind arith in omega (arith, e)

  times_le : (a b k : ℕ) → a ≤ b → a * k ≤ b * k
  times_le a b k le = grind arith

  bit : (i j v : ℕ) → i < m → j < A.cols → v < n → at (added_from (u * m) A B) (v * m + i) j ≡ bit_xor (at A (v * m + i) j) (cond (nat_lt v u) 0 (at B ((v - u) * m + i) j))
  bit i j v i_below j_below v_below =
      let e = next_le v n m v_below in
      at-table A.rows A.cols (λ p j. cond (nat_lt p (u * m)) (at A p j) (bit_xor (at A p j) (at B (p - u * m) j))) (v * m + i) j (omega (arith, e, rows, i_below)) j_below
      ∙ elim (cases_lt v u) [
        | inl less ↦ (let f = next_le v u m less in
            cond-true _ _ _ (lt-ltb (v * m + i) (u * m) (omega (arith, f, i_below)))
            ∙ sym (ap (bit_xor (at A (v * m + i) j)) (cond-true _ _ _ (lt-ltb v u less)) ∙ xor_zero_r (at A (v * m + i) j)))
        | inr past ↦ (let f = times_le u v m past in
            cond-false _ _ _ (le-ltb (v * m + i) (u * m) (omega (arith, f)))
            ∙ ap (bit_xor (at A (v * m + i) j)) (ap (λ p. at B p j) (place v i past) ∙ sym (cond-false _ _ _ (le-ltb v u past))))
      ]

  tail : (i j : ℕ) → i < m → sum_below n (λ v. cond (nat_lt v u) 0 (at B ((v - u) * m + i) j) * 2 ^ v) ≡ polynomial k m B i j * 2 ^ u
  unfolding polynomial
  tail i j i_below =
      let whole : u + (n - u) ≡ n = omega (arith, room) in
      ap (λ t. sum_below t (λ v. cond (nat_lt v u) 0 (at B ((v - u) * m + i) j) * 2 ^ v)) (sym whole)
      ∙ sum_below-late u (n - u) (λ v. cond (nat_lt v u) 0 (at B ((v - u) * m + i) j) * 2 ^ v) (λ v less. ap (λ b. b * 2 ^ v) (cond-true _ _ _ (lt-ltb v u less)) ∙ (omega arith))
      ∙ sum_below-same (n - u) _ (λ w. at B (w * m + i) j * 2 ^ w * 2 ^ u) (λ w less.
      let back : u + w - u ≡ w = omega arith in
      ap (λ b. b * 2 ^ (u + w)) (cond-false _ _ _ (le-ltb (u + w) u (omega arith)) ∙ ap (λ x. at B (x * m + i) j) back) ∙ power_sum (at B (w * m + i) j) w u)
      ∙ sum_below-short k (n - u) (λ w. at B (w * m + i) j * 2 ^ w * 2 ^ u) (omega (arith, room)) (λ w past less.
      let f = times_le k w m past in
      ap (λ b. b * 2 ^ w * 2 ^ u) (past_rows B (w * m + i) j (omega (arith, f, b_rows))) ∙ (omega arith))
      ∙ sum_shifted k u (λ w. at B (w * m + i) j * 2 ^ w)

  pub polynomial-added : (i j : ℕ) → i < m → j < A.cols → polynomial n m (added_from (u * m) A B) i j ≡ bit_xor (polynomial n m A i j) (polynomial k m B i j * 2 ^ u)
  unfolding polynomial
  polynomial-added i j i_below j_below =
      sum_below-same n _ (λ v. bit_xor (at A (v * m + i) j * 2 ^ v) (cond (nat_lt v u) 0 (at B ((v - u) * m + i) j) * 2 ^ v)) (λ v less.
      ap (λ b. b * 2 ^ v) (bit i j v i_below j_below less) ∙ sym (xor_shift (at A (v * m + i) j) (cond (nat_lt v u) 0 (at B ((v - u) * m + i) j)) v))
      ∙ sum_below-xor n (λ v. at A (v * m + i) j * 2 ^ v) (λ v. cond (nat_lt v u) 0 (at B ((v - u) * m + i) j) * 2 ^ v)
      ∙ ap (bit_xor (sum_below n (λ v. at A (v * m + i) j * 2 ^ v))) (tail i j i_below)

-- ---- halves
pub polynomial-halves : (h k m : ℕ) (A low high : Matrix) → low.entries ≡ take (h * m) A.entries → high.entries ≡ drop (h * m) A.entries → (i j : ℕ) → i < m
    → polynomial (h + k) m A i j ≡ bit_xor (polynomial h m low i j) (polynomial k m high i j * 2 ^ h)
unfolding polynomial
polynomial-halves h k m A low high is_low is_high i j i_below =
    sum_below-split h k (λ v. at A (v * m + i) j * 2 ^ v)
    ∙ ap₂ bit_xor
    (sum_below-same h _ _ (λ v less.
    let f = next_le v h m less in
    ap (λ (l : List ℕ). get_or l j 0 * 2 ^ v) (sym (ap (λ (rows : List (List ℕ)). get_or rows (v * m + i) []) is_low ∙ get_or-take (h * m) A.entries (v * m + i) [] (omega (arith, f, i_below))))))
    (sum_below-same k _ (λ w. at high (w * m + i) j * 2 ^ w * 2 ^ h) (λ w _.
    let e : (h + w) * m + i ≡ h * m + (w * m + i) = grind arith in
    ap (λ (l : List ℕ). get_or l j 0 * 2 ^ (h + w)) (ap (λ p. get_or A.entries p []) e ∙ sym (ap (λ (rows : List (List ℕ)). get_or rows (w * m + i) []) is_high ∙ get_or-drop (h * m) A.entries (w * m + i) []))
    ∙ power_sum (at high (w * m + i) j) w h)
    ∙ sum_shifted k h (λ w. at high (w * m + i) j * 2 ^ w))

-- ---- zeros
pub polynomial-zero : (e m n : ℕ) (i j : ℕ) → i < m → j < n → polynomial e m (zero_matrix gf2 (e * m) n) i j ≡ 0
unfolding polynomial
polynomial-zero e m n i j below within = sum_below-zero e _ (λ v less.
    let r = next_le v e m less in
    ap (λ b. b * 2 ^ v) (at-table (e * m) n (λ i j. 0) (v * m + i) j (omega (arith, r, below)) within) ∙ (omega arith))

-- ---- one coefficient
pub polynomial-one : (m : ℕ) (A : Matrix) (i j : ℕ) → polynomial 1 m A i j ≡ at A i j
unfolding polynomial sum_below
polynomial-one m A i j =
    let e : 0 * m + i ≡ i = grind arith in
    xor_zero_l (at A (0 * m + i) j * 2 ^ 0) ∙ ap (λ p. at A p j * 2 ^ 0) e ∙ (omega arith)

bit_product : (a b : ℕ) → a < 2 → b < 2 → mul gf2 a b ≡ clmul a b
bit_product zero b x y = mul_gf2 0 b x y ∙ (omega arith) ∙ sym (clmul-zero_left b)
bit_product (suc zero) b x y = mul_gf2 1 b x y ∙ (omega arith) ∙ sym (clmul-one_left b)
bit_product (suc (suc a)) b x y = absurd (omega (arith, x))

entry_small : (A : Matrix) → IsMatrix A → A.field ≡ gf2 → (i j : ℕ) → i < A.rows → j < A.cols → at A i j < 2
entry_small A is over i j below within = let P : Field → Type 0 = λ H. IsElement H (at A i j) in subst P over (is.elements i j below within)

pub one_product : (m l : ℕ) (C A B : Matrix) → IsMatrix A → IsMatrix B → A.field ≡ gf2 → B.field ≡ gf2 → A.rows ≡ m → A.cols ≡ l → B.rows ≡ l → C.rows ≡ m → C.cols ≡ B.cols
    → (i j : ℕ) → i < m → j < B.cols → polynomial 1 m (added C (product A B)) i j ≡ bit_xor (polynomial 1 m C i j) (product_at 1 m l A B i j)
unfolding product_at
one_product m l C A B a b a_over b_over a_rows a_cols b_rows c_rows c_cols i j below within =
    polynomial-one m (added C (product A B)) i j
    ∙ at-table C.rows C.cols (λ i j. bit_xor (at C i j) (at (product A B) i j)) i j (omega (arith, c_rows, below)) (omega (arith, c_cols, within))
    ∙ ap₂ bit_xor (sym (polynomial-one m C i j))
    (at-table A.rows B.cols (λ i j. sum_below A.cols (λ t. mul A.field (at A i t) (at B t j))) i j (omega (arith, a_rows, below)) within
    ∙ ap (λ n. sum_below n (λ t. mul A.field (at A i t) (at B t j))) a_cols
    ∙ sum_below-same l _ _ (λ t less.
    ap (λ (H : Field). mul H (at A i t) (at B t j)) a_over
    ∙ bit_product (at A i t) (at B t j) (entry_small A a a_over i t (omega (arith, a_rows, below)) (omega (arith, a_cols, less))) (entry_small B b b_over t j (omega (arith, b_rows, less)) within)
    ∙ ap₂ clmul (sym (polynomial-one m A i t)) (sym (polynomial-one l B t j))))
