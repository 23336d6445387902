-- Sums of elements: a sum of zeros, of sums, of one term, in two parts, in two orders, and a product with a sum.
use Rattle.std.proofs.Common.{◌≡◌, ◌≢◌, ℕ, zero, suc, ◌+◌, ◌-◌, ◌<◌, ◌≤◌, refl, sym, ◌∙◌, ap, ap₂, arith, bit_xor, add-zero, add-suc}
use Rattle.std.specs.Int.Bits.{xor_assoc, xor_zero_l, xor_zero_r, xor_self}
use Rattle.m4_model.specs.Field.{Field, IsElement, sum_below, mul}
use Rattle.m4_model.proofs.FieldLaws.{FieldLaws}
use Rattle.m4_model.proofs.FieldLemmas.{sum_below-same}
use Rattle.m4_model.proofs.Polynomials.{xor_exchange}

-- a term added and taken away again
pub xor_off : (a b : ℕ) → bit_xor (bit_xor a b) b ≡ a
xor_off a b = xor_assoc a b b ∙ ap (bit_xor a) (xor_self b) ∙ xor_zero_r a

-- a sum of zeros is 0
pub sum_below-zero : (n : ℕ) (g : ℕ → ℕ) → ((i : ℕ) → i < n → g i ≡ 0) → sum_below n g ≡ 0
unfolding sum_below
sum_below-zero zero g none = refl
sum_below-zero (suc n) g none =
    ap₂ bit_xor (sum_below-zero n g (λ i below. none i (omega (arith, below)))) (none n (omega arith)) ∙ xor_zero_l 0

-- a sum of sums of two terms is the sum of the two sums
pub sum_below-xor : (n : ℕ) (g h : ℕ → ℕ) → sum_below n (λ i. bit_xor (g i) (h i)) ≡ bit_xor (sum_below n g) (sum_below n h)
unfolding sum_below
sum_below-xor zero g h = sym (xor_zero_l 0)
sum_below-xor (suc n) g h =
    ap (λ (x : ℕ). bit_xor x (bit_xor (g n) (h n))) (sum_below-xor n g h)
    ∙ xor_exchange (sum_below n g) (sum_below n h) (g n) (h n)

-- a double sum in the other order
pub sum_below-exchange : (m n : ℕ) (g : ℕ → ℕ → ℕ)
    → sum_below m (λ i. sum_below n (λ j. g i j)) ≡ sum_below n (λ j. sum_below m (λ i. g i j))
unfolding sum_below
sum_below-exchange zero n g = sym (sum_below-zero n (λ j. 0) (λ j below. refl))
sum_below-exchange (suc m) n g =
    ap (λ (x : ℕ). bit_xor x (sum_below n (g m))) (sum_below-exchange m n g)
    ∙ sym (sum_below-xor n (λ j. sum_below m (λ i. g i j)) (g m))

-- a sum in two parts
pub sum_below-split : (m n : ℕ) (g : ℕ → ℕ) → sum_below (m + n) g ≡ bit_xor (sum_below m g) (sum_below n (λ i. g (m + i)))
unfolding sum_below
sum_below-split m zero g = rw add-zero (sym (xor_zero_r (sum_below m g)))
sum_below-split m (suc n) g =
    rw add-suc (ap (λ (x : ℕ). bit_xor x (g (m + n))) (sum_below-split m n g)
    ∙ xor_assoc (sum_below m g) (sum_below n (λ i. g (m + i))) (g (m + n)))

-- a sum whose terms from k on are 0 ends before k
pub sum_below-short : (k n : ℕ) (g : ℕ → ℕ) → k ≤ n → ((i : ℕ) → k ≤ i → i < n → g i ≡ 0) → sum_below n g ≡ sum_below k g
sum_below-short k n g within none =
    let parts : n ≡ k + (n - k) = omega arith in
    ap (λ (x : ℕ). sum_below x g) parts
    ∙ sum_below-split k (n - k) g
    ∙ ap (bit_xor (sum_below k g)) (sum_below-zero (n - k) (λ i. g (k + i)) (λ i below. none (k + i) (omega arith) (omega (arith, below))))
    ∙ xor_zero_r (sum_below k g)

-- a sum whose terms before k are 0 begins at k
pub sum_below-late : (k n : ℕ) (g : ℕ → ℕ) → ((i : ℕ) → i < k → g i ≡ 0) → sum_below (k + n) g ≡ sum_below n (λ i. g (k + i))
sum_below-late k n g none =
    sum_below-split k n g
    ∙ ap (λ (x : ℕ). bit_xor x (sum_below n (λ i. g (k + i)))) (sum_below-zero k g none)
    ∙ xor_zero_l (sum_below n (λ i. g (k + i)))

-- a sum of one term that isn't 0
pub sum_below-single : (n k : ℕ) (g : ℕ → ℕ) → k < n → ((i : ℕ) → i < n → i ≢ k → g i ≡ 0) → sum_below n g ≡ g k
unfolding sum_below
sum_below-single n k g within none =
    sum_below-short (suc k) n g within (λ i above below. none i below (omega (arith, above)))
    ∙ ap (λ (x : ℕ). bit_xor x (g k)) (sum_below-zero k g (λ i before. none i (omega (arith, before, within)) (omega (arith, before))))
    ∙ xor_zero_l (g k)

module _ (F : Field) (laws : FieldLaws F) where
  -- a product with 0, on the left
  pub mul-zero_left : (a : ℕ) → mul F 0 a ≡ 0
  mul-zero_left a = laws.comm 0 a ∙ laws.annihilates a

  -- a product with 1, on the right
  pub mul-one_right : (a : ℕ) → IsElement F a → mul F a 1 ≡ a
  mul-one_right a element = laws.comm a 1 ∙ laws.unit a element

  -- a product with a sum on the left
  pub mul-xor_left : (a b c : ℕ) → mul F (bit_xor a b) c ≡ bit_xor (mul F a c) (mul F b c)
  mul-xor_left a b c = laws.comm (bit_xor a b) c ∙ laws.distrib c a b ∙ ap₂ bit_xor (laws.comm c a) (laws.comm c b)

  -- a product with a sum of many terms
  pub mul-sum_below : (a n : ℕ) (g : ℕ → ℕ) → mul F a (sum_below n g) ≡ sum_below n (λ i. mul F a (g i))
  unfolding sum_below
  mul-sum_below a zero g = laws.annihilates a
  mul-sum_below a (suc n) g =
      laws.distrib a (sum_below n g) (g n) ∙ ap (λ (x : ℕ). bit_xor x (mul F a (g n))) (mul-sum_below a n g)

  -- the same with the sum on the left
  pub sum_below-mul : (n : ℕ) (g : ℕ → ℕ) (a : ℕ) → mul F (sum_below n g) a ≡ sum_below n (λ i. mul F (g i) a)
  sum_below-mul n g a =
      laws.comm (sum_below n g) a ∙ mul-sum_below a n g
      ∙ sum_below-same n (λ i. mul F a (g i)) (λ i. mul F (g i) a) (λ i below. laws.comm a (g i))

  -- a product of elements that is 0 has a factor 0
  pub zero_from_mul : (a b : ℕ) → IsElement F a → IsElement F b → a ≢ 0 → mul F a b ≡ 0 → b ≡ 0
  zero_from_mul a b ina inb some none =
      let inverse = laws.inverse a ina some in
      sym (laws.unit b inb)
      ∙ ap (λ (x : ℕ). mul F x b) (sym inverse.2 ∙ laws.comm a inverse.0)
      ∙ laws.assoc inverse.0 a b
      ∙ ap (mul F inverse.0) none
      ∙ laws.annihilates inverse.0
