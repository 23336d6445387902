-- Columns that are combinations of those before them: a combination passes through a factor on the left, and back
-- through one that takes only zero to zero.
use Rattle.std.proofs.Common.{◌≡◌, ◌≢◌, ℕ, zero, suc, ◌<◌, ◌≤◌, sym, ◌∙◌, ap, ap₂, arith, bit_xor}
use Rattle.std.specs.Int.Bits.{xor_lt, xor_self}
use Rattle.std.proofs.lemmas.Bool.{cases_lt}
use Rattle.std.proofs.Common.{⊎_elim}
use Rattle.m4_model.specs.Field.{Field, IsElement, sum_below, mul}
use Rattle.m4_model.proofs.FieldLaws.{FieldLaws}
use Rattle.m4_model.proofs.FieldLemmas.{sum_below-same, sum_below-lt}
use Rattle.m4_model.proofs.Polynomials.{xor_zero_equal}
use Rattle.m4_model.proofs.SumLemmas.{sum_below-single, mul-zero_left}
use Rattle.m4_model.proofs.ProductLemmas.{times, times_assoc, times-xor_right}

-- in the first m rows of a, column j is the combination by c of the columns before it
abbrev pub Combined : Field → ℕ → (ℕ → ℕ → ℕ) → ℕ → (ℕ → ℕ) → Type 0
Combined F m a j c = (i : ℕ) → i < m → a i j ≡ sum_below j (λ t. mul F (c t) (a i t))

module _ (F : Field) (laws : FieldLaws F) where
  -- a combination of columns is a product with a column of coefficients
  pub combination : (j : ℕ) (a : ℕ → ℕ → ℕ) (c : ℕ → ℕ) (i : ℕ)
      → sum_below j (λ t. mul F (c t) (a i t)) ≡ times F j a (λ t k. c t) i 0
  combination j a c i = sum_below-same j (λ t. mul F (c t) (a i t)) (λ t. mul F (a i t) (c t)) (λ t below. laws.comm (c t) (a i t))

  -- a combination by elements is an element
  pub IsElement-combination : (j : ℕ) (a : ℕ → ℕ → ℕ) (c : ℕ → ℕ) (i : ℕ) → ((t : ℕ) → t < j → IsElement F (c t))
      → ((t : ℕ) → t < j → IsElement F (a i t)) → IsElement F (sum_below j (λ t. mul F (c t) (a i t)))
  IsElement-combination j a c i elements entries =
      sum_below-lt F.degree j (λ t. mul F (c t) (a i t)) (λ t below. laws.closed (c t) (a i t) (elements t below) (entries t below))

  -- the product's combination of columns is the product with the combination
  pub combination-times : (l j : ℕ) (left e : ℕ → ℕ → ℕ) (c : ℕ → ℕ) (i : ℕ)
      → sum_below l (λ s. mul F (left i s) (sum_below j (λ t. mul F (c t) (e s t)))) ≡ sum_below j (λ t. mul F (c t) (times F l left e i t))
  combination-times l j left e c i =
      sum_below-same l (λ s. mul F (left i s) (sum_below j (λ t. mul F (c t) (e s t)))) (λ s. mul F (left i s) (times F j e (λ t k. c t) s 0))
      (λ s below. ap (mul F (left i s)) (combination j e c s))
      ∙ sym (times_assoc F laws l j left e (λ t k. c t) i 0)
      ∙ sym (combination j (times F l left e) c i)

  -- a factor on the left keeps a combination
  pub Combined-times : (m l : ℕ) (left e p : ℕ → ℕ → ℕ) (j : ℕ) (c : ℕ → ℕ)
      → ((i t : ℕ) → i < m → t ≤ j → p i t ≡ times F l left e i t) → Combined F l e j c → Combined F m p j c
  Combined-times m l left e p j c made combined i below =
      made i j below (omega arith)
      ∙ sum_below-same l (λ s. mul F (left i s) (e s j)) (λ s. mul F (left i s) (sum_below j (λ t. mul F (c t) (e s t))))
      (λ s within. ap (mul F (left i s)) (combined s within))
      ∙ combination-times l j left e c i
      ∙ sum_below-same j (λ t. mul F (c t) (times F l left e i t)) (λ t. mul F (c t) (p i t))
      (λ t before. ap (mul F (c t)) (sym (made i t below (omega (arith, before)))))

  -- with ones on the diagonal and zeros above it, a factor takes only zero to zero
  pub unit_lower-zero : (m : ℕ) (left : ℕ → ℕ → ℕ) (d : ℕ → ℕ) → ((i : ℕ) → i < m → left i i ≡ 1)
      → ((i s : ℕ) → i < s → s < m → left i s ≡ 0) → ((i : ℕ) → i < m → IsElement F (d i))
      → ((i : ℕ) → i < m → sum_below m (λ s. mul F (left i s) (d s)) ≡ 0) → (k i : ℕ) → i < k → i < m → d i ≡ 0
  unit_lower-zero m left d ones above elements none zero i before below = absurd (omega (arith, before))
  unit_lower-zero m left d ones above elements none (suc k) i before below =
      let earlier = unit_lower-zero m left d ones above elements none k in
      let others : (s : ℕ) → s < m → s ≢ i → mul F (left i s) (d s) ≡ 0
      = λ s within other. ⊎_elim
      (λ (later : i < s). ap (λ (x : ℕ). mul F x (d s)) (above i s later within) ∙ mul-zero_left F laws (d s))
      (λ (sooner : s ≤ i). ap (mul F (left i s)) (earlier s (omega (arith, sooner, other, before)) within) ∙ laws.annihilates (left i s))
      (cases_lt i s) in
      sym (laws.unit (d i) (elements i below))
      ∙ ap (λ (x : ℕ). mul F x (d i)) (sym (ones i below))
      ∙ sym (sum_below-single m i (λ s. mul F (left i s) (d s)) below others)
      ∙ none i below

  -- and gives a combination back
  pub Combined_from_times : (m : ℕ) (left e p : ℕ → ℕ → ℕ) (j : ℕ) (c : ℕ → ℕ) → ((i : ℕ) → i < m → left i i ≡ 1)
      → ((i s : ℕ) → i < s → s < m → left i s ≡ 0) → ((t : ℕ) → t < j → IsElement F (c t))
      → ((i t : ℕ) → i < m → t ≤ j → IsElement F (e i t)) → ((i t : ℕ) → i < m → t ≤ j → p i t ≡ times F m left e i t)
      → Combined F m p j c → Combined F m e j c
  Combined_from_times m left e p j c ones above coefficients entries made combined i below =
      let d : ℕ → ℕ = λ s. bit_xor (e s j) (sum_below j (λ t. mul F (c t) (e s t))) in
      let elements : (s : ℕ) → s < m → IsElement F (d s)
      = λ s within. xor_lt F.degree (e s j) (sum_below j (λ t. mul F (c t) (e s t))) (entries s j within (omega arith))
      (IsElement-combination j e c s coefficients (λ t before. entries s t within (omega (arith, before)))) in
      let none : (s : ℕ) → s < m → sum_below m (λ t. mul F (left s t) (d t)) ≡ 0
      = λ s within.
      times-xor_right F laws m left (λ t k. e t j) (λ t k. sum_below j (λ u. mul F (c u) (e t u))) s 0
      ∙ ap₂ bit_xor (sym (made s j within (omega arith)))
      (combination-times m j left e c s
      ∙ sum_below-same j (λ t. mul F (c t) (times F m left e s t)) (λ t. mul F (c t) (p s t))
      (λ t before. ap (mul F (c t)) (sym (made s t within (omega (arith, before)))))
      ∙ sym (combined s within))
      ∙ xor_self (p s j) in
      xor_zero_equal (e i j) (sum_below j (λ t. mul F (c t) (e i t))) (unit_lower-zero m left d ones above elements none m i below below)
