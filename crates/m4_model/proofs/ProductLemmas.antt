-- Products of matrices by their entries, as functions of the row and the column: associative, distributive, with zeros,
-- with the identity, transposed, and by blocks.
use Rattle.std.proofs.Common.{◌≡◌, ◌≢◌, ℕ, ◌+◌, ◌<◌, refl, sym, ◌∙◌, ap, ap₂, bit_xor, if◌then◌else◌, ◌==◌}
use Rattle.std.proofs.lemmas.Bool.{eq-eqb, ne_eqb}
use Rattle.m4_model.specs.Field.{Field, IsElement, sum_below, mul}
use Rattle.m4_model.proofs.FieldLaws.{FieldLaws}
use Rattle.m4_model.proofs.FieldLemmas.{sum_below-same, sum_below-lt}
use Rattle.m4_model.proofs.SumLemmas.{sum_below-zero, sum_below-xor, sum_below-exchange, sum_below-split, sum_below-single, mul-zero_left, mul-one_right, mul-xor_left, mul-sum_below, sum_below-mul}

-- entry (i, j) of the product of a, of l columns, and b
abbrev pub times : Field → ℕ → (ℕ → ℕ → ℕ) → (ℕ → ℕ → ℕ) → ℕ → ℕ → ℕ
times F l a b i j = sum_below l (λ t. mul F (a i t) (b t j))

-- entry (i, j) of the identity
abbrev pub unit_at : ℕ → ℕ → ℕ
unit_at i j = if i == j then 1 else 0

-- it is 1 on the diagonal
pub unit_at-same : (i j : ℕ) → i ≡ j → unit_at i j ≡ 1
unit_at-same i j same = rw (eq-eqb i j same) refl

-- and 0 elsewhere
pub unit_at-other : (i j : ℕ) → i ≢ j → unit_at i j ≡ 0
unit_at-other i j other = rw (ne_eqb i j other) refl

-- a row of one factor and a column of the other decide an entry
pub times-same : (F : Field) (l : ℕ) (a b c d : ℕ → ℕ → ℕ) (i j k m : ℕ) → ((t : ℕ) → t < l → a i t ≡ c k t)
    → ((t : ℕ) → t < l → b t j ≡ d t m) → times F l a b i j ≡ times F l c d k m
times-same F l a b c d i j k m rows cols =
    sum_below-same l (λ t. mul F (a i t) (b t j)) (λ t. mul F (c k t) (d t m)) (λ t below. ap₂ (mul F) (rows t below) (cols t below))

module _ (F : Field) (laws : FieldLaws F) where
  -- an entry of a product of elements is an element
  pub IsElement-times : (l : ℕ) (a b : ℕ → ℕ → ℕ) (i j : ℕ) → ((t : ℕ) → t < l → IsElement F (a i t))
      → ((t : ℕ) → t < l → IsElement F (b t j)) → IsElement F (times F l a b i j)
  IsElement-times l a b i j rows cols =
      sum_below-lt F.degree l (λ t. mul F (a i t) (b t j)) (λ t below. laws.closed (a i t) (b t j) (rows t below) (cols t below))

  -- products are associative
  pub times_assoc : (k l : ℕ) (a b c : ℕ → ℕ → ℕ) (i j : ℕ)
      → times F l (times F k a b) c i j ≡ times F k a (times F l b c) i j
  times_assoc k l a b c i j =
      sum_below-same l (λ t. mul F (times F k a b i t) (c t j)) (λ t. sum_below k (λ s. mul F (a i s) (mul F (b s t) (c t j))))
      (λ t below. sum_below-mul F laws k (λ s. mul F (a i s) (b s t)) (c t j)
      ∙ sum_below-same k (λ s. mul F (mul F (a i s) (b s t)) (c t j)) (λ s. mul F (a i s) (mul F (b s t) (c t j)))
      (λ s within. laws.assoc (a i s) (b s t) (c t j)))
      ∙ sum_below-exchange l k (λ t s. mul F (a i s) (mul F (b s t) (c t j)))
      ∙ sum_below-same k (λ s. sum_below l (λ t. mul F (a i s) (mul F (b s t) (c t j)))) (λ s. mul F (a i s) (times F l b c s j))
      (λ s within. sym (mul-sum_below F laws (a i s) l (λ t. mul F (b s t) (c t j))))

  -- a product with a sum on the right
  pub times-xor_right : (l : ℕ) (a b c : ℕ → ℕ → ℕ) (i j : ℕ)
      → times F l a (λ t k. bit_xor (b t k) (c t k)) i j ≡ bit_xor (times F l a b i j) (times F l a c i j)
  times-xor_right l a b c i j =
      sum_below-same l (λ t. mul F (a i t) (bit_xor (b t j) (c t j))) (λ t. bit_xor (mul F (a i t) (b t j)) (mul F (a i t) (c t j)))
      (λ t below. laws.distrib (a i t) (b t j) (c t j))
      ∙ sum_below-xor l (λ t. mul F (a i t) (b t j)) (λ t. mul F (a i t) (c t j))

  -- a product with a sum on the left
  pub times-xor_left : (l : ℕ) (a b c : ℕ → ℕ → ℕ) (i j : ℕ)
      → times F l (λ k t. bit_xor (a k t) (b k t)) c i j ≡ bit_xor (times F l a c i j) (times F l b c i j)
  times-xor_left l a b c i j =
      sum_below-same l (λ t. mul F (bit_xor (a i t) (b i t)) (c t j)) (λ t. bit_xor (mul F (a i t) (c t j)) (mul F (b i t) (c t j)))
      (λ t below. mul-xor_left F laws (a i t) (b i t) (c t j))
      ∙ sum_below-xor l (λ t. mul F (a i t) (c t j)) (λ t. mul F (b i t) (c t j))

  -- a row of zeros makes zeros
  pub times-zero_row : (l : ℕ) (a b : ℕ → ℕ → ℕ) (i j : ℕ) → ((t : ℕ) → t < l → a i t ≡ 0) → times F l a b i j ≡ 0
  times-zero_row l a b i j none =
      sum_below-zero l (λ t. mul F (a i t) (b t j)) (λ t below. ap (λ (x : ℕ). mul F x (b t j)) (none t below) ∙ mul-zero_left F laws (b t j))

  -- a column of zeros makes zeros
  pub times-zero_col : (l : ℕ) (a b : ℕ → ℕ → ℕ) (i j : ℕ) → ((t : ℕ) → t < l → b t j ≡ 0) → times F l a b i j ≡ 0
  times-zero_col l a b i j none =
      sum_below-zero l (λ t. mul F (a i t) (b t j)) (λ t below. ap (mul F (a i t)) (none t below) ∙ laws.annihilates (a i t))

  -- a row that is the k-th of the identity picks row k
  pub times-unit_row : (l : ℕ) (a b : ℕ → ℕ → ℕ) (i j k : ℕ) → k < l → ((t : ℕ) → t < l → a i t ≡ unit_at k t) → IsElement F (b k j)
      → times F l a b i j ≡ b k j
  times-unit_row l a b i j k within row element =
      sum_below-single l k (λ t. mul F (a i t) (b t j)) within (λ t below other.
      ap (λ (x : ℕ). mul F x (b t j)) (row t below ∙ unit_at-other k t (λ same. other (sym same))) ∙ mul-zero_left F laws (b t j))
      ∙ ap (λ (x : ℕ). mul F x (b k j)) (row k within ∙ unit_at-same k k refl)
      ∙ laws.unit (b k j) element

  -- a column that is the k-th of the identity picks column k
  pub times-unit_col : (l : ℕ) (a b : ℕ → ℕ → ℕ) (i j k : ℕ) → k < l → ((t : ℕ) → t < l → b t j ≡ unit_at t k) → IsElement F (a i k)
      → times F l a b i j ≡ a i k
  times-unit_col l a b i j k within col element =
      sum_below-single l k (λ t. mul F (a i t) (b t j)) within (λ t below other.
      ap (mul F (a i t)) (col t below ∙ unit_at-other t k other) ∙ laws.annihilates (a i t))
      ∙ ap (mul F (a i k)) (col k within ∙ unit_at-same k k refl)
      ∙ mul-one_right F laws (a i k) element

  -- the product of the transposes in the other order
  pub times-transposed : (l : ℕ) (a b : ℕ → ℕ → ℕ) (i j : ℕ) → times F l a b i j ≡ times F l (λ k t. b t k) (λ t k. a k t) j i
  times-transposed l a b i j =
      sum_below-same l (λ t. mul F (a i t) (b t j)) (λ t. mul F (b t j) (a i t)) (λ t below. laws.comm (a i t) (b t j))

  -- a product by blocks of the inner index is a sum of two products
  pub times-split : (k l : ℕ) (a b : ℕ → ℕ → ℕ) (i j : ℕ)
      → times F (k + l) a b i j ≡ bit_xor (times F k a b i j) (times F l (λ s t. a s (k + t)) (λ t s. b (k + t) s) i j)
  times-split k l a b i j = sum_below-split k l (λ t. mul F (a i t) (b t j))

  -- a multiple of the left factor makes a multiple of the product
  pub times-multiple : (l x : ℕ) (a b : ℕ → ℕ → ℕ) (i j : ℕ) → times F l (λ k t. mul F x (a k t)) b i j ≡ mul F x (times F l a b i j)
  times-multiple l x a b i j =
      sum_below-same l (λ t. mul F (mul F x (a i t)) (b t j)) (λ t. mul F x (mul F (a i t) (b t j))) (λ t below. laws.assoc x (a i t) (b t j))
      ∙ sym (mul-sum_below F laws x l (λ t. mul F (a i t) (b t j)))
