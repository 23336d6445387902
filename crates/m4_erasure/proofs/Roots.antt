-- A polynomial that isn't zero has fewer roots than coefficients, so the matrix of the powers of differing points takes only
-- zero to zero.
use Rattle.std.proofs.Common.{◌≡◌, ◌≢◌, ℕ, zero, suc, ◌^◌, ◌<◌, List, [], ◌∷◌, length, refl, sym, ◌∙◌, ap, ap₂, arith, bit_xor}
use Rattle.std.specs.Int.Bits.{xor_assoc, xor_comm, xor_lt, xor_zero_l, xor_zero_r}
use Rattle.m4_model.specs.Field.{Field, IsElement, sum_below, mul}
use Rattle.m4_model.proofs.FieldLaws.{FieldLaws}
use Rattle.m4_model.proofs.FieldLemmas.{sum_below-same}
use Rattle.m4_model.proofs.SumLemmas.{mul-xor_left, mul-sum_below, zero_from_mul}
use Rattle.m4_model.proofs.Polynomials.{xor_twice, xor_zero_equal, sum_below-first}
use Rattle.m4_erasure.specs.Shards.{gf256, power}
use Rattle.m4_erasure.proofs.Gf256.{gf256_laws}

-- the value at b of the polynomial of these coefficients, the lowest first, by Horner's rule
abbrev pub evaluated : Field → List ℕ → ℕ → ℕ
evaluated F [] b = 0
evaluated F (c ∷ cs) b = bit_xor c (mul F b (evaluated F cs b))

-- the coefficients of the quotient by x + a of x times this polynomial: its values at a by Horner's rule
abbrev pub quotient : Field → List ℕ → ℕ → List ℕ
quotient F [] a = []
quotient F (d ∷ ds) a = evaluated F (d ∷ ds) a ∷ quotient F ds a

abbrev pub AreElements : Field → List ℕ → Type 0
AreElements F [] = Unit {0}
AreElements F (c ∷ cs) = IsElement F c × AreElements F cs

abbrev pub AreZero : List ℕ → Type 0
AreZero [] = Unit {0}
AreZero (c ∷ cs) = (c ≡ 0) × AreZero cs

-- two terms that cancel
cancelled : (c x y z : ℕ) → bit_xor (bit_xor c x) (bit_xor (bit_xor y x) z) ≡ bit_xor c (bit_xor y z)
cancelled c x y z =
    xor_assoc c x (bit_xor (bit_xor y x) z)
    ∙ ap (λ (w : ℕ). bit_xor c (bit_xor x (bit_xor w z))) (xor_comm y x)
    ∙ ap (λ (w : ℕ). bit_xor c (bit_xor x w)) (xor_assoc x y z)
    ∙ ap (bit_xor c) (xor_twice x (bit_xor y z))

module _ (F : Field) (laws : FieldLaws F) where
  IsElement-evaluated : (cs : List ℕ) (b : ℕ) → AreElements F cs → IsElement F b → 0 < 2 ^ F.degree → IsElement F (evaluated F cs b)
  IsElement-evaluated [] b elements point some = some
  IsElement-evaluated (c ∷ cs) b elements point some =
      xor_lt F.degree c (mul F b (evaluated F cs b)) elements.0
      (laws.closed b (evaluated F cs b) point (IsElement-evaluated cs b elements.1 point some))

  AreElements-quotient : (cs : List ℕ) (a : ℕ) → AreElements F cs → IsElement F a → 0 < 2 ^ F.degree → AreElements F (quotient F cs a)
  AreElements-quotient [] a elements point some = tt
  AreElements-quotient (c ∷ cs) a elements point some =
      (IsElement-evaluated (c ∷ cs) a elements point some, AreElements-quotient cs a elements.1 point some)

  length-quotient : (cs : List ℕ) (a : ℕ) → length (quotient F cs a) ≡ length cs
  length-quotient [] a = refl
  length-quotient (c ∷ cs) a = let e = length-quotient cs a in omega (arith, e)

  -- the division by x + a leaves the value at a
  divided : (c : ℕ) (cs : List ℕ) (a b : ℕ)
      → evaluated F (c ∷ cs) b ≡ bit_xor (evaluated F (c ∷ cs) a) (mul F (bit_xor b a) (evaluated F (quotient F cs a) b))
  divided c [] a b =
      ap (bit_xor c) (laws.annihilates b)
      ∙ sym (ap₂ bit_xor (ap (bit_xor c) (laws.annihilates a)) (laws.annihilates (bit_xor b a)) ∙ xor_zero_r (bit_xor c 0))
  divided c (d ∷ ds) a b =
      let at_a : ℕ = evaluated F (d ∷ ds) a in
      let behind : ℕ = evaluated F (quotient F ds a) b in
      let moved : mul F (bit_xor b a) (mul F b behind) ≡ mul F b (mul F (bit_xor b a) behind) =
      sym (laws.assoc (bit_xor b a) b behind) ∙ ap (λ (x : ℕ). mul F x behind) (laws.comm (bit_xor b a) b) ∙ laws.assoc b (bit_xor b a) behind in
      ap (λ (x : ℕ). bit_xor c (mul F b x)) (divided d ds a b)
      ∙ ap (bit_xor c) (laws.distrib b at_a (mul F (bit_xor b a) behind))
      ∙ sym (ap (bit_xor (bit_xor c (mul F a at_a)))
      (laws.distrib (bit_xor b a) at_a (mul F b behind) ∙ ap₂ bit_xor (mul-xor_left F laws b a at_a) moved)
      ∙ cancelled c (mul F a at_a) (mul F b at_a) (mul F b (mul F (bit_xor b a) behind)))

  -- where the quotient's coefficients are zero, the polynomial's are
  zero_from_quotient : (cs : List ℕ) (a : ℕ) → AreZero (quotient F cs a) → (evaluated F cs a ≡ 0) × AreZero cs
  zero_from_quotient [] a zeros = (refl, tt)
  zero_from_quotient (d ∷ ds) a zeros =
      let behind = zero_from_quotient ds a zeros.1 in (
        zeros.0,
        (sym (xor_zero_r d) ∙ ap (bit_xor d) (sym (ap (mul F a) behind.0 ∙ laws.annihilates a)) ∙ zeros.0, behind.1),
      )

  -- a polynomial with as many roots as coefficients is zero
  pub zero_from_roots : (n : ℕ) (cs : List ℕ) (points : ℕ → ℕ) → length cs ≡ n → AreElements F cs → 0 < 2 ^ F.degree
      → ((j : ℕ) → j < n → IsElement F (points j)) → ((i j : ℕ) → i < j → j < n → points i ≢ points j)
      → ((j : ℕ) → j < n → evaluated F cs (points j) ≡ 0) → AreZero cs
  zero_from_roots n [] points long elements some are differ roots = tt
  zero_from_roots zero (c ∷ cs) points long elements some are differ roots = absurd (omega (arith, long))
  zero_from_roots (suc n) (c ∷ cs) points long elements some are differ roots =
      let a : ℕ = points 0 in
      let first : 0 < suc n = omega arith in
      let root : evaluated F (c ∷ cs) a ≡ 0 = roots 0 first in
      let others : (j : ℕ) → j < n → evaluated F (quotient F cs a) (points (suc j)) ≡ 0 = λ j below.
      let inside : suc j < suc n = omega (arith, below) in
      let b : ℕ = points (suc j) in
      let apart : bit_xor b a ≢ 0 = λ none. differ 0 (suc j) (omega arith) inside (sym (xor_zero_equal b a none)) in
      let none : mul F (bit_xor b a) (evaluated F (quotient F cs a) b) ≡ 0 =
      sym (xor_zero_l (mul F (bit_xor b a) (evaluated F (quotient F cs a) b)))
      ∙ ap (λ (x : ℕ). bit_xor x (mul F (bit_xor b a) (evaluated F (quotient F cs a) b))) (sym root)
      ∙ sym (divided c cs a b) ∙ roots (suc j) inside in
      zero_from_mul F laws (bit_xor b a) (evaluated F (quotient F cs a) b) (xor_lt F.degree b a (are (suc j) inside) (are 0 first))
      (IsElement-evaluated (quotient F cs a) b (AreElements-quotient cs a elements.1 (are 0 first) some) (are (suc j) inside) some)
      apart none in
      let short : length (quotient F cs a) ≡ n = let e = length-quotient cs a in omega (arith, e, long) in
      let zeros = zero_from_roots n (quotient F cs a) (λ j. points (suc j)) short (AreElements-quotient cs a elements.1 (are 0 first) some) some
      (λ j below. are (suc j) (omega (arith, below))) (λ i j less below. differ (suc i) (suc j) (omega (arith, less)) (omega (arith, below))) others in
      let behind = zero_from_quotient cs a zeros in
      (sym (xor_zero_r c) ∙ ap (bit_xor c) (sym (ap (mul F a) behind.0 ∙ laws.annihilates a)) ∙ root, behind.1)

-- the first n coefficients of a polynomial
abbrev pub coefficients : ℕ → (ℕ → ℕ) → List ℕ
coefficients zero c = []
coefficients (suc n) c = c 0 ∷ coefficients n (λ i. c (suc i))

length-coefficients : (n : ℕ) (c : ℕ → ℕ) → length (coefficients n c) ≡ n
length-coefficients zero c = refl
length-coefficients (suc n) c = let e = length-coefficients n (λ i. c (suc i)) in omega (arith, e)

AreElements-coefficients : (n : ℕ) (c : ℕ → ℕ) → ((i : ℕ) → i < n → IsElement gf256 (c i)) → AreElements gf256 (coefficients n c)
AreElements-coefficients zero c elements = tt
AreElements-coefficients (suc n) c elements =
    (elements 0 (omega arith), AreElements-coefficients n (λ i. c (suc i)) (λ i below. elements (suc i) (omega (arith, below))))

one_from_zeros : (n : ℕ) (c : ℕ → ℕ) → AreZero (coefficients n c) → (i : ℕ) → i < n → c i ≡ 0
one_from_zeros zero c zeros i below = absurd (omega (arith, below))
one_from_zeros (suc n) c zeros zero below = zeros.0
one_from_zeros (suc n) c zeros (suc i) below = one_from_zeros n (λ i. c (suc i)) zeros.1 i (omega (arith, below))

-- the value by Horner's rule is the sum with powers
pub evaluated-coefficients : (n : ℕ) (c : ℕ → ℕ) (b : ℕ) → ((i : ℕ) → i < n → IsElement gf256 (c i))
    → evaluated gf256 (coefficients n c) b ≡ sum_below n (λ i. mul gf256 (power b i) (c i))
unfolding power sum_below
evaluated-coefficients zero c b elements = refl
evaluated-coefficients (suc n) c b elements =
    ap₂ bit_xor (sym (gf256_laws.unit (c 0) (elements 0 (omega arith))))
    (ap (mul gf256 b) (evaluated-coefficients n (λ i. c (suc i)) b (λ i below. elements (suc i) (omega (arith, below))))
    ∙ mul-sum_below gf256 gf256_laws b n (λ i. mul gf256 (power b i) (c (suc i)))
    ∙ sum_below-same n (λ i. mul gf256 b (mul gf256 (power b i) (c (suc i)))) (λ i. mul gf256 (power b (suc i)) (c (suc i)))
    (λ i below. sym (gf256_laws.assoc b (power b i) (c (suc i)))))
    ∙ sym (sum_below-first n (λ i. mul gf256 (power b i) (c i)))

pub IsElement-power : (x : ℕ) → x < 256 → (i : ℕ) → IsElement gf256 (power x i)
unfolding power
IsElement-power x point zero = omega arith
IsElement-power x point (suc i) = gf256_laws.closed x (power x i) point (IsElement-power x point i)

-- where the polynomial of these coefficients is zero at so many points, the coefficients are
pub zero_from_sums : (n : ℕ) (c points : ℕ → ℕ) → ((i : ℕ) → i < n → IsElement gf256 (c i)) → ((j : ℕ) → j < n → points j < 256)
    → ((i j : ℕ) → i < j → j < n → points i ≢ points j)
    → ((j : ℕ) → j < n → sum_below n (λ i. mul gf256 (power (points j) i) (c i)) ≡ 0) → (i : ℕ) → i < n → c i ≡ 0
zero_from_sums n c points elements are differ roots =
    one_from_zeros n c (zero_from_roots gf256 gf256_laws n (coefficients n c) points (length-coefficients n c)
    (AreElements-coefficients n c elements) (omega arith) are differ
    (λ j below. evaluated-coefficients n c (points j) elements ∙ roots j below))
