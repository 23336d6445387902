-- The product of polynomials from three products of their halves.
use Rattle.std.proofs.Common.{◌≡◌, ℕ, ◌+◌, ◌*◌, ◌^◌, ◌<◌, [], ◌∷◌, take, drop, refl, sym, ◌∙◌, ap, ap₂, arith, bit_xor}
use Rattle.std.proofs.lemmas.Nat.{pow-add}
use Rattle.m4_model.specs.Field.{sum_below, clmul}
use Rattle.m4_model.specs.Matrix.{Matrix}
use Rattle.m4_model.proofs.FieldLemmas.{sum_below-same}
use Rattle.m4_model.proofs.SumLemmas.{sum_below-xor}
use Rattle.m4_model.proofs.Polynomials.{xor_shift, clmul_comm, clmul-sum_left, clmul-sum_right, clmul-shift_right}
use Rattle.m4_model.proofs.XorLemmas.{Sum, term, plus, same_sums}
use Rattle.m4_karatsuba.specs.Polynomials.{polynomial, product_at}
use Rattle.m4_karatsuba.proofs.PolynomialLemmas.{polynomial-halves, sum_shifted}

clmul-shift_left : (a b k : ℕ) → clmul (a * 2 ^ k) b ≡ clmul a b * 2 ^ k
clmul-shift_left a b k = clmul_comm (a * 2 ^ k) b ∙ clmul-shift_right b a k ∙ ap (λ x. x * 2 ^ k) (clmul_comm b a)

-- a product of sums
of_sums : (a b c d : ℕ) → clmul (bit_xor a b) (bit_xor c d) ≡ bit_xor (bit_xor (clmul a c) (clmul a d)) (bit_xor (clmul b c) (clmul b d))
of_sums a b c d = clmul-sum_left (bit_xor c d) a b ∙ ap₂ bit_xor (clmul-sum_right a c d) (clmul-sum_right b c d)

four_sums : (l : ℕ) (p q r s : ℕ → ℕ) → sum_below l (λ t. bit_xor (bit_xor (p t) (q t)) (bit_xor (r t) (s t))) ≡ bit_xor (bit_xor (sum_below l p) (sum_below l q)) (bit_xor (sum_below l r) (sum_below l s))
four_sums l p q r s =
    sum_below-xor l (λ t. bit_xor (p t) (q t)) (λ t. bit_xor (r t) (s t)) ∙ ap₂ bit_xor (sum_below-xor l p q) (sum_below-xor l r s)

-- all terms, by how often each stands
terms_cancel : (c p ph qh qhh xh yh : ℕ)
    → bit_xor (bit_xor (bit_xor (bit_xor (bit_xor c p) ph) qh) qhh) (bit_xor (bit_xor ph xh) (bit_xor yh qh)) ≡ bit_xor c (bit_xor (bit_xor p xh) (bit_xor yh qhh))
terms_cancel c p ph qh qhh xh yh =
    let t : ℕ → Sum = term in
    same_sums (c ∷ p ∷ ph ∷ qh ∷ qhh ∷ xh ∷ yh ∷ [])
    (plus (plus (plus (plus (plus (t 0) (t 1)) (t 2)) (t 3)) (t 4)) (plus (plus (t 2) (t 5)) (plus (t 6) (t 3))))
    (plus (t 0) (plus (plus (t 1) (t 5)) (plus (t 6) (t 4)))) refl

middle_cancels : (p ph qh qhh xh yh : ℕ)
    → bit_xor p (bit_xor (bit_xor (bit_xor ph qh) (bit_xor (bit_xor ph xh) (bit_xor yh qh))) qhh) ≡ bit_xor (bit_xor p xh) (bit_xor yh qhh)
middle_cancels p ph qh qhh xh yh =
    let t : ℕ → Sum = term in
    same_sums (p ∷ ph ∷ qh ∷ qhh ∷ xh ∷ yh ∷ [])
    (plus (t 0) (plus (plus (plus (t 1) (t 2)) (plus (plus (t 1) (t 4)) (plus (t 5) (t 2)))) (t 3)))
    (plus (plus (t 0) (t 4)) (plus (t 5) (t 3))) refl

module _ (h l : ℕ) (a0 a1 b0 b1 : ℕ → ℕ) (c : ℕ) where
  P : ℕ
  P = sum_below l (λ t. clmul (a0 t) (b0 t))

  Q : ℕ
  Q = sum_below l (λ t. clmul (a1 t) (b1 t))

  X : ℕ
  X = sum_below l (λ t. clmul (a0 t) (b1 t))

  Y : ℕ
  Y = sum_below l (λ t. clmul (a1 t) (b0 t))

  whole : sum_below l (λ t. clmul (bit_xor (a0 t) (a1 t * 2 ^ h)) (bit_xor (b0 t) (b1 t * 2 ^ h))) ≡ bit_xor (bit_xor P (X * 2 ^ h)) (bit_xor (Y * 2 ^ h) (Q * 2 ^ h * 2 ^ h))
  unfolding P Q X Y
  whole =
      sum_below-same l _ (λ t. bit_xor (bit_xor (clmul (a0 t) (b0 t)) (clmul (a0 t) (b1 t) * 2 ^ h)) (bit_xor (clmul (a1 t) (b0 t) * 2 ^ h) (clmul (a1 t) (b1 t) * 2 ^ h * 2 ^ h))) (λ t _.
      of_sums (a0 t) (a1 t * 2 ^ h) (b0 t) (b1 t * 2 ^ h)
      ∙ ap₂ bit_xor (ap (bit_xor (clmul (a0 t) (b0 t))) (clmul-shift_right (a0 t) (b1 t) h))
      (ap₂ bit_xor (clmul-shift_left (a1 t) (b0 t) h) (clmul-shift_right (a1 t * 2 ^ h) (b1 t) h ∙ ap (λ x. x * 2 ^ h) (clmul-shift_left (a1 t) (b1 t) h))))
      ∙ four_sums l (λ t. clmul (a0 t) (b0 t)) (λ t. clmul (a0 t) (b1 t) * 2 ^ h) (λ t. clmul (a1 t) (b0 t) * 2 ^ h) (λ t. clmul (a1 t) (b1 t) * 2 ^ h * 2 ^ h)
      ∙ ap₂ bit_xor (ap (bit_xor (sum_below l (λ t. clmul (a0 t) (b0 t)))) (sum_shifted l h (λ t. clmul (a0 t) (b1 t))))
      (ap₂ bit_xor (sum_shifted l h (λ t. clmul (a1 t) (b0 t)))
      (sum_shifted l h (λ t. clmul (a1 t) (b1 t) * 2 ^ h) ∙ ap (λ x. x * 2 ^ h) (sum_shifted l h (λ t. clmul (a1 t) (b1 t)))))

  middle : sum_below l (λ t. clmul (bit_xor (a0 t) (a1 t)) (bit_xor (b0 t) (b1 t))) * 2 ^ h ≡ bit_xor (bit_xor (P * 2 ^ h) (X * 2 ^ h)) (bit_xor (Y * 2 ^ h) (Q * 2 ^ h))
  unfolding P Q X Y
  middle =
      ap (λ x. x * 2 ^ h) (sum_below-same l _ _ (λ t _. of_sums (a0 t) (a1 t) (b0 t) (b1 t))
      ∙ four_sums l (λ t. clmul (a0 t) (b0 t)) (λ t. clmul (a0 t) (b1 t)) (λ t. clmul (a1 t) (b0 t)) (λ t. clmul (a1 t) (b1 t)))
      ∙ sym (xor_shift _ _ h)
      ∙ ap₂ bit_xor (sym (xor_shift _ _ h)) (sym (xor_shift _ _ h))

  pub three_products :
      bit_xor (bit_xor (bit_xor (bit_xor (bit_xor c (sum_below l (λ t. clmul (a0 t) (b0 t)) * 2 ^ 0)) (sum_below l (λ t. clmul (a0 t) (b0 t)) * 2 ^ h)) (sum_below l (λ t. clmul (a1 t) (b1 t)) * 2 ^ h)) (sum_below l (λ t. clmul (a1 t) (b1 t)) * 2 ^ (2 * h)))
      (sum_below l (λ t. clmul (bit_xor (a0 t) (a1 t)) (bit_xor (b0 t) (b1 t))) * 2 ^ h)
      ≡ bit_xor c (sum_below l (λ t. clmul (bit_xor (a0 t) (a1 t * 2 ^ h)) (bit_xor (b0 t) (b1 t * 2 ^ h))))
  unfolding P Q X Y
  three_products =
      let one : sum_below l (λ t. clmul (a0 t) (b0 t)) * 2 ^ 0 ≡ sum_below l (λ t. clmul (a0 t) (b0 t)) = omega arith in
      let twice : 2 ^ (2 * h) ≡ 2 ^ h * 2 ^ h = (let e : 2 * h ≡ h + h = omega arith in ap (λ x. 2 ^ x) e ∙ pow-add 2 h h) in
      let high : Q * 2 ^ (2 * h) ≡ Q * 2 ^ h * 2 ^ h = rw twice (grind arith) in
      ap₂ bit_xor (ap₂ bit_xor (ap (λ x. bit_xor (bit_xor (bit_xor c x) (P * 2 ^ h)) (Q * 2 ^ h)) one) high) middle
      ∙ terms_cancel c P (P * 2 ^ h) (Q * 2 ^ h) (Q * 2 ^ h * 2 ^ h) (X * 2 ^ h) (Y * 2 ^ h)
      ∙ ap (bit_xor c) (sym whole)

-- the sum of products itself
module _ (h l : ℕ) (a0 a1 b0 b1 : ℕ → ℕ) where
  by_three :
      sum_below l (λ t. clmul (bit_xor (a0 t) (a1 t * 2 ^ h)) (bit_xor (b0 t) (b1 t * 2 ^ h)))
      ≡ bit_xor (P h l a0 a1 b0 b1 0) (bit_xor (bit_xor (bit_xor (P h l a0 a1 b0 b1 0 * 2 ^ h) (Q h l a0 a1 b0 b1 0 * 2 ^ h)) (sum_below l (λ t. clmul (bit_xor (a0 t) (a1 t)) (bit_xor (b0 t) (b1 t))) * 2 ^ h)) (Q h l a0 a1 b0 b1 0 * 2 ^ h * 2 ^ h))
  by_three =
      let p = P h l a0 a1 b0 b1 0 in
      let q = Q h l a0 a1 b0 b1 0 in
      whole h l a0 a1 b0 b1 0
      ∙ sym (middle_cancels p (p * 2 ^ h) (q * 2 ^ h) (q * 2 ^ h * 2 ^ h) (X h l a0 a1 b0 b1 0 * 2 ^ h) (Y h l a0 a1 b0 b1 0 * 2 ^ h))
      ∙ ap (λ m. bit_xor p (bit_xor (bit_xor (bit_xor (p * 2 ^ h) (q * 2 ^ h)) m) (q * 2 ^ h * 2 ^ h))) (sym (middle h l a0 a1 b0 b1 0))

-- as it is said
pub law : (h l : ℕ) (a b c d : ℕ → ℕ) →
    sum_below l (λ t. clmul (bit_xor (a t) (b t * 2 ^ h)) (bit_xor (c t) (d t * 2 ^ h)))
    ≡ bit_xor (sum_below l (λ t. clmul (a t) (c t)))
    (bit_xor (bit_xor (bit_xor (sum_below l (λ t. clmul (a t) (c t)) * 2 ^ h) (sum_below l (λ t. clmul (b t) (d t)) * 2 ^ h)) (sum_below l (λ t. clmul (bit_xor (a t) (b t)) (bit_xor (c t) (d t))) * 2 ^ h))
    (sum_below l (λ t. clmul (b t) (d t)) * 2 ^ h * 2 ^ h))
unfolding P Q
law h l a b c d = by_three h l a b c d

-- of slices
pub halves_product : (h k m l : ℕ) (A B la ha lb hb : Matrix) → la.entries ≡ take (h * m) A.entries → ha.entries ≡ drop (h * m) A.entries
    → lb.entries ≡ take (h * l) B.entries → hb.entries ≡ drop (h * l) B.entries → (i j : ℕ) → i < m → (c0 c1 c2 c3 : ℕ)
    → c1 ≡ bit_xor (bit_xor c0 (product_at h m l la lb i j * 2 ^ 0)) (product_at h m l la lb i j * 2 ^ h)
    → c2 ≡ bit_xor (bit_xor c1 (product_at k m l ha hb i j * 2 ^ h)) (product_at k m l ha hb i j * 2 ^ (2 * h))
    → c3 ≡ bit_xor c2 (sum_below l (λ t. clmul (bit_xor (polynomial h m la i t) (polynomial k m ha i t)) (bit_xor (polynomial h l lb t j) (polynomial k l hb t j))) * 2 ^ h)
    → c3 ≡ bit_xor c0 (product_at (h + k) m l A B i j)
unfolding product_at
halves_product h k m l A B la ha lb hb is_la is_ha is_lb is_hb i j below c0 c1 c2 c3 one two three =
    let high : ℕ = sum_below l (λ t. clmul (polynomial k m ha i t) (polynomial k l hb t j)) in
    let middle : ℕ = sum_below l (λ t. clmul (bit_xor (polynomial h m la i t) (polynomial k m ha i t)) (bit_xor (polynomial h l lb t j) (polynomial k l hb t j))) in
    three ∙ ap (λ x. bit_xor x (middle * 2 ^ h)) (two ∙ ap (λ x. bit_xor (bit_xor x (high * 2 ^ h)) (high * 2 ^ (2 * h))) one)
    ∙ three_products h l (λ t. polynomial h m la i t) (λ t. polynomial k m ha i t) (λ t. polynomial h l lb t j) (λ t. polynomial k l hb t j) c0
    ∙ ap (bit_xor c0) (sum_below-same l _ _ (λ t less. ap₂ clmul (sym (polynomial-halves h k m A la ha is_la is_ha i t below)) (sym (polynomial-halves h k l B lb hb is_lb is_hb t j less))))
