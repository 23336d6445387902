-- Every field of the definition has the laws of a field.
use Rattle.std.proofs.Common.{◌≡◌, ◌≢◌, ℕ, zero, suc, ◌+◌, ◌-◌, ◌^◌, ◌<◌, ◌≤◌, refl, sym, ◌∙◌, ap, subst, arith, inl, inr, bit_xor}
use Rattle.std.proofs.Math.Pow.{pow_pos, pow_mono}
use Rattle.std.specs.Int.Bits.{xor_lt, xor_zero_r}
use Rattle.m4_model.specs.Field.{Field, IsField, IsElement, IsExtension, bit_length, clmul, rem, mul}
use Rattle.m4_model.proofs.FieldLaws.{FieldLaws}
use Rattle.m4_model.proofs.Polynomials.{clmul_comm, clmul_assoc, clmul-zero, clmul-one_left, clmul-sum_right}
use Rattle.m4_model.proofs.Division.{IsTop, Divides, product_top, has_top, below_or_top, divide}
use Rattle.m4_model.proofs.Remainder.{Congruent, congruent_sym, congruent_sum, congruent_product, congruent_multiple, rem_congruent, rem_small, rem_same, rem_element}

-- the polynomial of a field has its highest bit at the degree
field_top : (F : Field) → IsField F → IsTop F.degree F.poly
field_top F (inl is) = let P : Field → Type 0 = λ G. IsTop G.degree G.poly in subst P (sym is) (record { low = omega arith; high = omega arith })
field_top F (inr extension) =
    record { low = extension.poly_low; high = let h = extension.poly_high in let e : F.degree + 1 ≡ suc F.degree = omega arith in rw e at h }

module _ (F : Field) (top : IsTop F.degree F.poly) where
  -- a factor may be reduced first
  reduce_left : (a b : ℕ) → Congruent F.poly (clmul (rem F a) b) (clmul a b)
  reduce_left a b = congruent_product F.poly (rem F a) a b (congruent_sym F.poly a (rem F a) (rem_congruent F top a))

  reduce_right : (a b : ℕ) → Congruent F.poly (clmul a (rem F b)) (clmul a b)
  reduce_right a b =
      let P : ℕ → Type 0 = λ x. Congruent F.poly x (clmul a b) in
      let Q : ℕ → Type 0 = λ x. Congruent F.poly (clmul (rem F b) a) x in
      subst P (clmul_comm (rem F b) a) (subst Q (clmul_comm b a) (reduce_left b a))

  mul_comm : (a b : ℕ) → mul F a b ≡ mul F b a
  unfolding mul
  mul_comm a b = ap (rem F) (clmul_comm a b)

  mul_assoc : (a b c : ℕ) → mul F (mul F a b) c ≡ mul F a (mul F b c)
  unfolding mul
  mul_assoc a b c =
      rem_same F top (clmul (rem F (clmul a b)) c) (clmul (clmul a b) c) (reduce_left (clmul a b) c)
      ∙ ap (rem F) (clmul_assoc a b c)
      ∙ sym (rem_same F top (clmul a (rem F (clmul b c))) (clmul a (clmul b c)) (reduce_right a (clmul b c)))

  -- the remainder of a sum
  rem_sum : (a b : ℕ) → rem F (bit_xor a b) ≡ bit_xor (rem F a) (rem F b)
  rem_sum a b =
      rem_same F top (bit_xor a b) (bit_xor (rem F a) (rem F b))
      (congruent_sum F.poly a (rem F a) b (rem F b) (rem_congruent F top a) (rem_congruent F top b))
      ∙ rem_element F top (bit_xor (rem F a) (rem F b)) (xor_lt F.degree (rem F a) (rem F b) (rem_small F top a) (rem_small F top b))

  mul_distrib : (a b c : ℕ) → mul F a (bit_xor b c) ≡ bit_xor (mul F a b) (mul F a c)
  unfolding mul
  mul_distrib a b c = ap (rem F) (clmul-sum_right a b c) ∙ rem_sum (clmul a b) (clmul a c)

  mul_zero : (a : ℕ) → mul F a 0 ≡ 0
  unfolding mul
  mul_zero a = ap (rem F) (clmul-zero a) ∙ rem_element F top 0 (pow_pos F.degree)

  mul_closed : (a b : ℕ) → IsElement F (mul F a b)
  unfolding mul
  mul_closed a b = rem_small F top (clmul a b)

  mul_unit : (a : ℕ) → IsElement F a → mul F 1 a ≡ a
  unfolding mul
  mul_unit a element = ap (rem F) (clmul-one_left a) ∙ rem_element F top a element

  -- if the polynomial is a q + r, then a q is r
  mul_quotient : (a q r b : ℕ) → F.poly ≡ bit_xor (clmul a q) r → mul F a (mul F q b) ≡ mul F r b
  unfolding mul
  mul_quotient a q r b whole =
      rem_same F top (clmul a (rem F (clmul q b))) (clmul a (clmul q b)) (reduce_right a (clmul q b))
      ∙ ap (rem F) (sym (clmul_assoc a q b))
      ∙ rem_same F top (clmul (clmul a q) b) (clmul r b) (congruent_product F.poly (clmul a q) r b (congruent_multiple F.poly a q r whole))

  Inverse : ℕ → Type 0
  Inverse a = (b : ℕ) × IsElement F b × (mul F a b ≡ 1)

-- the inverse of an element of an extension field, by the inverse of the rest of the polynomial divided by it
inverse_below : (F : Field) (extension : IsExtension F) (m a : ℕ) → a < 2 ^ m → 0 < a → IsElement F a → (b : ℕ) × IsElement F b × (mul F a b ≡ 1)
inverse_below F extension zero a below some element = absurd (omega arith)
inverse_below F extension (suc m) a below some element = elim (below_or_top m a below) [
  | inl small ↦ inverse_below F extension m a small some element
  | inr high ↦ inverse_at m a high element (inverse_below F extension m)
]
  where
    ftop : IsTop F.degree F.poly
    ftop = field_top F (inr extension)

    one_element : 1 < 2 ^ F.degree
    one_element = let h = pow_mono {i = 1} {j = F.degree} (let d = extension.degree_low in omega arith) in omega (arith, h)

    -- the rest isn't 0, since the polynomial is irreducible
    no_factor : (m a q : ℕ) → IsTop (suc m) a → IsElement F a → F.poly ≡ clmul a q → ⊥
    no_factor m a zero high element whole =
        let none = whole ∙ clmul-zero a in
        let l = ftop.low in
        let p = pow_pos F.degree in
        absurd (omega (arith, none, l, p))
    no_factor m a (suc q) high element whole =
        let k = bit_length (suc q) - 1 in
        let t = has_top (suc q) (omega arith) in
        let P : ℕ → Type 0 = IsTop (k + suc m) in
        let big = subst P (sym whole) (product_top k (suc m) a (suc q) high t) in
        let same : k + suc m ≡ F.degree = one_top (k + suc m) F.degree F.poly big ftop in
        let a_below : suc m < F.degree = exponent_lt (suc m) F.degree a high.low element in
        let k_some : 1 ≤ k = omega arith in
        let k_below : suc k ≤ F.degree = omega arith in
        let a_large : 2 ≤ a = let h = pow_mono {i = 1} {j = suc m} (omega arith) in let l = high.low in omega (arith, h, l) in
        let q_large : 2 ≤ suc q = let h = pow_mono {i = 1} {j = k} k_some in let l = t.low in omega (arith, h, l) in
        let q_element : suc q < 2 ^ F.degree = let h = pow_mono {i = suc k} {j = F.degree} k_below in let u = t.high in omega (arith, h, u) in
        extension.irreducible a (suc q) a_large element q_large q_element (sym whole)
      where
        exponent_lt : (i j x : ℕ) → 2 ^ i ≤ x → x < 2 ^ j → i < j
        exponent_lt i j x low high = elim (suc i - j) as (λ d. d ≡ suc i - j → i < j) [
          | zero ↦ λ is. omega arith
          | suc d ↦ λ is. absurd (let h = pow_mono {i = j} {j = i} (omega arith) in omega arith)
        ] refl

        one_top : (i j x : ℕ) → IsTop i x → IsTop j x → i ≡ j
        one_top i j x first second =
            let l = exponent_lt i (suc j) x first.low second.high in
            let r = exponent_lt j (suc i) x second.low first.high in
            omega arith

    inverse_at : (m a : ℕ) → IsTop m a → IsElement F a → ((r : ℕ) → r < 2 ^ m → 0 < r → IsElement F r → (b : ℕ) × IsElement F b × (mul F r b ≡ 1)) → (b : ℕ) × IsElement F b × (mul F a b ≡ 1)
    inverse_at zero a high element smaller =
        let one : a ≡ 1 = omega (arith, high.low, high.high) in
        (1, one_element, rw one (mul_unit F ftop 1 one_element))
    inverse_at (suc m) a high element smaller = by_rest d.quotient d.rest d.whole d.small
      where
        d : Divides (suc m) a F.poly
        d = divide (suc m) a high (suc F.degree) F.poly ftop.high

        by_rest : (q r : ℕ) → F.poly ≡ bit_xor (clmul a q) r → r < 2 ^ suc m → (b : ℕ) × IsElement F b × (mul F a b ≡ 1)
        by_rest q zero whole small = absurd (no_factor m a q high element (whole ∙ xor_zero_r (clmul a q)))
        by_rest q (suc r) whole small =
            let i = smaller (suc r) small (omega arith) (let l = high.low in omega (arith, l)) in
            (mul F q i.0, mul_closed F ftop q i.0, mul_quotient F ftop a q (suc r) i.0 whole ∙ i.2)

-- the laws
pub field_laws : (F : Field) → IsField F → FieldLaws F
field_laws F field =
    let top = field_top F field in
    record {
      comm = mul_comm F top;
      assoc = mul_assoc F top;
      distrib = mul_distrib F top;
      annihilates = mul_zero F top;
      closed = λ a b ea eb. mul_closed F top a b;
      unit = mul_unit F top;
      inverse = λ a element some. inverse field a element some;
    }
  where
    inverse : IsField F → (a : ℕ) → IsElement F a → a ≢ 0 → (b : ℕ) × IsElement F b × (mul F a b ≡ 1)
    inverse (inr extension) a element some = inverse_below F extension F.degree a element (omega arith) element
    inverse (inl is) a element some =
        let small : a < 2 = let P : Field → Type 0 = λ G. a < 2 ^ G.degree in subst P is element in
        let one : a ≡ 1 = omega arith in
        let e1 : 1 < 2 ^ F.degree = let P : Field → Type 0 = λ G. 1 < 2 ^ G.degree in subst P (sym is) (omega arith) in
        (1, e1, rw one (mul_unit F (field_top F (inl is)) 1 e1))
