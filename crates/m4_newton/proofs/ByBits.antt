-- A product over any field by one product over GF(2).
use Rattle.std.proofs.Common.{◌≡◌, ℕ, ◌+◌, ◌*◌, ◌/◌, ◌%◌, ◌^◌, ◌<◌, inl, inr, get_or, refl, sym, ◌∙◌, ap, ap₂, subst, arith}
use Rattle.std.specs.Int.{bit_at}
use Rattle.std.proofs.Math.Nat.{div-lt_iff_lt-mul, mod-lt, mod-add-div'}
use Rattle.std.proofs.lemmas.Nat.Bits.{bit_at_above}
use Rattle.std.proofs.lemmas.Bool.{cases_lt}
use Rattle.std.proofs.lemmas.List.{get_or-map}
use Rattle.m4_model.specs.Field.{Field, IsElement, gf2, mul, sum_below, width}
use Rattle.m4_model.specs.Matrix.{Matrix, IsMatrix, HasShape, row, at, matrix_of, product}
use Rattle.m4_model.proofs.FieldLemmas.{sum_below-same, sum_below-lt}
use Rattle.m4_model.proofs.Gf2Lemmas.{gf2_laws}
use Rattle.m4_model.proofs.SumLemmas.{mul-zero_left}
use Rattle.m4_model.proofs.MatrixLemmas.{at-table}
use Rattle.m4_model.proofs.ShapeLemmas.{HasShape-product}
use Rattle.m4_field.proofs.ProductSteps.{carried_laws}
use Rattle.m4_field.proofs.WidthLemmas.{width_facts}
use Rattle.m4_mzed.specs.Owned.{e_matrix}
use Rattle.m4_mzed.proofs.EntryLemmas.{entry_element}
use Rattle.m4_mzed.proofs.PackedSums.{Holds, next_le}
use Rattle.m4_mzed.proofs.RectLemmas.{matrix_bit, made_packed, made_is}
use Rattle.m4_newton.specs.Multiples.{HasMultiples}
use Rattle.m4_newton.proofs.BitProducts.{bit_of_products}

-- the bits of the first factor times those of the multiples
module _ (F : Field) (l n : ℕ) (A S B : Matrix) (a : Holds F l A) (s : Holds F n S) (b : IsMatrix B) (over : B.field ≡ F) (b_rows : B.rows ≡ l) (b_cols : B.cols ≡ n)
    (rows : S.rows ≡ l * width F) (many : HasMultiples (e_matrix F n S) B l) where
  w_some : 0 < width F
  w_some = (width_facts F a.packed.carried).some

  a_small : (i t : ℕ) → i < A.rows → IsElement F (at (e_matrix F l A) i t)
  a_small i t below = entry_element F l A a.packed i t below

  b_small : (t j : ℕ) → t < l → j < n → IsElement F (at B t j)
  b_small t j below within = let P : Field → Type 0 = λ G. IsElement G (at B t j) in subst P over (b.elements t j (omega (arith, below, b_rows)) (omega (arith, within, b_cols)))

  multiple : (t u j : ℕ) → t < l → u < F.degree → j < n → at (e_matrix F n S) (t * width F + u) j ≡ mul F (2 ^ u) (at B t j)
  multiple t u j t_below u_below within =
      ap (λ r. get_or r j 0) (many.powers t u t_below u_below)
      ∙ get_or-map (λ y. mul F y (2 ^ u)) (row B t) j 0 0 (omega (arith, b.width t (omega (arith, t_below, b_rows)), within, b_cols))
      ∙ (carried_laws F a.packed.carried).comm (at B t j) (2 ^ u)

  term : (i j v k : ℕ) → i < A.rows → j < n → v < width F → k < l * width F
      → mul gf2 (at A i k) (at S k (j * width F + v))
      ≡ mul gf2 (bit_at (at (e_matrix F l A) i (k / width F)) (k % width F)) (bit_at (mul F (2 ^ (k % width F)) (at B (k / width F) j)) v)
  term i j v k below within v_below k_below =
      let w = width F in
      let t = k / w in
      let u = k % w in
      let u_below : u < w = mod-lt k w_some in
      let t_below : t < l = (div-lt_iff_lt-mul w_some).1 k_below in
      let place : k ≡ t * w + u = let e = mod-add-div' k w in omega (arith, e) in
      let first : at A i k ≡ bit_at (at (e_matrix F l A) i t) u = ap (at A i) place ∙ matrix_bit F l A a.packed a.matrix a.over i t u below t_below u_below in
      let in_rows : k < S.rows = omega (arith, rows, k_below) in
      let second : at S k (j * w + v) ≡ bit_at (at (e_matrix F n S) k j) v = matrix_bit F n S s.packed s.matrix s.over k j v in_rows within v_below in
      elim (cases_lt u F.degree) [
        | inl small ↦
            ap₂ (mul gf2) first (second ∙ ap (λ r. bit_at (at (e_matrix F n S) r j) v) place ∙ ap (λ e. bit_at e v) (multiple t u j t_below small within))
        | inr large ↦
            let none : bit_at (at (e_matrix F l A) i t) u ≡ 0 = bit_at_above _ F.degree u (a_small i t below) large in
            ap (λ x. mul gf2 x (at S k (j * w + v))) (first ∙ none) ∙ mul-zero_left gf2 gf2_laws _
            ∙ sym (ap (λ x. mul gf2 x (bit_at (mul F (2 ^ u) (at B t j)) v)) none ∙ mul-zero_left gf2 gf2_laws _)
      ]

  -- an entry of the product over the field
  entry : ℕ → ℕ → ℕ
  entry i j = sum_below l (λ t. mul F (at (e_matrix F l A) i t) (at B t j))

  entry_small : (i j : ℕ) → i < A.rows → j < n → IsElement F (sum_below l (λ t. mul F (at (e_matrix F l A) i t) (at B t j)))
  entry_small i j below within = sum_below-lt F.degree l (λ t. mul F (at (e_matrix F l A) i t) (at B t j)) (λ t t_below.
      (carried_laws F a.packed.carried).closed _ _ (a_small i t below) (b_small t j t_below within))

  entry_bits : (i j v : ℕ) → i < A.rows → j < n → v < width F → at (product A S) i (j * width F + v) ≡ bit_at (sum_below l (λ t. mul F (at (e_matrix F l A) i t) (at B t j))) v
  entry_bits i j v below within v_below =
      let w = width F in
      let in_cols : j * w + v < S.cols = omega (arith, s.packed.wide, next_le j n w within, v_below) in
      at-table A.rows S.cols (λ i p. sum_below A.cols (λ k. mul A.field (at A i k) (at S k p))) i (j * w + v) below in_cols
      ∙ ap₂ (λ (c : ℕ) (G : Field). sum_below c (λ k. mul G (at A i k) (at S k (j * w + v)))) a.packed.wide a.over
      ∙ sum_below-same (l * w) (λ k. mul gf2 (at A i k) (at S k (j * w + v)))
      (λ k. mul gf2 (bit_at (at (e_matrix F l A) i (k / w)) (k % w)) (bit_at (mul F (2 ^ (k % w)) (at B (k / w) j)) v)) (λ k k_below. term i j v k below within v_below k_below)
      ∙ sym (bit_of_products F a.packed.carried l v (λ t. at (e_matrix F l A) i t) (λ t. at B t j) (λ t t_below. a_small i t below))

  shape : HasShape gf2 A.rows S.cols (product A S)
  shape =
      HasShape-product {l = A.cols} (record { is_matrix = a.matrix; over = a.over; rows = refl; cols = refl })
      (record { is_matrix = s.matrix; over = s.over; rows = rows ∙ sym a.packed.wide; cols = refl }) gf2_laws

  pub product_holds : Holds F n (product A S)
  product_holds = record {
    packed = made_packed F a.packed.carried n (product A S) _ shape.is_matrix shape.over s.packed.wide entry_small entry_bits;
    matrix = shape.is_matrix;
    over = shape.over;
  }

  pub product_is : e_matrix F n (product A S) ≡ product (e_matrix F l A) B
  product_is =
      made_is F a.packed.carried n (product A S) _ shape.is_matrix shape.over s.packed.wide entry_small entry_bits
      ∙ ap (λ c. matrix_of F A.rows c (λ i j. sum_below l (λ t. mul F (at (e_matrix F l A) i t) (at B t j)))) (sym b_cols)
