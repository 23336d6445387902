-- Matrices with the same entries, and packed ones with the same bits.
use Rattle.std.proofs.Common.{◌≡◌, ℕ, ◌+◌, ◌*◌, ◌/◌, ◌%◌, ◌^◌, ◌<◌, ◌≤◌, inl, inr, refl, sym, ◌∙◌, ap, ap₂, subst, arith}
use Rattle.std.specs.Int.{bit_at}
use Rattle.std.proofs.Math.Nat.{div-lt_iff_lt-mul, mod-lt, mod-add-div'}
use Rattle.std.proofs.lemmas.Bool.{cases_lt}
use Rattle.std.proofs.lemmas.List.{get_or_past}
use Rattle.std.proofs.lemmas.Nat.Bits.{same_from_bits_below}
use Rattle.m4_model.specs.Field.{Field, gf2, width}
use Rattle.m4_model.specs.Matrix.{Matrix, IsMatrix, at, row}
use Rattle.m4_model.proofs.MatrixLemmas.{same_matrix}
use Rattle.m4_field.proofs.WidthLemmas.{width_facts}
use Rattle.m4_mzed.specs.Owned.{e_matrix}
use Rattle.m4_mzed.specs.PackedIn.{IsPackedIn}
use Rattle.m4_mzed.proofs.RectLemmas.{matrix_bit}
use Rattle.m4_dense.specs.Alike.{AreAlike}

-- two matrices of one shape with the same entries are the same
pub same_from_entries : (A B : Matrix) → IsMatrix A → IsMatrix B → B.field ≡ A.field → B.rows ≡ A.rows → B.cols ≡ A.cols
    → ((i j : ℕ) → i < A.rows → j < A.cols → at A i j ≡ at B i j) → A ≡ B
same_from_entries A B a b field rows cols same =
    same_matrix A.field A.rows A.cols (at A) A refl refl refl a.height a.width (λ i j below within. refl)
    ∙ sym (same_matrix A.field A.rows A.cols (at A) B field rows cols (b.height ∙ rows) (λ i below. b.width i (omega (arith, rows, below)) ∙ cols)
    (λ i j below within. sym (same i j below within)))

-- past the last column there is 0
past_cols : (A : Matrix) (i j : ℕ) → IsMatrix A → i < A.rows → A.cols ≤ j → at A i j ≡ 0
past_cols A i j is below past = get_or_past (row A i) j 0 (let e = is.width i below in omega (arith, e, past))

-- rows with the same entries have the same words
pub same_words : (A B : Matrix) (r w x y : ℕ) → IsMatrix A → IsMatrix B → r < A.rows → B.rows ≡ A.rows → B.cols ≡ A.cols
    → x < 2 ^ 64 → y < 2 ^ 64
    → ((j : ℕ) → j < 64 → bit_at x j ≡ at A r (w * 64 + j)) → ((j : ℕ) → j < 64 → bit_at y j ≡ at B r (w * 64 + j))
    → ((j : ℕ) → j < A.cols → at A r j ≡ at B r j) → x ≡ y
same_words A B r w x y a b below rows cols small_x small_y mine theirs same =
    same_from_bits_below 64 x y small_x small_y (λ j less. mine j less ∙ there (w * 64 + j) ∙ sym (theirs j less))
  where
    there : (j : ℕ) → at A r j ≡ at B r j
    there j = elim (cases_lt j A.cols) [
      | inl within ↦ same j within
      | inr past ↦ past_cols A r j a below past ∙ sym (past_cols B r j b (omega (arith, rows, below)) (omega (arith, cols, past)))
    ]

-- packed matrices with the same elements have the same bits
pub same_packed : (F : Field) (n : ℕ) (P Q : Matrix) → IsPackedIn F n P → IsPackedIn F n Q → IsMatrix P → IsMatrix Q → P.field ≡ gf2 → Q.field ≡ gf2
    → Q.rows ≡ P.rows → e_matrix F n P ≡ e_matrix F n Q → P ≡ Q
same_packed F n P Q p q p_shape q_shape p_over q_over rows same =
    let k = width F in
    let some : 0 < k = let f = width_facts F p.carried in omega (arith, f, p.carried.degree_low) in
    same_from_entries P Q p_shape q_shape (q_over ∙ sym p_over) rows (q.wide ∙ sym p.wide) (λ i j below within.
    let in_cols : j / k < n = (div-lt_iff_lt-mul some).1 (let e = p.wide in omega (arith, e, within)) in
    let in_place : j % k < k = mod-lt j some in
    let place : j ≡ j / k * k + j % k = let e = mod-add-div' j k in omega (arith, e) in
    ap (at P i) place
    ∙ matrix_bit F n P p p_shape p_over i (j / k) (j % k) below in_cols in_place
    ∙ ap (λ (A : Matrix). bit_at (at A i (j / k)) (j % k)) same
    ∙ sym (matrix_bit F n Q q q_shape q_over i (j / k) (j % k) (omega (arith, rows, below)) in_cols in_place)
    ∙ sym (ap (at Q i) place))

-- packed matrices that hold A and B have the same bits exactly where A and B are the same
module _ (A B C D P Q : Matrix) (first : C ≡ A) (second : D ≡ B) (p_in : IsPackedIn C.field C.cols P) (q_in : IsPackedIn D.field D.cols Q)
    (p_is : e_matrix C.field C.cols P ≡ C) (q_is : e_matrix D.field D.cols Q ≡ D) (p_shape : IsMatrix P) (q_shape : IsMatrix Q) (p_over : P.field ≡ gf2) (q_over : Q.field ≡ gf2)
    (alike : AreAlike A B) where
  p_packed : IsPackedIn A.field A.cols P
  p_packed = let S : Matrix → Type 0 = λ M. IsPackedIn M.field M.cols P in subst S first p_in

  p_holds : e_matrix A.field A.cols P ≡ A
  p_holds = let S : Matrix → Type 0 = λ M. e_matrix M.field M.cols P ≡ M in subst S first p_is

  q_packed : IsPackedIn A.field A.cols Q
  q_packed =
      let S : Matrix → Type 0 = λ M. IsPackedIn M.field M.cols Q in
      let T : Field → Type 0 = λ F. IsPackedIn F B.cols Q in
      let U : ℕ → Type 0 = λ n. IsPackedIn A.field n Q in
      subst U alike.cols (subst T alike.field (subst S second q_in))

  q_holds : e_matrix A.field A.cols Q ≡ B
  q_holds =
      let S : Matrix → Type 0 = λ M. e_matrix M.field M.cols Q ≡ M in
      ap₂ (λ (F : Field) (n : ℕ). e_matrix F n Q) (sym alike.field) (sym alike.cols) ∙ subst S second q_is

  pub same_elements : P ≡ Q → A ≡ B
  same_elements same = sym p_holds ∙ ap (e_matrix A.field A.cols) same ∙ q_holds

  pub same_bits : A ≡ B → P ≡ Q
  same_bits same =
      let tall : Q.rows ≡ P.rows = ap (λ (M : Matrix). M.rows) q_holds ∙ alike.rows ∙ sym (ap (λ (M : Matrix). M.rows) p_holds) in
      same_packed A.field A.cols P Q p_packed q_packed p_shape q_shape p_over q_over tall (p_holds ∙ same ∙ sym q_holds)
