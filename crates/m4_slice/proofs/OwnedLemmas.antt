-- Slices and the matrix that they are slices of.
use Rattle.std.proofs.Common.{◌≡◌, ℕ, ◌+◌, ◌-◌, ◌*◌, ◌/◌, ◌%◌, ◌^◌, ◌<◌, refl, sym, ◌∙◌, ap, ap₂, subst, arith, bit_xor, mod-eq_of_lt}
use Rattle.std.specs.Int.{bit_at}
use Rattle.std.specs.Int.Bits.{xor_zero_l}
use Rattle.std.proofs.lemmas.Nat.Bits.{bit_at-lt, same_from_bits_below}
use Rattle.std.proofs.lemmas.Bool.{lt-ltb, cond-true}
use Rattle.std.proofs.Math.Nat.{mul-add-mod_self_right}
use Rattle.std.proofs.lemmas.Nat.{div-mul-add}
use Rattle.m4_model.specs.Field.{Field, IsElement, gf2, sum_below}
use Rattle.m4_model.specs.Matrix.{Matrix, IsMatrix, at, table, zero_matrix, added}
use Rattle.m4_model.specs.Shapes.{cut}
use Rattle.m4_model.proofs.SumLemmas.{sum_below-zero}
use Rattle.m4_model.proofs.FieldLemmas.{sum_below-same}
use Rattle.m4_model.proofs.MatrixLemmas.{at-table, same_matrix, same_parts}
use Rattle.m4_mzd.specs.Rectangles.{IsInside}
use Rattle.m4_mzd.specs.Window.{Window, content, showing}
use Rattle.m4_mzed.specs.EWindow.{EWindow, content as e_content, showing as e_showing}
use Rattle.m4_slice.specs.Sliced.{slice_of, sliced, joined}
use Rattle.m4_slice.proofs.WidthLemmas.{next_le}
use Rattle.m4_slice.proofs.LoadLemmas.{table_same}
use Rattle.m4_slice.proofs.JoinedLemmas.{number_bit, number_small}

-- zeros
pub joined_zero : (F : Field) (e m n : ℕ) → joined F e m (zero_matrix gf2 (e * m) n) ≡ zero_matrix F m n
joined_zero F e m n =
    same_parts _ _ refl refl refl (table_same m n _ (λ i j. 0) (λ i j below within. sum_below-zero e _ (λ v less.
    let r = next_le v e m less in
    ap (λ b. b * 2 ^ v) (at-table (e * m) n (λ i j. 0) (v * m + i) j (omega (arith, r, below)) within) ∙ (omega arith))))

-- a number is the number of its bits
pub number_of_bits : (e x : ℕ) → x < 2 ^ e → sum_below e (λ v. bit_at x v * 2 ^ v) ≡ x
number_of_bits e x small =
    same_from_bits_below e _ x (number_small e (bit_at x) (λ v _. bit_at-lt x v)) small
    (λ v less. number_bit e (bit_at x) (λ u _. bit_at-lt x u) v ∙ cond-true _ _ _ (lt-ltb v e less))

-- the slices of a matrix join to it
pub joined_sliced : (A : Matrix) → IsMatrix A → joined A.field A.field.degree A.rows (sliced A) ≡ A
joined_sliced A is =
    sym (same_matrix A.field A.rows A.cols _ A refl refl refl is.height is.width (λ i j below within.
    sym (sum_below-same A.field.degree _ (λ v. bit_at (at A i j) v * 2 ^ v) (λ v less.
    let r = next_le v A.field.degree A.rows less in
    ap (λ b. b * 2 ^ v) (at-table (A.field.degree * A.rows) A.cols (λ p j. bit_at (at A (p % A.rows) j) (p / A.rows)) (v * A.rows + i) j (omega (arith, r, below)) within
    ∙ ap₂ (λ r q. bit_at (at A r j) q) (mul-add-mod_self_right v A.rows i ∙ mod-eq_of_lt below) (div-mul-add v A.rows i below)))
    ∙ number_of_bits A.field.degree (at A i j) (is.elements i j below within))))

-- one slice
module _ (F : Field) (e m v : ℕ) (S : Matrix) (is : IsMatrix S) (over : S.field ≡ gf2) (rows : S.rows ≡ e * m) (below : v < e) where
  slice_end : (v + 1) * m ≡ v * m + m
  slice_end = grind arith

  slice_entry : (u i j : ℕ) → u < e → i < m → j < S.cols → at S (u * m + i) j < 2
  slice_entry u i j less i_below j_below =
      let n = next_le u e m less in
      let P : Field → Type 0 = λ H. IsElement H (at S (u * m + i) j) in
      subst P over (is.elements (u * m + i) j (omega (arith, n, rows, i_below)) j_below)

  pub slice_inside : IsInside (record { r0 = v * m; c0 = 0; r1 = (v + 1) * m; c1 = S.cols }) S.rows S.cols
  slice_inside = record {
    in_order = omega (arith, slice_end);
    in_order_across = omega arith;
    in_rows = (let n = next_le v e m below in omega (arith, n, slice_end, rows));
    in_cols = omega arith;
  }

  pub slice_cut : cut S (v * m) 0 ((v + 1) * m) S.cols ≡ slice_of v (joined F e m S)
  slice_cut =
      let tall : (v + 1) * m - v * m ≡ m = omega (arith, slice_end) in
      let wide : S.cols - 0 ≡ S.cols = omega arith in
      same_parts _ _ over tall wide
      (ap₂ (λ k n. table k n (λ i j. at S (v * m + i) (0 + j))) tall wide
      ∙ table_same m S.cols _ _ (λ i j i_below j_below.
      let col : 0 + j ≡ j = omega arith in
      ap (at S (v * m + i)) col
      ∙ sym (ap (λ x. bit_at x v) (at-table m S.cols (λ i j. sum_below e (λ v. at S (v * m + i) j * 2 ^ v)) i j i_below j_below)
      ∙ number_bit e (λ v. at S (v * m + i) j) (λ u less. slice_entry u i j less i_below j_below) v
      ∙ cond-true _ _ _ (lt-ltb v e below))))

-- slices that were written
pub joined_loaded : (F : Field) (m : ℕ) (w now : Window) (A B : Matrix) → IsMatrix A → A.field ≡ F → A.rows ≡ m → A.cols ≡ w.cols → now ≡ showing w (sliced A) → B ≡ content now
    → joined F F.degree m B ≡ A
joined_loaded F m w now A B is field rows cols written held =
    ap (joined F F.degree m) (held ∙ ap content written)
    ∙ (λ i. joined (sym field i) (sym field i).degree (sym rows i) (record { field = gf2; rows = w.rows; cols = sym cols i; entries = (sliced A).entries }))
    ∙ joined_sliced A is

-- slices that are added to zeros
pub joined_stored : (F : Field) (e m : ℕ) (S : Matrix) (w cleared : EWindow) → w.rows ≡ m → w.cols ≡ S.cols → cleared ≡ e_showing w (zero_matrix w.field w.rows w.cols)
    → e_showing cleared (added (e_content cleared) (joined F e m S)) ≡ e_showing w (joined F e m S)
joined_stored F e m S w cleared rows cols zeros =
    ap (λ (x : EWindow). e_showing x (added (e_content x) (joined F e m S))) zeros
    ∙ ap {B = EWindow} (λ l. record w { entries = l }) (ap₂ (λ k n. table k n (λ i j. bit_xor (at (zero_matrix w.field w.rows w.cols) i j) (at (joined F e m S) i j))) rows cols
    ∙ table_same m S.cols _ (λ i j. sum_below e (λ v. at S (v * m + i) j * 2 ^ v)) (λ i j below within.
    ap₂ bit_xor (at-table w.rows w.cols (λ i j. 0) i j (omega (arith, rows, below)) (omega (arith, cols, within))) (at-table m S.cols (λ i j. sum_below e (λ v. at S (v * m + i) j * 2 ^ v)) i j below within)
    ∙ xor_zero_l (sum_below e (λ v. at S (v * m + i) j * 2 ^ v))))
