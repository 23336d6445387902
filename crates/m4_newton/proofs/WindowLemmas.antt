-- A window to which a product over any field is added, by its bits.
use Rattle.std.proofs.Common.{◌≡◌, ℕ, ◌*◌, refl, sym, ◌∙◌, ap, subst}
use Rattle.m4_model.specs.Field.{Field, gf2, width}
use Rattle.m4_model.specs.Matrix.{Matrix, IsMatrix, added, product}
use Rattle.m4_mzd.specs.Window.{Window, IsWindow}
use Rattle.m4_mzd.specs.Window.{content as bit_content, showing as bit_showing}
use Rattle.m4_mzed.specs.EWindow.{EWindow, content, showing}
use Rattle.m4_mzed.specs.Owned.{e_matrix}
use Rattle.m4_mzed.specs.Packed.{elements, IsPacked}
use Rattle.m4_mzed.specs.PackedIn.{IsPackedIn}
use Rattle.m4_mzd.specs.declared.rect.Rect.{Rect}
use Rattle.m4_mzd.specs.declared.mzd.around.Around.{Around}
use Rattle.m4_mzed.specs.Taken.{IsAround}
use Rattle.m4_mzed.proofs.PackedSums.{Holds, other_holds, other_matrix, window_sum}
use Rattle.m4_newton.specs.Multiples.{HasMultiples}
use Rattle.m4_newton.proofs.ByBits.{product_holds, product_is}

-- the bits of a matrix over a field
pub record IsBits (A : Matrix) (P : Matrix) : Type 0 where
  pub packed : IsPackedIn A.field A.cols P
  pub shows : e_matrix A.field A.cols P ≡ A
  pub matrix : IsMatrix P
  pub over : P.field ≡ gf2

-- the bits of a window over a field
pub record IsBitsOf (x : EWindow) (W : Window) : Type 0 where
  pub packed : IsPacked x.field x.cols W
  pub shows : elements x.field x.cols W ≡ x
  pub shape : IsWindow W

pub same_bits_of : (x w : EWindow) (W : Window) → x ≡ w → IsPacked x.field x.cols W → elements x.field x.cols W ≡ x → IsWindow W → IsBitsOf w W
same_bits_of x w W whole packed shows shape =
    let P : EWindow → Type 0 = λ v. IsBitsOf v W in subst P whole (record { packed = packed; shows = shows; shape = shape })

-- they hold the elements over an equal field, with an equal number of columns
holds : (F : Field) (n : ℕ) (A P : Matrix) → A.field ≡ F → A.cols ≡ n → IsBits A P → Holds F n P
holds F n A P field cols is =
    let Q : ℕ → Type 0 = λ m. Holds F m P in
    subst Q cols (other_holds F A.field A.cols P field (record { packed = is.packed; matrix = is.matrix; over = is.over }))

shown_as : (F : Field) (n : ℕ) (A P : Matrix) → A.field ≡ F → A.cols ≡ n → IsBits A P → e_matrix F n P ≡ A
shown_as F n A P field cols is = other_matrix A.field F A.cols n P (sym field) (sym cols) ∙ is.shows

module _ (w : EWindow) (A B M : Matrix) (W N : Window) (P S : Matrix) (bits : IsBitsOf w W) (new_shape : IsWindow N) (left : IsBits A P) (right : IsBits M S) (b : IsMatrix B)
    (a_field : A.field ≡ w.field) (b_field : B.field ≡ w.field) (m_field : M.field ≡ w.field) (rows : A.rows ≡ w.rows) (inner : A.cols ≡ B.rows) (cols : B.cols ≡ w.cols)
    (m_cols : M.cols ≡ w.cols) (m_rows : M.rows ≡ B.rows * width w.field) (many : HasMultiples M B B.rows) (kept : N ≡ bit_showing W (added (bit_content W) (product P S))) where
  F : Field
  F = w.field

  a : Holds w.field A.cols P
  a = holds w.field A.cols A P a_field refl left

  s : Holds w.field w.cols S
  s = holds w.field w.cols M S m_field m_cols right

  s_rows : S.rows ≡ A.cols * width w.field
  s_rows = ap (λ (X : Matrix). X.rows) right.shows ∙ m_rows ∙ ap (λ r. r * width w.field) (sym inner)

  s_many : HasMultiples (e_matrix w.field w.cols S) B A.cols
  s_many =
      let X : Matrix → Type 0 = λ M. HasMultiples M B B.rows in
      let Y : ℕ → Type 0 = λ n. HasMultiples (e_matrix w.field w.cols S) B n in
      subst Y (sym inner) (subst X (sym (shown_as w.field w.cols M S m_field m_cols right)) many)

  sum : IsPacked w.field w.cols N × (elements w.field w.cols N ≡ showing (elements w.field w.cols W) (added (content (elements w.field w.cols W)) (e_matrix w.field w.cols (product P S))))
  sum =
      window_sum w.field w.cols w.cols W N (product P S) bits.packed bits.shape new_shape
      (product_holds w.field A.cols w.cols P S B a s b b_field (sym inner) cols s_rows s_many) refl
      (ap (λ (X : Matrix). X.rows) left.shows ∙ rows ∙ sym (ap (λ (v : EWindow). v.rows) bits.shows)) kept

  pub sum_packed : IsPacked w.field w.cols N
  sum_packed = sum.0

  pub sum_shows : elements w.field w.cols N ≡ showing w (added (content w) (product A B))
  sum_shows =
      sum.1
      ∙ ap (λ (R : Matrix). showing (elements w.field w.cols W) (added (content (elements w.field w.cols W)) R))
      (product_is w.field A.cols w.cols P S B a s b b_field (sym inner) cols s_rows s_many ∙ ap (λ (X : Matrix). product X B) (shown_as w.field A.cols A P a_field refl left))
      ∙ ap (λ (v : EWindow). showing v (added (content v) (product A B))) bits.shows

-- a window that was taken out, with other entries
pub still_around : (around : Around) (part next : EWindow) (rect : Rect) (A : Matrix) → ((B : Matrix) → IsAround around (showing part B) rect A) → next ≡ showing part (content next)
    → IsAround around next rect A
still_around around part next rect A whatever written =
    let P : EWindow → Type 0 = λ v. IsAround around v rect A in subst P (sym written) (whatever (content next))
