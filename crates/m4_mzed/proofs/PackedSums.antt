-- Sums of packed matrices, by the sums of their bits.
use Rattle.std.proofs.Common.{◌≡◌, ℕ, ◌+◌, ◌*◌, ◌<◌, ◌≤◌, refl, sym, ◌∙◌, ap, ap₂, subst, arith, bit_xor}
use Rattle.std.specs.Int.{bit_at}
use Rattle.std.specs.Int.Bits.{xor_lt}
use Rattle.m4_model.specs.Field.{Field, IsElement, gf2, width}
use Rattle.m4_model.specs.Matrix.{Matrix, IsMatrix, at, matrix_of, added}
use Rattle.m4_model.proofs.MatrixLemmas.{at-table}
use Rattle.m4_bits.proofs.BitsLemmas.{bit_at-xor}
use Rattle.m4_mzd.specs.Window.{Window, IsWindow}
use Rattle.m4_mzd.specs.Window.{content as bit_content, showing as bit_showing}
use Rattle.m4_mzed.specs.EWindow.{content, showing}
use Rattle.m4_mzed.specs.Owned.{e_matrix}
use Rattle.m4_mzed.specs.Packed.{elements, IsPacked}
use Rattle.m4_mzed.specs.PackedIn.{IsPackedIn}
use Rattle.m4_mzed.proofs.EntryLemmas.{entry_element}
use Rattle.m4_mzed.proofs.PartLemmas.{same_window}
use Rattle.m4_mzed.proofs.SeenLemmas.{packed_as_matrix}
use Rattle.m4_mzed.proofs.RectLemmas.{matrix_bit, made_packed, made_is}

pub next_le : (j n w : ℕ) → j < n → j * w + w ≤ n * w
next_le j n w less = grind arith

-- matrices of bits in which elements are packed
pub record Holds (F : Field) (n : ℕ) (P : Matrix) : Type 0 where
  pub packed : IsPackedIn F n P
  pub matrix : IsMatrix P
  pub over : P.field ≡ gf2

-- the same over an equal field, and for an equal number of columns
pub other_holds : (F G : Field) (m : ℕ) (R : Matrix) → G ≡ F → Holds G m R → Holds F m R
other_holds F G m R field is = let P : Field → Type 0 = λ H. Holds H m R in subst P field is

pub other_packed : (F G : Field) (n m : ℕ) (Q : Matrix) → G ≡ F → m ≡ n → IsPackedIn F n Q → IsPackedIn G m Q
other_packed F G n m Q field cols is =
    let P : Field → Type 0 = λ H. IsPackedIn H m Q in
    let R : ℕ → Type 0 = λ k. IsPackedIn F k Q in
    subst P (sym field) (subst R (sym cols) is)

pub other_matrix : (F G : Field) (n m : ℕ) (Q : Matrix) → G ≡ F → m ≡ n → e_matrix G m Q ≡ e_matrix F n Q
other_matrix F G n m Q field cols = ap₂ (λ (H : Field) (k : ℕ). e_matrix H k Q) field cols

-- the sum
module _ (F : Field) (n m : ℕ) (P R Q : Matrix) (p : Holds F n P) (r : Holds F m R) (q : IsMatrix Q) (cols : m ≡ n) (rows : R.rows ≡ P.rows) (is : Q ≡ added P R) where
  sum_over : Q.field ≡ gf2
  sum_over = ap (λ (A : Matrix). A.field) is ∙ p.over

  sum_rows : Q.rows ≡ P.rows
  sum_rows = ap (λ (A : Matrix). A.rows) is

  sum_wide : Q.cols ≡ n * width F
  sum_wide = ap (λ (A : Matrix). A.cols) is ∙ p.packed.wide

  sum_element : (i j : ℕ) → i < Q.rows → j < n → IsElement F (bit_xor (at (e_matrix F n P) i j) (at (e_matrix F m R) i j))
  sum_element i j below within =
      xor_lt F.degree _ _ (entry_element F n P p.packed i j (let e = sum_rows in omega (arith, e, below))) (entry_element F m R r.packed i j (let e = sum_rows in omega (arith, e, below, rows)))

  sum_bits : (i j v : ℕ) → i < Q.rows → j < n → v < width F → at Q i (j * width F + v) ≡ bit_at (bit_xor (at (e_matrix F n P) i j) (at (e_matrix F m R) i j)) v
  sum_bits i j v below within v_below =
      let k = width F in
      let in_p : i < P.rows = let e = sum_rows in omega (arith, e, below) in
      let in_cols : j * k + v < P.cols = let e = p.packed.wide in let t = next_le j n k within in omega (arith, e, t, v_below) in
      ap (λ (A : Matrix). at A i (j * k + v)) is
      ∙ at-table P.rows P.cols (λ i j. bit_xor (at P i j) (at R i j)) i (j * k + v) in_p in_cols
      ∙ ap₂ bit_xor (matrix_bit F n P p.packed p.matrix p.over i j v in_p within v_below) (matrix_bit F m R r.packed r.matrix r.over i j v (omega (arith, rows, in_p)) (omega (arith, cols, within)) v_below)
      ∙ sym (bit_at-xor _ _ v)

  pub sum_packed : IsPackedIn F n Q
  sum_packed = made_packed F p.packed.carried n Q _ q sum_over sum_wide sum_element sum_bits

  pub sum_is : e_matrix F n Q ≡ added (e_matrix F n P) (e_matrix F m R)
  sum_is =
      made_is F p.packed.carried n Q _ q sum_over sum_wide sum_element sum_bits
      ∙ ap (λ rows. matrix_of F rows n (λ i j. bit_xor (at (e_matrix F n P) i j) (at (e_matrix F m R) i j))) sum_rows

-- a window to which a matrix is added
pub window_sum : (F : Field) (n m : ℕ) (W N : Window) (R : Matrix) → IsPacked F n W → IsWindow W → IsWindow N → Holds F m R → m ≡ n → R.rows ≡ W.rows → N ≡ bit_showing W (added (bit_content W) R)
    → IsPacked F n N × (elements F n N ≡ showing (elements F n W) (added (content (elements F n W)) (e_matrix F m R)))
window_sum F n m W N R is shape new_shape r cols rows kept =
    let p : Holds F n (bit_content W) = record { packed = packed_as_matrix F n W is; matrix = shape.matrix; over = refl } in
    let made : bit_content N ≡ added (bit_content W) R = ap bit_content kept in
    let q = sum_packed F n m (bit_content W) R (bit_content N) p r new_shape.matrix cols rows made in
    let sum = sum_is F n m (bit_content W) R (bit_content N) p r new_shape.matrix cols rows made in (
      record { carried = q.carried; wide = q.wide; count = q.count; packed = q.packed },
      same_window _ _ refl (ap (λ (v : Window). v.place) kept) (ap (λ (v : Window). v.skip) kept) (ap (λ (v : Window). v.rows) kept) refl (ap (λ (A : Matrix). A.entries) sum) (ap (λ (v : Window). v.past) kept),
    )
