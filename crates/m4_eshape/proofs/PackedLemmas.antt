-- Matrices made of parts of packed ones, by what is done with their bits.
use Rattle.std.proofs.Common.{◌≡◌, ℕ, ◌+◌, ◌-◌, ◌*◌, ◌<◌, ◌≤◌, inl, inr, cond, nat_lt, sym, ◌∙◌, ap, subst, arith}
use Rattle.std.specs.Int.{bit_at}
use Rattle.std.proofs.lemmas.Bool.{cases_lt, lt-ltb, le-ltb, cond-true, cond-false}
use Rattle.m4_model.specs.Field.{Field, IsElement, gf2, width}
use Rattle.m4_model.specs.Matrix.{Matrix, IsMatrix, at, matrix_of}
use Rattle.m4_model.specs.Shapes.{above, beside, cut}
use Rattle.m4_model.proofs.MatrixLemmas.{at-table}
use Rattle.m4_mzed.specs.Owned.{e_matrix}
use Rattle.m4_mzed.specs.PackedIn.{IsPackedIn}
use Rattle.m4_mzed.proofs.EntryLemmas.{entry_element}
use Rattle.m4_mzed.proofs.PackedSums.{Holds, next_le}
use Rattle.m4_mzed.proofs.RectLemmas.{matrix_bit, made_packed, made_is}

times_le : (a b k : ℕ) → a ≤ b → a * k ≤ b * k
times_le a b k le = grind arith

spread : (a b k : ℕ) → (a + b) * k ≡ a * k + b * k
spread a b k = grind arith

-- a choice of entries, and of their bits
chosen_bit : (i a x x' y y' v : ℕ) → (i < a → x ≡ bit_at x' v) → (a ≤ i → y ≡ bit_at y' v) → cond (nat_lt i a) x y ≡ bit_at (cond (nat_lt i a) x' y') v
chosen_bit i a x x' y y' v first second = elim (cases_lt i a) [
  | inl less ↦ cond-true _ x y (lt-ltb i a less) ∙ first less ∙ ap (λ z. bit_at z v) (sym (cond-true _ x' y' (lt-ltb i a less)))
  | inr more ↦ cond-false _ x y (le-ltb i a more) ∙ second more ∙ ap (λ z. bit_at z v) (sym (cond-false _ x' y' (le-ltb i a more)))
]

chosen_element : (F : Field) (i a x y : ℕ) → (i < a → IsElement F x) → (a ≤ i → IsElement F y) → IsElement F (cond (nat_lt i a) x y)
chosen_element F i a x y first second =
    let P : ℕ → Type 0 = IsElement F in
    elim (cases_lt i a) [
      | inl less ↦ subst P (sym (cond-true _ x y (lt-ltb i a less))) (first less)
      | inr more ↦ subst P (sym (cond-false _ x y (le-ltb i a more))) (second more)
    ]

module _ (F : Field) (n m : ℕ) (P R Q : Matrix) (p : Holds F n P) (r : Holds F m R) (q : IsMatrix Q) where
  -- one over the other
  module _ (cols : m ≡ n) (is : Q ≡ above P R) where
    stack_over : Q.field ≡ gf2
    stack_over = ap (λ (A : Matrix). A.field) is ∙ p.over

    stack_rows : Q.rows ≡ P.rows + R.rows
    stack_rows = ap (λ (A : Matrix). A.rows) is

    stack_wide : Q.cols ≡ n * width F
    stack_wide = ap (λ (A : Matrix). A.cols) is ∙ p.packed.wide

    stack_element : (i j : ℕ) → i < Q.rows → j < n → IsElement F (cond (nat_lt i P.rows) (at (e_matrix F n P) i j) (at (e_matrix F m R) (i - P.rows) j))
    stack_element i j below within =
        chosen_element F i P.rows _ _ (λ less. entry_element F n P p.packed i j less) (λ more. entry_element F m R r.packed (i - P.rows) j (let e = stack_rows in omega (arith, e, below, more)))

    stack_bits : (i j v : ℕ) → i < Q.rows → j < n → v < width F → at Q i (j * width F + v) ≡ bit_at (cond (nat_lt i P.rows) (at (e_matrix F n P) i j) (at (e_matrix F m R) (i - P.rows) j)) v
    stack_bits i j v below within v_below =
        let k = width F in
        let in_cols : j * k + v < P.cols = let e = p.packed.wide in let t = next_le j n k within in omega (arith, e, t, v_below) in
        ap (λ (A : Matrix). at A i (j * k + v)) is
        ∙ at-table (P.rows + R.rows) P.cols (λ i j. cond (nat_lt i P.rows) (at P i j) (at R (i - P.rows) j)) i (j * k + v) (let e = stack_rows in omega (arith, e, below)) in_cols
        ∙ chosen_bit i P.rows _ _ _ _ v (λ less. matrix_bit F n P p.packed p.matrix p.over i j v less within v_below)
        (λ more. matrix_bit F m R r.packed r.matrix r.over (i - P.rows) j v (let e = stack_rows in omega (arith, e, below, more)) (omega (arith, cols, within)) v_below)

    pub stack_packed : IsPackedIn F n Q
    stack_packed = made_packed F p.packed.carried n Q _ q stack_over stack_wide stack_element stack_bits

    pub stack_is : e_matrix F n Q ≡ above (e_matrix F n P) (e_matrix F m R)
    stack_is =
        made_is F p.packed.carried n Q _ q stack_over stack_wide stack_element stack_bits
        ∙ ap (λ rows. matrix_of F rows n (λ i j. cond (nat_lt i P.rows) (at (e_matrix F n P) i j) (at (e_matrix F m R) (i - P.rows) j))) stack_rows

  -- one beside the other
  module _ (rows : R.rows ≡ P.rows) (is : Q ≡ beside P R) where
    join_over : Q.field ≡ gf2
    join_over = ap (λ (A : Matrix). A.field) is ∙ p.over

    join_rows : Q.rows ≡ P.rows
    join_rows = ap (λ (A : Matrix). A.rows) is

    join_wide : Q.cols ≡ (n + m) * width F
    join_wide = let e = p.packed.wide in let f = r.packed.wide in let s = spread n m (width F) in ap (λ (A : Matrix). A.cols) is ∙ omega (arith, e, f, s)

    join_element : (i j : ℕ) → i < Q.rows → j < n + m → IsElement F (cond (nat_lt j n) (at (e_matrix F n P) i j) (at (e_matrix F m R) i (j - n)))
    join_element i j below within =
        chosen_element F j n _ _ (λ less. entry_element F n P p.packed i j (let e = join_rows in omega (arith, e, below))) (λ more. entry_element F m R r.packed i (j - n) (let e = join_rows in omega (arith, e, below, rows)))

    same_side : (j v : ℕ) → v < width F → nat_lt (j * width F + v) P.cols ≡ nat_lt j n
    same_side j v v_below = elim (cases_lt j n) [
      | inl less ↦ lt-ltb (j * width F + v) P.cols (let e = p.packed.wide in let t = next_le j n (width F) less in omega (arith, e, t, v_below)) ∙ sym (lt-ltb j n less)
      | inr more ↦ le-ltb (j * width F + v) P.cols (let e = p.packed.wide in let t = times_le n j (width F) more in omega (arith, e, t)) ∙ sym (le-ltb j n more)
    ]

    join_bits : (i j v : ℕ) → i < Q.rows → j < n + m → v < width F → at Q i (j * width F + v) ≡ bit_at (cond (nat_lt j n) (at (e_matrix F n P) i j) (at (e_matrix F m R) i (j - n))) v
    join_bits i j v below within v_below =
        let k = width F in
        let in_p : i < P.rows = let e = join_rows in omega (arith, e, below) in
        let in_cols : j * k + v < P.cols + R.cols = let e = p.packed.wide in let f = r.packed.wide in let s = spread n m k in let t = next_le j (n + m) k within in omega (arith, e, f, s, t, v_below) in
        ap (λ (A : Matrix). at A i (j * k + v)) is
        ∙ at-table P.rows (P.cols + R.cols) (λ i j. cond (nat_lt j P.cols) (at P i j) (at R i (j - P.cols))) i (j * k + v) in_p in_cols
        ∙ ap (λ b. cond b (at P i (j * k + v)) (at R i (j * k + v - P.cols))) (same_side j v v_below)
        ∙ chosen_bit j n _ _ _ _ v (λ less. matrix_bit F n P p.packed p.matrix p.over i j v in_p less v_below)
        (λ more.
        let place : j * k + v - P.cols ≡ (j - n) * k + v = let e = p.packed.wide in let t = less_times n j k more in omega (arith, e, t) in
        ap (at R i) place ∙ matrix_bit F m R r.packed r.matrix r.over i (j - n) v (omega (arith, rows, in_p)) (omega (arith, within, more)) v_below)
      where
        less_times : (a b k : ℕ) → a ≤ b → b * k ≡ (b - a) * k + a * k
        less_times a b k le = grind arith

    pub join_packed : IsPackedIn F (n + m) Q
    join_packed = made_packed F p.packed.carried (n + m) Q _ q join_over join_wide join_element join_bits

    pub join_is : e_matrix F (n + m) Q ≡ beside (e_matrix F n P) (e_matrix F m R)
    join_is =
        made_is F p.packed.carried (n + m) Q _ q join_over join_wide join_element join_bits
        ∙ ap (λ rows. matrix_of F rows (n + m) (λ i j. cond (nat_lt j n) (at (e_matrix F n P) i j) (at (e_matrix F m R) i (j - n)))) join_rows

-- a rectangle
module _ (F : Field) (n : ℕ) (P Q : Matrix) (p : Holds F n P) (q : IsMatrix Q) (r0 c0 r1 c1 : ℕ) (in_rows : r1 ≤ P.rows) (in_cols : c1 ≤ n) (across : c0 ≤ c1)
    (is : Q ≡ cut P r0 (c0 * width F) r1 (c1 * width F)) where
  cut_over : Q.field ≡ gf2
  cut_over = ap (λ (A : Matrix). A.field) is ∙ p.over

  cut_rows : Q.rows ≡ r1 - r0
  cut_rows = ap (λ (A : Matrix). A.rows) is

  cut_wide : Q.cols ≡ (c1 - c0) * width F
  cut_wide = ap (λ (A : Matrix). A.cols) is ∙ less c0 c1 (width F) across
    where
      less_times : (a b k : ℕ) → a ≤ b → b * k ≡ (b - a) * k + a * k
      less_times a b k le = grind arith

      less : (a b k : ℕ) → a ≤ b → b * k - a * k ≡ (b - a) * k
      less a b k le = let e = less_times a b k le in omega (arith, e)

  cut_element : (i j : ℕ) → i < Q.rows → j < c1 - c0 → IsElement F (at (e_matrix F n P) (r0 + i) (c0 + j))
  cut_element i j below within = entry_element F n P p.packed (r0 + i) (c0 + j) (let e = cut_rows in omega (arith, e, below, in_rows))

  cut_bits : (i j v : ℕ) → i < Q.rows → j < c1 - c0 → v < width F → at Q i (j * width F + v) ≡ bit_at (at (e_matrix F n P) (r0 + i) (c0 + j)) v
  cut_bits i j v below within v_below =
      let k = width F in
      let inside : j * k + v < c1 * k - c0 * k = let e = ap (λ (A : Matrix). A.cols) is in let w' = cut_wide in let t = next_le j (c1 - c0) k within in omega (arith, e, w', t, v_below) in
      ap (λ (A : Matrix). at A i (j * k + v)) is
      ∙ at-table (r1 - r0) (c1 * k - c0 * k) (λ i p. at P (r0 + i) (c0 * k + p)) i (j * k + v) (let e = cut_rows in omega (arith, e, below)) inside
      ∙ ap (at P (r0 + i)) (place c0 j k v)
      ∙ matrix_bit F n P p.packed p.matrix p.over (r0 + i) (c0 + j) v (let e = cut_rows in omega (arith, e, below, in_rows)) (omega (arith, within, in_cols)) v_below
    where
      place : (a j k v : ℕ) → a * k + (j * k + v) ≡ (a + j) * k + v
      place a j k v = grind arith

  pub cut_packed : IsPackedIn F (c1 - c0) Q
  cut_packed = made_packed F p.packed.carried (c1 - c0) Q _ q cut_over cut_wide cut_element cut_bits

  pub cut_is : e_matrix F (c1 - c0) Q ≡ cut (e_matrix F n P) r0 c0 r1 c1
  cut_is =
      made_is F p.packed.carried (c1 - c0) Q _ q cut_over cut_wide cut_element cut_bits
      ∙ ap (λ rows. matrix_of F rows (c1 - c0) (λ i j. at (e_matrix F n P) (r0 + i) (c0 + j))) cut_rows
