-- Parts of matrices: their entries and shapes, matrices as their parts, and parts of sums and products.
use Rattle.std.proofs.Common.{◌≡◌, ℕ, ◌+◌, ◌-◌, ◌<◌, ◌≤◌, refl, sym, ◌∙◌, ap, ap₂, subst, arith, bit_xor}
use Rattle.m4_model.specs.Field.{Field}
use Rattle.m4_model.specs.Matrix.{Matrix, HasShape, at, matrix_of, added, product}
use Rattle.m4_model.specs.Shapes.{above, beside, cut}
use Rattle.m4_model.proofs.FieldLaws.{FieldLaws}
use Rattle.m4_model.proofs.MatrixLemmas.{at-table}
use Rattle.m4_model.proofs.ProductLemmas.{times-same}
use Rattle.m4_model.proofs.ShapeLemmas.{IsField-shape, IsElement-shape, HasShape-matrix_of, same_entries, at-added, HasShape-added, at-product, HasShape-product}
use Rattle.m4_model.proofs.BlockLemmas.{at-above_top, at-above_bottom, HasShape-above, at-beside_left, at-beside_right, HasShape-beside, same_rows, same_cols, product-blocks}

-- the entries of the part of p rows from r0 on and q columns from c0 on
pub at-cut : (A : Matrix) (r0 c0 r1 c1 p q : ℕ) → r0 + p ≡ r1 → c0 + q ≡ c1 → (i j : ℕ) → i < p → j < q
    → at (cut A r0 c0 r1 c1) i j ≡ at A (r0 + i) (c0 + j)
at-cut A r0 c0 r1 c1 p q rows cols i j below within =
    at-table (r1 - r0) (c1 - c0) (λ i j. at A (r0 + i) (c0 + j)) i j (omega (arith, rows, below)) (omega (arith, cols, within))

-- its shape
pub HasShape-cut : {F : Field} {m n : ℕ} {A : Matrix} → HasShape F m n A → (r0 c0 r1 c1 p q : ℕ) → r0 + p ≡ r1 → c0 + q ≡ c1 → r1 ≤ m → c1 ≤ n
    → HasShape F p q (cut A r0 c0 r1 c1)
HasShape-cut {F} {m} {n} {A} a r0 c0 r1 c1 p q rows cols in_rows in_cols =
    let high : r1 - r0 ≡ p = omega (arith, rows) in
    let wide : c1 - c0 ≡ q = omega (arith, cols) in
    let entries : HasShape F p q (matrix_of F p q (λ i j. at A (r0 + i) (c0 + j)))
    = HasShape-matrix_of F p q (λ i j. at A (r0 + i) (c0 + j)) (IsField-shape a)
    (λ i j below within. IsElement-shape a (r0 + i) (c0 + j) (omega (arith, rows, in_rows, below)) (omega (arith, cols, in_cols, within))) in
    let same : matrix_of F p q (λ i j. at A (r0 + i) (c0 + j)) ≡ cut A r0 c0 r1 c1
    = λ k. matrix_of (sym a.over k) (sym high k) (sym wide k) (λ i j. at A (r0 + i) (c0 + j)) in
    subst (HasShape F p q) same entries

module _ {F : Field} {m n : ℕ} {A : Matrix} (a : HasShape F m n A) where
  -- a matrix is its upper rows over the others
  pub above_cuts : (r k : ℕ) → r + k ≡ m → A ≡ above (cut A 0 0 r n) (cut A r 0 m n)
  above_cuts r k parts =
      let top = HasShape-cut a 0 0 r n r n (omega arith) (omega arith) (omega (arith, parts)) (omega arith) in
      let bottom = HasShape-cut a r 0 m n k n parts (omega arith) (omega arith) (omega arith) in
      let whole : HasShape F (r + k) n A = subst (λ (m : ℕ). HasShape F m n A) (sym parts) a in
      same_rows whole (HasShape-above top bottom)
      (λ i j below within.
      let same : 0 + i ≡ i = omega arith in
      let same_col : 0 + j ≡ j = omega arith in
      sym (at-above_top top bottom i j below within
      ∙ at-cut A 0 0 r n r n (omega arith) (omega arith) i j below within
      ∙ rw (same, same_col) refl))
      (λ i j below within.
      let same_col : 0 + j ≡ j = omega arith in
      sym (at-above_bottom top bottom i j below within
      ∙ at-cut A r 0 m n k n parts (omega arith) i j below within
      ∙ rw same_col refl))

  -- and its left columns beside the others
  pub beside_cuts : (c k : ℕ) → c + k ≡ n → A ≡ beside (cut A 0 0 m c) (cut A 0 c m n)
  beside_cuts c k parts =
      let left = HasShape-cut a 0 0 m c m c (omega arith) (omega arith) (omega arith) (omega (arith, parts)) in
      let right = HasShape-cut a 0 c m n m k (omega arith) parts (omega arith) (omega arith) in
      let whole : HasShape F m (c + k) A = subst (λ (n : ℕ). HasShape F m n A) (sym parts) a in
      same_cols whole (HasShape-beside left right)
      (λ i j below within.
      let same : 0 + i ≡ i = omega arith in
      let same_col : 0 + j ≡ j = omega arith in
      sym (at-beside_left left right i j below within
      ∙ at-cut A 0 0 m c m c (omega arith) (omega arith) i j below within
      ∙ rw (same, same_col) refl))
      (λ i j below within.
      let same : 0 + i ≡ i = omega arith in
      sym (at-beside_right left right i j below within
      ∙ at-cut A 0 c m n m k (omega arith) parts i j below within
      ∙ rw same refl))

  -- the whole is a part
  pub cut_whole : cut A 0 0 m n ≡ A
  cut_whole =
      same_entries (HasShape-cut a 0 0 m n m n (omega arith) (omega arith) (omega arith) (omega arith)) a (λ i j below within.
      let same : 0 + i ≡ i = omega arith in
      let same_col : 0 + j ≡ j = omega arith in
      at-cut A 0 0 m n m n (omega arith) (omega arith) i j below within ∙ rw (same, same_col) refl)

  -- a part of a part
  pub cut_twice : (r0 c0 r1 c1 p q : ℕ) → r0 + p ≡ r1 → c0 + q ≡ c1 → r1 ≤ m → c1 ≤ n → (s0 d0 s1 d1 u v : ℕ) → s0 + u ≡ s1 → d0 + v ≡ d1 → s1 ≤ p → d1 ≤ q
      → cut (cut A r0 c0 r1 c1) s0 d0 s1 d1 ≡ cut A (r0 + s0) (c0 + d0) (r0 + s1) (c0 + d1)
  cut_twice r0 c0 r1 c1 p q rows cols in_rows in_cols s0 d0 s1 d1 u v inner_rows inner_cols within_rows within_cols =
      let outer = HasShape-cut a r0 c0 r1 c1 p q rows cols in_rows in_cols in
      same_entries
      (HasShape-cut outer s0 d0 s1 d1 u v inner_rows inner_cols within_rows within_cols)
      (HasShape-cut a (r0 + s0) (c0 + d0) (r0 + s1) (c0 + d1) u v (omega (arith, inner_rows)) (omega (arith, inner_cols))
      (omega (arith, rows, in_rows, within_rows)) (omega (arith, cols, in_cols, within_cols)))
      (λ i j below within.
      let row : r0 + (s0 + i) ≡ r0 + s0 + i = omega arith in
      let col : c0 + (d0 + j) ≡ c0 + d0 + j = omega arith in
      at-cut (cut A r0 c0 r1 c1) s0 d0 s1 d1 u v inner_rows inner_cols i j below within
      ∙ at-cut A r0 c0 r1 c1 p q rows cols (s0 + i) (d0 + j) (omega (arith, inner_rows, within_rows, below)) (omega (arith, inner_cols, within_cols, within))
      ∙ ap₂ (at A) row col
      ∙ sym (at-cut A (r0 + s0) (c0 + d0) (r0 + s1) (c0 + d1) u v (omega (arith, inner_rows)) (omega (arith, inner_cols)) i j below within))

-- a part of a sum is the sum of the parts
pub cut-added : {F : Field} {m n : ℕ} {A B : Matrix} → HasShape F m n A → HasShape F m n B → (r0 c0 r1 c1 p q : ℕ)
    → r0 + p ≡ r1 → c0 + q ≡ c1 → r1 ≤ m → c1 ≤ n → cut (added A B) r0 c0 r1 c1 ≡ added (cut A r0 c0 r1 c1) (cut B r0 c0 r1 c1)
cut-added {F} {m} {n} {A} {B} a b r0 c0 r1 c1 p q rows cols in_rows in_cols =
    let cut_a = HasShape-cut a r0 c0 r1 c1 p q rows cols in_rows in_cols in
    let cut_b = HasShape-cut b r0 c0 r1 c1 p q rows cols in_rows in_cols in
    same_entries (HasShape-cut (HasShape-added a b) r0 c0 r1 c1 p q rows cols in_rows in_cols) (HasShape-added cut_a cut_b) (λ i j below within.
    at-cut (added A B) r0 c0 r1 c1 p q rows cols i j below within
    ∙ at-added a b (r0 + i) (c0 + j) (omega (arith, rows, in_rows, below)) (omega (arith, cols, in_cols, within))
    ∙ sym (at-added cut_a cut_b i j below within
    ∙ ap₂ bit_xor (at-cut A r0 c0 r1 c1 p q rows cols i j below within) (at-cut B r0 c0 r1 c1 p q rows cols i j below within)))

module _ {F : Field} {m l n : ℕ} {A B : Matrix} (laws : FieldLaws F) (a : HasShape F m l A) (b : HasShape F l n B) where
  -- a part of a product is the product of rows and columns
  pub cut-product : (r0 c0 r1 c1 p q : ℕ) → r0 + p ≡ r1 → c0 + q ≡ c1 → r1 ≤ m → c1 ≤ n
      → cut (product A B) r0 c0 r1 c1 ≡ product (cut A r0 0 r1 l) (cut B 0 c0 l c1)
  cut-product r0 c0 r1 c1 p q rows cols in_rows in_cols =
      let cut_a = HasShape-cut a r0 0 r1 l p l rows (omega arith) in_rows (omega arith) in
      let cut_b = HasShape-cut b 0 c0 l c1 l q (omega arith) cols (omega arith) in_cols in
      same_entries (HasShape-cut (HasShape-product a b laws) r0 c0 r1 c1 p q rows cols in_rows in_cols) (HasShape-product cut_a cut_b laws) (λ i j below within.
      at-cut (product A B) r0 c0 r1 c1 p q rows cols i j below within
      ∙ at-product a b (r0 + i) (c0 + j) (omega (arith, rows, in_rows, below)) (omega (arith, cols, in_cols, within))
      ∙ times-same F l (at A) (at B) (at (cut A r0 0 r1 l)) (at (cut B 0 c0 l c1)) (r0 + i) (c0 + j) i j
      (λ t inside. let same : t ≡ 0 + t = omega arith in
      ap (at A (r0 + i)) same ∙ sym (at-cut A r0 0 r1 l p l rows (omega arith) i t below inside))
      (λ t inside. let same : t ≡ 0 + t = omega arith in
      ap (λ (t : ℕ). at B t (c0 + j)) same ∙ sym (at-cut B 0 c0 l c1 l q (omega arith) cols t j inside within))
      ∙ sym (at-product cut_a cut_b i j below within))

  -- a product is the sum of the products of the parts at a cut of the inner index
  pub product-cuts : (k s : ℕ) → k + s ≡ l
      → product A B ≡ added (product (cut A 0 0 m k) (cut B 0 0 k n)) (product (cut A 0 k m l) (cut B k 0 l n))
  product-cuts k s parts =
      let left = HasShape-cut a 0 0 m k m k (omega arith) (omega arith) (omega arith) (omega (arith, parts)) in
      let right = HasShape-cut a 0 k m l m s (omega arith) parts (omega arith) (omega arith) in
      let top = HasShape-cut b 0 0 k n k n (omega arith) (omega arith) (omega (arith, parts)) (omega arith) in
      let bottom = HasShape-cut b k 0 l n s n parts (omega arith) (omega arith) (omega arith) in
      ap₂ product (beside_cuts a k s parts) (above_cuts b k s parts)
      ∙ product-blocks laws left right top bottom

module _ {F : Field} {m k n : ℕ} {A B : Matrix} where
  -- the parts of one matrix over another
  pub cut-above_top : HasShape F m n A → HasShape F k n B → cut (above A B) 0 0 m n ≡ A
  cut-above_top a b =
      same_entries (HasShape-cut (HasShape-above a b) 0 0 m n m n (omega arith) (omega arith) (omega arith) (omega arith)) a (λ i j below within.
      let same : 0 + i ≡ i = omega arith in
      let same_col : 0 + j ≡ j = omega arith in
      at-cut (above A B) 0 0 m n m n (omega arith) (omega arith) i j below within
      ∙ ap₂ (at (above A B)) same same_col ∙ at-above_top a b i j below within)

  pub cut-above_bottom : HasShape F m n A → HasShape F k n B → cut (above A B) m 0 (m + k) n ≡ B
  cut-above_bottom a b =
      same_entries (HasShape-cut (HasShape-above a b) m 0 (m + k) n k n refl (omega arith) (omega arith) (omega arith)) b (λ i j below within.
      let same_col : 0 + j ≡ j = omega arith in
      at-cut (above A B) m 0 (m + k) n k n refl (omega arith) i j below within
      ∙ ap (at (above A B) (m + i)) same_col ∙ at-above_bottom a b i j below within)

  -- the parts of one matrix beside another
  pub cut-beside_left : HasShape F m k A → HasShape F m n B → cut (beside A B) 0 0 m k ≡ A
  cut-beside_left a b =
      same_entries (HasShape-cut (HasShape-beside a b) 0 0 m k m k (omega arith) (omega arith) (omega arith) (omega arith)) a (λ i j below within.
      let same : 0 + i ≡ i = omega arith in
      let same_col : 0 + j ≡ j = omega arith in
      at-cut (beside A B) 0 0 m k m k (omega arith) (omega arith) i j below within
      ∙ ap₂ (at (beside A B)) same same_col ∙ at-beside_left a b i j below within)

  pub cut-beside_right : HasShape F m k A → HasShape F m n B → cut (beside A B) 0 k m (k + n) ≡ B
  cut-beside_right a b =
      same_entries (HasShape-cut (HasShape-beside a b) 0 k m (k + n) m n (omega arith) refl (omega arith) (omega arith)) b (λ i j below within.
      let same : 0 + i ≡ i = omega arith in
      at-cut (beside A B) 0 k m (k + n) m n (omega arith) refl i j below within
      ∙ ap (λ (i : ℕ). at (beside A B) i (k + j)) same ∙ at-beside_right a b i j below within)
