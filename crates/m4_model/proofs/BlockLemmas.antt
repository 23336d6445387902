-- Products by blocks: of rows, of columns, of the inner index, of a part, and of rows in another order.
use Rattle.std.proofs.Common.{◌≡◌, ℕ, ◌+◌, ◌-◌, ◌<◌, ◌≤◌, ⊎_elim, refl, sym, ◌∙◌, ap, ap₂, subst, arith, bit_xor, nat_lt, if◌then◌else◌}
use Rattle.std.proofs.lemmas.Bool.{cases_lt, lt-ltb, le-ltb}
use Rattle.m4_model.specs.Field.{Field, IsElement}
use Rattle.m4_model.specs.Matrix.{Matrix, HasShape, at, matrix_of, added, product}
use Rattle.m4_model.specs.Shapes.{above, beside}
use Rattle.m4_model.proofs.FieldLaws.{FieldLaws}
use Rattle.m4_model.proofs.MatrixLemmas.{at-table}
use Rattle.m4_model.proofs.ProductLemmas.{times-same, times-split}
use Rattle.m4_model.proofs.ShapeLemmas.{at_shape, IsField-shape, IsElement-shape, same_entries, HasShape-matrix_of, at-added, HasShape-added, at-product, HasShape-product}

module _ {F : Field} {m k n : ℕ} {A B : Matrix} (a : HasShape F m n A) (b : HasShape F k n B) where
  -- the entries of one matrix over another
  entry_above : (i j : ℕ) → i < m + k → j < n → at (above A B) i j ≡ (if nat_lt i m then at A i j else at B (i - m) j)
  entry_above =
      let rows = b.rows in
      let own = at_shape a (λ F m n. (i j : ℕ) → i < m + B.rows → j < n → at (above A B) i j ≡ (if nat_lt i m then at A i j else at B (i - m) j))
      (at-table (A.rows + B.rows) A.cols (λ i j. if nat_lt i A.rows then at A i j else at B (i - A.rows) j)) in
      λ i j in_rows in_cols. own i j (omega (arith, in_rows)) in_cols

  -- in its upper rows
  pub at-above_top : (i j : ℕ) → i < m → j < n → at (above A B) i j ≡ at A i j
  at-above_top i j in_rows in_cols = entry_above i j (omega (arith, in_rows)) in_cols ∙ rw (lt-ltb i m in_rows) refl

  -- in its lower rows
  pub at-above_bottom : (i j : ℕ) → i < k → j < n → at (above A B) (m + i) j ≡ at B i j
  at-above_bottom i j in_rows in_cols =
      let back : m + i - m ≡ i = omega arith in
      entry_above (m + i) j (omega (arith, in_rows)) in_cols ∙ rw (le-ltb (m + i) m (omega arith), back) refl

  -- its shape
  pub HasShape-above : HasShape F (m + k) n (above A B)
  HasShape-above =
      let rows = b.rows in
      let elements : (i j : ℕ) → i < m + k → j < n → IsElement F (if nat_lt i m then at A i j else at B (i - m) j)
      = λ i j in_rows in_cols. ⊎_elim
      (λ (upper : i < m). rw (lt-ltb i m upper) (IsElement-shape a i j upper in_cols))
      (λ (lower : m ≤ i). rw (le-ltb i m lower) (IsElement-shape b (i - m) j (omega (arith, in_rows, lower)) in_cols))
      (cases_lt i m) in
      let made : HasShape F (m + k) n (matrix_of F (m + k) n (λ i j. if nat_lt i m then at A i j else at B (i - m) j))
      = HasShape-matrix_of F (m + k) n (λ i j. if nat_lt i m then at A i j else at B (i - m) j) (IsField-shape a) elements in
      let same : above A B ≡ matrix_of F (m + k) n (λ i j. if nat_lt i m then at A i j else at B (i - m) j)
      = ap (λ (k : ℕ). matrix_of A.field (A.rows + k) A.cols (λ i j. if nat_lt i A.rows then at A i j else at B (i - A.rows) j)) rows
      ∙ at_shape a (λ F m n. matrix_of A.field (A.rows + k) A.cols (λ i j. if nat_lt i A.rows then at A i j else at B (i - A.rows) j)
      ≡ matrix_of F (m + k) n (λ i j. if nat_lt i m then at A i j else at B (i - m) j)) refl in
      subst (HasShape F (m + k) n) (sym same) made

module _ {F : Field} {m k n : ℕ} {A B : Matrix} (a : HasShape F m k A) (b : HasShape F m n B) where
  -- the entries of one matrix beside another
  entry_beside : (i j : ℕ) → i < m → j < k + n → at (beside A B) i j ≡ (if nat_lt j k then at A i j else at B i (j - k))
  entry_beside =
      let cols = b.cols in
      let own = at_shape a (λ F m k. (i j : ℕ) → i < m → j < k + B.cols → at (beside A B) i j ≡ (if nat_lt j k then at A i j else at B i (j - k)))
      (at-table A.rows (A.cols + B.cols) (λ i j. if nat_lt j A.cols then at A i j else at B i (j - A.cols))) in
      λ i j in_rows in_cols. own i j in_rows (omega (arith, in_cols))

  -- in its left columns
  pub at-beside_left : (i j : ℕ) → i < m → j < k → at (beside A B) i j ≡ at A i j
  at-beside_left i j in_rows in_cols = entry_beside i j in_rows (omega (arith, in_cols)) ∙ rw (lt-ltb j k in_cols) refl

  -- in its right columns
  pub at-beside_right : (i j : ℕ) → i < m → j < n → at (beside A B) i (k + j) ≡ at B i j
  at-beside_right i j in_rows in_cols =
      let back : k + j - k ≡ j = omega arith in
      entry_beside i (k + j) in_rows (omega (arith, in_cols)) ∙ rw (le-ltb (k + j) k (omega arith), back) refl

  -- its shape
  pub HasShape-beside : HasShape F m (k + n) (beside A B)
  HasShape-beside =
      let cols = b.cols in
      let elements : (i j : ℕ) → i < m → j < k + n → IsElement F (if nat_lt j k then at A i j else at B i (j - k))
      = λ i j in_rows in_cols. ⊎_elim
      (λ (left : j < k). rw (lt-ltb j k left) (IsElement-shape a i j in_rows left))
      (λ (right : k ≤ j). rw (le-ltb j k right) (IsElement-shape b i (j - k) in_rows (omega (arith, in_cols, right))))
      (cases_lt j k) in
      let made : HasShape F m (k + n) (matrix_of F m (k + n) (λ i j. if nat_lt j k then at A i j else at B i (j - k)))
      = HasShape-matrix_of F m (k + n) (λ i j. if nat_lt j k then at A i j else at B i (j - k)) (IsField-shape a) elements in
      let same : beside A B ≡ matrix_of F m (k + n) (λ i j. if nat_lt j k then at A i j else at B i (j - k))
      = ap (λ (n : ℕ). matrix_of A.field A.rows (A.cols + n) (λ i j. if nat_lt j A.cols then at A i j else at B i (j - A.cols))) cols
      ∙ at_shape a (λ F m k. matrix_of A.field A.rows (A.cols + n) (λ i j. if nat_lt j A.cols then at A i j else at B i (j - A.cols))
      ≡ matrix_of F m (k + n) (λ i j. if nat_lt j k then at A i j else at B i (j - k))) refl in
      subst (HasShape F m (k + n)) (sym same) made

-- matrices with the same upper rows and the same lower rows are equal
pub same_rows : {F : Field} {m k n : ℕ} {A B : Matrix} → HasShape F (m + k) n A → HasShape F (m + k) n B
    → ((i j : ℕ) → i < m → j < n → at A i j ≡ at B i j) → ((i j : ℕ) → i < k → j < n → at A (m + i) j ≡ at B (m + i) j) → A ≡ B
same_rows {F} {m} {k} {n} {A} {B} a b top bottom = same_entries a b (λ i j in_rows in_cols. ⊎_elim
    (λ (upper : i < m). top i j upper in_cols)
    (λ (lower : m ≤ i). let place : m + (i - m) ≡ i = omega (arith, lower) in
    subst (λ (i : ℕ). at A i j ≡ at B i j) place (bottom (i - m) j (omega (arith, in_rows, lower)) in_cols))
    (cases_lt i m))

-- matrices with the same left columns and the same right columns are equal
pub same_cols : {F : Field} {m k n : ℕ} {A B : Matrix} → HasShape F m (k + n) A → HasShape F m (k + n) B
    → ((i j : ℕ) → i < m → j < k → at A i j ≡ at B i j) → ((i j : ℕ) → i < m → j < n → at A i (k + j) ≡ at B i (k + j)) → A ≡ B
same_cols {F} {m} {k} {n} {A} {B} a b first second = same_entries a b (λ i j in_rows in_cols. ⊎_elim
    (λ (left : j < k). first i j in_rows left)
    (λ (right : k ≤ j). let place : k + (j - k) ≡ j = omega (arith, right) in
    subst (λ (j : ℕ). at A i j ≡ at B i j) place (second i (j - k) in_rows (omega (arith, in_cols, right))))
    (cases_lt j k))

module _ {F : Field} (laws : FieldLaws F) {m k l n : ℕ} {A B C : Matrix} where
  -- a product by blocks of rows
  pub product-above : HasShape F m l A → HasShape F k l B → HasShape F l n C → product (above A B) C ≡ above (product A C) (product B C)
  product-above a b c =
      let ab = HasShape-above a b in
      let ac = HasShape-product a c laws in
      let bc = HasShape-product b c laws in
      same_rows (HasShape-product ab c laws) (HasShape-above ac bc)
      (λ i j in_rows in_cols.
      at-product ab c i j (omega (arith, in_rows)) in_cols
      ∙ times-same F l (at (above A B)) (at C) (at A) (at C) i j i j (λ t below. at-above_top a b i t in_rows below) (λ t below. refl)
      ∙ sym (at-product a c i j in_rows in_cols)
      ∙ sym (at-above_top ac bc i j in_rows in_cols))
      (λ i j in_rows in_cols.
      at-product ab c (m + i) j (omega (arith, in_rows)) in_cols
      ∙ times-same F l (at (above A B)) (at C) (at B) (at C) (m + i) j i j (λ t below. at-above_bottom a b i t in_rows below) (λ t below. refl)
      ∙ sym (at-product b c i j in_rows in_cols)
      ∙ sym (at-above_bottom ac bc i j in_rows in_cols))

  -- a product by blocks of columns
  pub product-beside : HasShape F m l A → HasShape F l k B → HasShape F l n C → product A (beside B C) ≡ beside (product A B) (product A C)
  product-beside a b c =
      let bc = HasShape-beside b c in
      let ab = HasShape-product a b laws in
      let ac = HasShape-product a c laws in
      same_cols (HasShape-product a bc laws) (HasShape-beside ab ac)
      (λ i j in_rows in_cols.
      at-product a bc i j in_rows (omega (arith, in_cols))
      ∙ times-same F l (at A) (at (beside B C)) (at A) (at B) i j i j (λ t below. refl) (λ t below. at-beside_left b c t j below in_cols)
      ∙ sym (at-product a b i j in_rows in_cols)
      ∙ sym (at-beside_left ab ac i j in_rows in_cols))
      (λ i j in_rows in_cols.
      at-product a bc i (k + j) in_rows (omega (arith, in_cols))
      ∙ times-same F l (at A) (at (beside B C)) (at A) (at C) i (k + j) i j (λ t below. refl) (λ t below. at-beside_right b c t j below in_cols)
      ∙ sym (at-product a c i j in_rows in_cols)
      ∙ sym (at-beside_right ab ac i j in_rows in_cols))

  -- a product by blocks of the inner index is a sum of products
  pub product-blocks : {D : Matrix} → HasShape F m k A → HasShape F m l B → HasShape F k n C → HasShape F l n D
      → product (beside A B) (above C D) ≡ added (product A C) (product B D)
  product-blocks {D} a b c d =
      let ab = HasShape-beside a b in
      let cd = HasShape-above c d in
      let ac = HasShape-product a c laws in
      let bd = HasShape-product b d laws in
      same_entries (HasShape-product ab cd laws) (HasShape-added ac bd) (λ i j in_rows in_cols.
      at-product ab cd i j in_rows in_cols
      ∙ times-split F laws k l (at (beside A B)) (at (above C D)) i j
      ∙ ap₂ bit_xor
      (times-same F k (at (beside A B)) (at (above C D)) (at A) (at C) i j i j
      (λ t below. at-beside_left a b i t in_rows below) (λ t below. at-above_top c d t j below in_cols)
      ∙ sym (at-product a c i j in_rows in_cols))
      (times-same F l (λ s t. at (beside A B) s (k + t)) (λ t s. at (above C D) (k + t) s) (at B) (at D) i j i j
      (λ t below. at-beside_right a b i t in_rows below) (λ t below. at-above_bottom c d t j below in_cols)
      ∙ sym (at-product b d i j in_rows in_cols))
      ∙ sym (at-added ac bd i j in_rows in_cols))

-- the rows of A in the order p
abbrev pub picked_rows : Matrix → (ℕ → ℕ) → Matrix
picked_rows A p = matrix_of A.field A.rows A.cols (λ i j. at A (p i) j)

-- the columns of A in the order c
abbrev pub picked_cols : Matrix → (ℕ → ℕ) → Matrix
picked_cols A c = matrix_of A.field A.rows A.cols (λ i j. at A i (c j))

module _ {F : Field} {m n : ℕ} {A : Matrix} (a : HasShape F m n A) (p : ℕ → ℕ) where
  -- rows in another order
  pub at-picked_rows : (i j : ℕ) → i < m → j < n → at (picked_rows A p) i j ≡ at A (p i) j
  at-picked_rows = at_shape a (λ F m n. (i j : ℕ) → i < m → j < n → at (picked_rows A p) i j ≡ at A (p i) j)
      (at-table A.rows A.cols (λ i j. at A (p i) j))

  pub HasShape-picked_rows : ((i : ℕ) → i < m → p i < m) → HasShape F m n (picked_rows A p)
  HasShape-picked_rows = at_shape a (λ F m n. ((i : ℕ) → i < m → p i < m) → HasShape F m n (picked_rows A p))
      (λ below. HasShape-matrix_of A.field A.rows A.cols (λ i j. at A (p i) j) a.is_matrix.over_field
      (λ i j in_rows in_cols. a.is_matrix.elements (p i) j (below i in_rows) in_cols))

  -- columns in another order
  pub at-picked_cols : (i j : ℕ) → i < m → j < n → at (picked_cols A p) i j ≡ at A i (p j)
  at-picked_cols = at_shape a (λ F m n. (i j : ℕ) → i < m → j < n → at (picked_cols A p) i j ≡ at A i (p j))
      (at-table A.rows A.cols (λ i j. at A i (p j)))

  pub HasShape-picked_cols : ((j : ℕ) → j < n → p j < n) → HasShape F m n (picked_cols A p)
  HasShape-picked_cols = at_shape a (λ F m n. ((j : ℕ) → j < n → p j < n) → HasShape F m n (picked_cols A p))
      (λ below. HasShape-matrix_of A.field A.rows A.cols (λ i j. at A i (p j)) a.is_matrix.over_field
      (λ i j in_rows in_cols. a.is_matrix.elements i (p j) in_rows (below j in_cols)))

-- a sum of matrices side by side is the sums side by side
pub added-beside : {F : Field} {m k n : ℕ} {A B C D : Matrix} → HasShape F m k A → HasShape F m n B → HasShape F m k C → HasShape F m n D
    → added (beside A B) (beside C D) ≡ beside (added A C) (added B D)
added-beside {F} {m} {k} {n} {A} {B} {C} {D} a b c d =
    let ab = HasShape-beside a b in
    let cd = HasShape-beside c d in
    let ac = HasShape-added a c in
    let bd = HasShape-added b d in
    same_cols (HasShape-added ab cd) (HasShape-beside ac bd)
    (λ i j in_rows in_cols.
    at-added ab cd i j in_rows (omega (arith, in_cols))
    ∙ ap₂ bit_xor (at-beside_left a b i j in_rows in_cols) (at-beside_left c d i j in_rows in_cols)
    ∙ sym (at-added a c i j in_rows in_cols)
    ∙ sym (at-beside_left ac bd i j in_rows in_cols))
    (λ i j in_rows in_cols.
    at-added ab cd i (k + j) in_rows (omega (arith, in_cols))
    ∙ ap₂ bit_xor (at-beside_right a b i j in_rows in_cols) (at-beside_right c d i j in_rows in_cols)
    ∙ sym (at-added b d i j in_rows in_cols)
    ∙ sym (at-beside_right ac bd i j in_rows in_cols))

-- a matrix of four quarters
abbrev pub quarters : Matrix → Matrix → Matrix → Matrix → Matrix
quarters A B C D = above (beside A B) (beside C D)

-- what holds of each quarter's places holds of all places
pub by_quarters : (r k c n : ℕ) (P : ℕ → ℕ → Type 0) → ((i j : ℕ) → i < r → j < c → P i j) → ((i j : ℕ) → i < r → j < n → P i (c + j))
    → ((i j : ℕ) → i < k → j < c → P (r + i) j) → ((i j : ℕ) → i < k → j < n → P (r + i) (c + j)) → (i j : ℕ) → i < r + k → j < c + n → P i j
by_quarters r k c n P one two three four i j in_rows in_cols =
    let row_back : r ≤ i → r + (i - r) ≡ i = λ low. omega (arith, low) in
    let col_back : c ≤ j → c + (j - c) ≡ j = λ right. omega (arith, right) in
    ⊎_elim
    (λ (top : i < r). ⊎_elim
    (λ (left : j < c). one i j top left)
    (λ (right : c ≤ j). subst (P i) (col_back right) (two i (j - c) top (omega (arith, in_cols, right))))
    (cases_lt j c))
    (λ (bottom : r ≤ i). subst (λ (i : ℕ). P i j) (row_back bottom) (⊎_elim
    (λ (left : j < c). three (i - r) j (omega (arith, in_rows, bottom)) left)
    (λ (right : c ≤ j). subst (P (r + (i - r))) (col_back right) (four (i - r) (j - c) (omega (arith, in_rows, bottom)) (omega (arith, in_cols, right))))
    (cases_lt j c)))
    (cases_lt i r)

module _ {F : Field} {r k c n : ℕ} {A B C D : Matrix} (a : HasShape F r c A) (b : HasShape F r n B) (low : HasShape F k c C) (d : HasShape F k n D) where
  pub HasShape-quarters : HasShape F (r + k) (c + n) (quarters A B C D)
  HasShape-quarters = HasShape-above (HasShape-beside a b) (HasShape-beside low d)

  -- the entries of each quarter
  pub at-quarters_11 : (i j : ℕ) → i < r → j < c → at (quarters A B C D) i j ≡ at A i j
  at-quarters_11 i j in_rows in_cols =
      at-above_top (HasShape-beside a b) (HasShape-beside low d) i j in_rows (omega (arith, in_cols)) ∙ at-beside_left a b i j in_rows in_cols

  pub at-quarters_12 : (i j : ℕ) → i < r → j < n → at (quarters A B C D) i (c + j) ≡ at B i j
  at-quarters_12 i j in_rows in_cols =
      at-above_top (HasShape-beside a b) (HasShape-beside low d) i (c + j) in_rows (omega (arith, in_cols)) ∙ at-beside_right a b i j in_rows in_cols

  pub at-quarters_21 : (i j : ℕ) → i < k → j < c → at (quarters A B C D) (r + i) j ≡ at C i j
  at-quarters_21 i j in_rows in_cols =
      at-above_bottom (HasShape-beside a b) (HasShape-beside low d) i j in_rows (omega (arith, in_cols)) ∙ at-beside_left low d i j in_rows in_cols

  pub at-quarters_22 : (i j : ℕ) → i < k → j < n → at (quarters A B C D) (r + i) (c + j) ≡ at D i j
  at-quarters_22 i j in_rows in_cols =
      at-above_bottom (HasShape-beside a b) (HasShape-beside low d) i (c + j) in_rows (omega (arith, in_cols)) ∙ at-beside_right low d i j in_rows in_cols

-- a product by quarters
pub product-quarters : {F : Field} {r k s l c n : ℕ} {A B C D E G H K : Matrix} → FieldLaws F → HasShape F r s A → HasShape F r l B → HasShape F k s C → HasShape F k l D
    → HasShape F s c E → HasShape F s n G → HasShape F l c H → HasShape F l n K
    → product (quarters A B C D) (quarters E G H K)
    ≡ quarters (added (product A E) (product B H)) (added (product A G) (product B K)) (added (product C E) (product D H)) (added (product C G) (product D K))
product-quarters laws a b c d e g h k =
    let eg = HasShape-beside e g in
    let hk = HasShape-beside h k in
    product-above laws (HasShape-beside a b) (HasShape-beside c d) (HasShape-above eg hk)
    ∙ ap₂ above
    (product-blocks laws a b eg hk
    ∙ ap₂ added (product-beside laws a e g) (product-beside laws b h k)
    ∙ added-beside (HasShape-product a e laws) (HasShape-product a g laws) (HasShape-product b h laws) (HasShape-product b k laws))
    (product-blocks laws c d eg hk
    ∙ ap₂ added (product-beside laws c e g) (product-beside laws d h k)
    ∙ added-beside (HasShape-product c e laws) (HasShape-product c g laws) (HasShape-product d h laws) (HasShape-product d k laws))
