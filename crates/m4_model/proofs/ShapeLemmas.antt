-- Shapes of matrices: what a shape tells, the shapes of sums and products and of matrices made of parts, their entries,
-- and equality by entries.
use Rattle.std.proofs.Common.{◌≡◌, ℕ, ◌<◌, refl, sym, ◌∙◌, ap, subst, arith, bit_xor}
use Rattle.std.specs.Int.Bits.{xor_lt}
use Rattle.std.proofs.Math.Pow.{pow_pos}
use Rattle.m4_model.specs.Field.{Field, IsField, IsElement}
use Rattle.m4_model.specs.Matrix.{Matrix, IsMatrix, HasShape, at, matrix_of, zero_matrix, identity, added, product}
use Rattle.m4_model.specs.Shapes.{transposed}
use Rattle.m4_model.proofs.FieldLaws.{FieldLaws}
use Rattle.m4_model.proofs.MatrixLemmas.{at-table, same_matrix, IsMatrix-matrix_of}
use Rattle.m4_model.proofs.ProductLemmas.{times, unit_at, IsElement-times}

module _ {F : Field} {m n : ℕ} {A : Matrix} where
  -- a fact about the field, the rows and the columns of a matrix is one about its shape
  pub at_shape : HasShape F m n A → (P : Field → ℕ → ℕ → Type 0) → P A.field A.rows A.cols → P F m n
  at_shape shape P fact =
      subst (λ (n : ℕ). P F m n) shape.cols (subst (λ (m : ℕ). P F m A.cols) shape.rows (subst (λ (F : Field). P F A.rows A.cols) shape.over fact))

  -- its field is one
  pub IsField-shape : HasShape F m n A → IsField F
  IsField-shape shape = subst IsField shape.over shape.is_matrix.over_field

  -- its entries are elements of its field
  pub IsElement-shape : HasShape F m n A → (i j : ℕ) → i < m → j < n → IsElement F (at A i j)
  IsElement-shape shape = at_shape shape (λ F m n. (i j : ℕ) → i < m → j < n → IsElement F (at A i j)) shape.is_matrix.elements

  -- a matrix with these entries is the one that is made of them
  pub same_from_entries : HasShape F m n A → (g : ℕ → ℕ → ℕ) → ((i j : ℕ) → i < m → j < n → at A i j ≡ g i j) → A ≡ matrix_of F m n g
  same_from_entries shape g entries =
      same_matrix F m n g A shape.over shape.rows shape.cols (shape.is_matrix.height ∙ shape.rows)
      (λ i below. let rows = shape.rows in shape.is_matrix.width i (omega (arith, below)) ∙ shape.cols) entries

  -- matrices of one shape with the same entries are equal
  pub same_entries : {B : Matrix} → HasShape F m n A → HasShape F m n B → ((i j : ℕ) → i < m → j < n → at A i j ≡ at B i j) → A ≡ B
  same_entries {B} a b entries =
      same_matrix F m n (at B) A a.over a.rows a.cols (a.is_matrix.height ∙ a.rows)
      (λ i below. let rows = a.rows in a.is_matrix.width i (omega (arith, below)) ∙ a.cols) entries
      ∙ sym (same_matrix F m n (at B) B b.over b.rows b.cols (b.is_matrix.height ∙ b.rows)
      (λ i below. let rows = b.rows in b.is_matrix.width i (omega (arith, below)) ∙ b.cols) (λ i j in_rows in_cols. refl))

-- a matrix has its own shape
pub HasShape-own : (A : Matrix) → IsMatrix A → HasShape A.field A.rows A.cols A
HasShape-own A is_matrix = record { is_matrix = is_matrix; over = refl; rows = refl; cols = refl }

-- a matrix made of elements has the shape that was asked for
pub HasShape-matrix_of : (F : Field) (m n : ℕ) (g : ℕ → ℕ → ℕ) → IsField F
    → ((i j : ℕ) → i < m → j < n → IsElement F (g i j)) → HasShape F m n (matrix_of F m n g)
HasShape-matrix_of F m n g field elements =
    record { is_matrix = IsMatrix-matrix_of F m n g field elements; over = refl; rows = refl; cols = refl }

-- the entry of a matrix made of entries
pub at-matrix_of : (F : Field) (m n : ℕ) (g : ℕ → ℕ → ℕ) (i j : ℕ) → i < m → j < n → at (matrix_of F m n g) i j ≡ g i j
at-matrix_of F m n g i j in_rows in_cols = at-table m n g i j in_rows in_cols

-- the zero matrix
pub HasShape-zero_matrix : (F : Field) (m n : ℕ) → IsField F → HasShape F m n (zero_matrix F m n)
HasShape-zero_matrix F m n field = HasShape-matrix_of F m n (λ i j. 0) field (λ i j in_rows in_cols. pow_pos F.degree)

pub at-zero_matrix : (F : Field) (m n i j : ℕ) → i < m → j < n → at (zero_matrix F m n) i j ≡ 0
at-zero_matrix F m n i j in_rows in_cols = at-table m n (λ i j. 0) i j in_rows in_cols

-- the identity
pub at-identity : (F : Field) (n i j : ℕ) → i < n → j < n → at (identity F n) i j ≡ unit_at i j
at-identity F n i j in_rows in_cols = at-table n n unit_at i j in_rows in_cols

module _ {F : Field} {m n : ℕ} {A B : Matrix} (a : HasShape F m n A) (b : HasShape F m n B) where
  -- the entries of a sum
  pub at-added : (i j : ℕ) → i < m → j < n → at (added A B) i j ≡ bit_xor (at A i j) (at B i j)
  at-added = at_shape a (λ F m n. (i j : ℕ) → i < m → j < n → at (added A B) i j ≡ bit_xor (at A i j) (at B i j))
      (at-table A.rows A.cols (λ i j. bit_xor (at A i j) (at B i j)))

  -- a sum has the shape of its terms
  pub HasShape-added : HasShape F m n (added A B)
  HasShape-added =
      let sum : HasShape A.field A.rows A.cols (added A B)
      = HasShape-matrix_of A.field A.rows A.cols (λ i j. bit_xor (at A i j) (at B i j)) a.is_matrix.over_field (λ i j in_rows in_cols.
      let rows = a.rows in
      let cols = a.cols in
      let other : IsElement A.field (at B i j)
      = subst (λ (F : Field). IsElement F (at B i j)) (sym a.over) (IsElement-shape b i j (omega (arith, in_rows)) (omega (arith, in_cols))) in
      xor_lt A.field.degree (at A i j) (at B i j) (a.is_matrix.elements i j in_rows in_cols) other) in
      at_shape a (λ F m n. HasShape F m n (added A B)) sum

module _ {F : Field} {m l n : ℕ} {A B : Matrix} (a : HasShape F m l A) (b : HasShape F l n B) where
  -- the entries of a product
  pub at-product : (i j : ℕ) → i < m → j < n → at (product A B) i j ≡ times F l (at A) (at B) i j
  at-product i j in_rows in_cols =
      let cols = b.cols in
      at_shape a (λ F m l. (i j : ℕ) → i < m → j < B.cols → at (product A B) i j ≡ times F l (at A) (at B) i j)
      (at-table A.rows B.cols (times A.field A.cols (at A) (at B))) i j in_rows (omega (arith, in_cols))

  -- the shape of a product
  pub HasShape-product : FieldLaws F → HasShape F m n (product A B)
  HasShape-product laws =
      let field : IsField F = IsField-shape a in
      let made : HasShape F m n (matrix_of F m n (times F l (at A) (at B)))
      = HasShape-matrix_of F m n (times F l (at A) (at B)) field (λ i j in_rows in_cols.
      IsElement-times F laws l (at A) (at B) i j (λ t below. IsElement-shape a i t in_rows below) (λ t below. IsElement-shape b t j below in_cols)) in
      let over : matrix_of A.field A.rows B.cols (times A.field A.cols (at A) (at B)) ≡ matrix_of F m n (times F l (at A) (at B))
      = ap (λ (k : ℕ). matrix_of A.field A.rows k (times A.field A.cols (at A) (at B))) b.cols
      ∙ at_shape a (λ F m l. matrix_of A.field A.rows n (times A.field A.cols (at A) (at B)) ≡ matrix_of F m n (times F l (at A) (at B))) refl in
      subst (HasShape F m n) (sym over) made

  -- a product is the matrix made of its entries
  pub product_made : product A B ≡ matrix_of F m n (times F l (at A) (at B))
  product_made =
      ap (λ (k : ℕ). matrix_of A.field A.rows k (times A.field A.cols (at A) (at B))) b.cols
      ∙ at_shape a (λ F m l. matrix_of A.field A.rows n (times A.field A.cols (at A) (at B)) ≡ matrix_of F m n (times F l (at A) (at B))) refl

  -- a matrix with the product's entries is the product
  pub is_product : {C : Matrix} → HasShape F m n C → ((i j : ℕ) → i < m → j < n → at C i j ≡ times F l (at A) (at B) i j) → C ≡ product A B
  is_product {C} c entries = same_from_entries c (times F l (at A) (at B)) entries ∙ sym product_made

module _ {F : Field} {m n : ℕ} {A : Matrix} (a : HasShape F m n A) where
  -- the entries of a transpose
  pub at-transposed : (i j : ℕ) → i < n → j < m → at (transposed A) i j ≡ at A j i
  at-transposed = at_shape a (λ F m n. (i j : ℕ) → i < n → j < m → at (transposed A) i j ≡ at A j i) (at-table A.cols A.rows (λ i j. at A j i))

  -- the shape of a transpose
  pub HasShape-transposed : HasShape F n m (transposed A)
  HasShape-transposed = at_shape a (λ F m n. HasShape F n m (transposed A))
      (HasShape-matrix_of A.field A.cols A.rows (λ i j. at A j i) a.is_matrix.over_field (λ i j in_rows in_cols. a.is_matrix.elements j i in_cols in_rows))
