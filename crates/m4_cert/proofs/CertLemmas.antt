-- What certificates mean.
use Rattle.std.specs.Prelude.{◌↔◌, IsTrue, IsFalse}
use Rattle.std.proofs.lemmas.Bool.{not-true}
use Rattle.std.proofs.Common.{Bool, not, ◌≡◌, ℕ, ◌<◌, refl, sym, ◌∙◌, ap, arith}
use Rattle.m4_model.specs.Field.{Field}
use Rattle.m4_model.specs.Matrix.{Matrix, IsMatrix, HasShape, at, product, zero_matrix, matrix_of}
use Rattle.m4_model.specs.Shapes.{transposed}
use Rattle.m4_model.specs.Forms.{Singular, NoSolution}
use Rattle.m4_model.proofs.FieldLaws.{FieldLaws}
use Rattle.m4_model.proofs.FieldProofs.{field_laws}
use Rattle.m4_model.proofs.ProductLemmas.{times-same}
use Rattle.m4_model.proofs.ShapeLemmas.{IsElement-shape, same_entries, HasShape-own, HasShape-matrix_of, at-matrix_of, HasShape-zero_matrix, at-zero_matrix, at-product, HasShape-product, at-transposed, HasShape-transposed}
use Rattle.m4_model.proofs.RingLemmas.{product_assoc, product-zero_left, transposed_twice, transposed-product}
use Rattle.m4_cert.specs.Certificates.{HasNonzero, CertSingular, CertNone}

-- a square matrix, and rows of its length over its field
module _ (A K : Matrix) (a : IsMatrix A) (k : IsMatrix K) (square : A.cols ≡ A.rows) (field : K.field ≡ A.field) (cols : K.cols ≡ A.cols) where
  laws : FieldLaws A.field
  laws = field_laws A.field a.over_field

  shape_of_a : HasShape A.field A.rows A.rows A
  shape_of_a = record { is_matrix = a; over = refl; rows = refl; cols = square }

  shape_of_k : HasShape A.field K.rows A.rows K
  shape_of_k = record { is_matrix = k; over = field; rows = refl; cols = cols ∙ square }

  -- a row as a column
  abbrev column : ℕ → Matrix
  column i = matrix_of A.field A.rows 1 (λ t q. at K i t)

  shape_of_column : (i : ℕ) → i < K.rows → HasShape A.field A.rows 1 (column i)
  shape_of_column i within = HasShape-matrix_of A.field A.rows 1 (λ t q. at K i t) a.over_field (λ t q in_rows in_cols. IsElement-shape shape_of_k i t within in_rows)

  -- the matrix takes it to a column of the product with the transpose
  times_column : (i : ℕ) → i < K.rows → (p q : ℕ) → p < A.rows → q < 1 → at (product A (column i)) p q ≡ at (product A (transposed K)) p i
  times_column i within p q in_rows in_cols =
      at-product shape_of_a (shape_of_column i within) p q in_rows in_cols
      ∙ times-same A.field A.rows (at A) (at (column i)) (at A) (at (transposed K)) p q p i (λ t below. refl)
      (λ t below. at-matrix_of A.field A.rows 1 (λ t q. at K i t) t q below in_cols ∙ sym (at-transposed shape_of_k t i below within))
      ∙ sym (at-product shape_of_a (HasShape-transposed shape_of_k) p i in_rows within)

  -- a row that isn't zero shows that the matrix is singular, if all rows are taken to zero
  singular_from : HasNonzero K → product A (transposed K) ≡ zero_matrix A.field A.rows K.rows → Singular A
  singular_from (i, j, within, in_cols, some) killed =
      let inside : j < A.rows = omega (arith, in_cols, cols, square) in
      record {
        square = square;
        v = column i;
        shape = shape_of_column i within;
        nonzero = λ zeros. some (sym (at-matrix_of A.field A.rows 1 (λ t q. at K i t) j 0 inside (omega arith))
            ∙ ap (λ (M : Matrix). at M j 0) zeros ∙ at-zero_matrix A.field A.rows 1 j 0 inside (omega arith));
        killed = same_entries (HasShape-product shape_of_a (shape_of_column i within) laws) (HasShape-zero_matrix A.field A.rows 1 a.over_field) (λ p q in_rows in_cols.
            times_column i within p q in_rows in_cols ∙ ap (λ (M : Matrix). at M p i) killed ∙ at-zero_matrix A.field A.rows K.rows p i in_rows within
            ∙ sym (at-zero_matrix A.field A.rows 1 p q in_rows in_cols));
      }

  -- the product with the transpose on the other side
  abbrev killed : Matrix
  killed = product A (transposed K)

  shape_of_killed : HasShape A.field A.rows K.rows killed
  shape_of_killed = HasShape-product shape_of_a (HasShape-transposed shape_of_k) laws

  turned : transposed killed ≡ product K (transposed A)
  turned = transposed-product laws shape_of_a (HasShape-transposed shape_of_k) ∙ ap (λ (M : Matrix). product M (transposed A)) (transposed_twice shape_of_k)

  killed_from : product K (transposed A) ≡ zero_matrix A.field K.rows A.rows → killed ≡ zero_matrix A.field A.rows K.rows
  killed_from zero = same_entries shape_of_killed (HasShape-zero_matrix A.field A.rows K.rows a.over_field) (λ i j in_rows in_cols.
      sym (at-transposed shape_of_killed j i in_cols in_rows) ∙ ap (λ (M : Matrix). at M j i) (turned ∙ zero) ∙ at-zero_matrix A.field K.rows A.rows j i in_cols in_rows
      ∙ sym (at-zero_matrix A.field A.rows K.rows i j in_rows in_cols))

  killed_turned : killed ≡ zero_matrix A.field A.rows K.rows → product K (transposed A) ≡ zero_matrix A.field K.rows A.rows
  killed_turned zero = sym turned ∙ same_entries (HasShape-transposed shape_of_killed) (HasShape-zero_matrix A.field K.rows A.rows a.over_field) (λ j i in_rows in_cols.
      at-transposed shape_of_killed j i in_rows in_cols ∙ ap (λ (M : Matrix). at M i j) zero ∙ at-zero_matrix A.field A.rows K.rows i j in_cols in_rows
      ∙ sym (at-zero_matrix A.field K.rows A.rows j i in_rows in_cols))

  -- what tells the one tells the other
  pub singular_decided : {X : Type 0} → HasNonzero K → X ↔ (product K (transposed A) ≡ zero_matrix K.field K.rows A.rows) → X ↔ CertSingular A K
  singular_decided nonzero decided =
      let same : zero_matrix K.field K.rows A.rows ≡ zero_matrix A.field K.rows A.rows = ap (λ (F : Field). zero_matrix F K.rows A.rows) field in (
        λ x. record { square = square; same_field = field; same_cols = cols; nonzero = nonzero; killed = killed_from (decided.0 x ∙ same) },
        λ cert. decided.1 (killed_turned cert.killed ∙ sym same),
      )

-- what the certificate of a singular matrix shows
pub is_singular : (A K : Matrix) → IsMatrix A → IsMatrix K → CertSingular A K → Singular A
is_singular A K a k cert = singular_from A K a k cert.square cert.same_field cert.same_cols cert.nonzero cert.killed

-- equations whose left sides combine to zero, and whose right sides don't
pub has_none : (A B W : Matrix) → IsMatrix A → IsMatrix W → CertNone A B W → NoSolution A B
has_none A B W a w cert X x solves =
    let laws : FieldLaws A.field = field_laws A.field a.over_field in
    let shape_of_w : HasShape A.field W.rows A.rows W = record { is_matrix = w; over = cert.field_of_w; rows = refl; cols = sym cert.rows_of_a } in
    let combined : product W B ≡ zero_matrix A.field W.rows B.cols =
    ap (product W) (sym solves) ∙ sym (product_assoc laws shape_of_w (HasShape-own A a) x) ∙ ap (λ (M : Matrix). product M X) cert.killed ∙ product-zero_left laws x W.rows in
    let row = cert.nonzero.0 in
    let col = cert.nonzero.1 in
    cert.nonzero.4 (ap (λ (M : Matrix). at M row col) combined ∙ at-zero_matrix A.field W.rows B.cols row col cert.nonzero.2 cert.nonzero.3)

-- what decides the certificate of a missing solution
pub none_decided : (A B W : Matrix) (b : Bool) → B.field ≡ A.field → W.field ≡ A.field → A.rows ≡ W.cols → B.rows ≡ W.cols
    → product W A ≡ zero_matrix W.field W.rows A.cols → IsFalse b ↔ HasNonzero (product W B) → IsTrue (not b) ↔ CertNone A B W
none_decided A B W b field_of_b field_of_w rows_of_a rows_of_b zero decided =
    let same : zero_matrix W.field W.rows A.cols ≡ zero_matrix A.field W.rows A.cols = ap (λ (F : Field). zero_matrix F W.rows A.cols) field_of_w in (
      λ holds. record { field_of_b = field_of_b; field_of_w = field_of_w; rows_of_a = rows_of_a; rows_of_b = rows_of_b; killed = zero ∙ same; nonzero = decided.0 (not-true b holds) },
      λ cert. ap not (decided.1 cert.nonzero),
    )
