-- A free column makes a square matrix singular, and a right side that isn't free beside the matrix has no solution.
use Rattle.std.proofs.Common.{◌≡◌, ℕ, ◌+◌, ◌<◌, ◌≤◌, ⊎_elim, refl, sym, ◌∙◌, ap, ap₂, arith, bit_xor, nat_lt, if◌then◌else◌, ◌==◌}
use Rattle.std.specs.Int.Bits.{xor_self}
use Rattle.std.proofs.Math.Pow.{pow_pos}
use Rattle.std.proofs.lemmas.Bool.{cases_lt, cases_order, lt-ltb, le-ltb, eq-eqb, ne_eqb}
use Rattle.m4_model.specs.Field.{IsElement, sum_below, mul}
use Rattle.m4_model.specs.Matrix.{Matrix, IsMatrix, HasShape, at, matrix_of, identity, product}
use Rattle.m4_model.specs.Shapes.{beside}
use Rattle.m4_model.specs.Rank.{IsFree}
use Rattle.m4_model.specs.Forms.{IsInverse, Singular, NoSolution}
use Rattle.m4_model.proofs.FieldLaws.{FieldLaws}
use Rattle.m4_model.proofs.FieldLemmas.{sum_below-same, sum_below-more}
use Rattle.m4_model.proofs.SumLemmas.{sum_below-short, mul-zero_left, mul-one_right}
use Rattle.m4_model.proofs.RingLemmas.{IsElement-one, HasShape-one, product_assoc, product-identity_left, product-identity_right}
use Rattle.m4_model.proofs.FormLemmas.{same_image}
use Rattle.m4_model.proofs.ShapeLemmas.{HasShape-own, HasShape-matrix_of, at-matrix_of, HasShape-zero_matrix, at-zero_matrix, IsElement-shape, same_entries, at-product, HasShape-product}
use Rattle.m4_model.proofs.BlockLemmas.{at-beside_left, at-beside_right, HasShape-beside}
use Rattle.m4_model.proofs.RankLemmas.{free_from_dependent}

-- the coefficients before column j, 1 at j, and 0 after it
abbrev pub relation : (ℕ → ℕ) → ℕ → ℕ → ℕ
relation c j t = if nat_lt t j then c t else if t == j then 1 else 0

relation-before : (c : ℕ → ℕ) (j t : ℕ) → t < j → relation c j t ≡ c t
relation-before c j t before = rw (lt-ltb t j before) refl

relation-here : (c : ℕ → ℕ) (j : ℕ) → relation c j j ≡ 1
relation-here c j = rw (le-ltb j j (omega arith), eq-eqb j j refl) refl

relation-after : (c : ℕ → ℕ) (j t : ℕ) → j < t → relation c j t ≡ 0
relation-after c j t after = rw (le-ltb t j (omega (arith, after)), ne_eqb t j (λ same. absurd (omega (arith, same, after)))) refl

module _ (A : Matrix) (laws : FieldLaws A.field) (is_matrix : IsMatrix A) where
  -- the elements of a relation
  pub IsElement-relation : (j : ℕ) (free : IsFree A j) (t : ℕ) → IsElement A.field (relation free.coefficients j t)
  IsElement-relation j free t = ⊎_elim
      (λ (here : t ≡ j). rw (here, relation-here free.coefficients j) (IsElement-one A.field is_matrix.over_field))
      (⊎_elim
      (λ (before : t < j). rw (relation-before free.coefficients j t before) (free.elements t before))
      (λ (after : j < t). rw (relation-after free.coefficients j t after) (pow_pos A.field.degree)))
      (cases_order t j)

  -- A takes the relation of a free column to zero
  pub relation_killed : (j : ℕ) (free : IsFree A j) → j < A.cols → (i : ℕ) → i < A.rows
      → sum_below A.cols (λ t. mul A.field (at A i t) (relation free.coefficients j t)) ≡ 0
  relation_killed j free in_cols i below =
      let term : ℕ → ℕ = λ t. mul A.field (at A i t) (relation free.coefficients j t) in
      sum_below-short (j + 1) A.cols term (omega arith)
      (λ t from within. ap (mul A.field (at A i t)) (relation-after free.coefficients j t (omega (arith, from))) ∙ laws.annihilates (at A i t))
      ∙ sum_below-more j term
      ∙ ap₂ bit_xor
      (sum_below-same j term (λ t. mul A.field (free.coefficients t) (at A i t)) (λ t before.
      ap (mul A.field (at A i t)) (relation-before free.coefficients j t before) ∙ laws.comm (at A i t) (free.coefficients t))
      ∙ sym (free.combined i below))
      (ap (mul A.field (at A i j)) (relation-here free.coefficients j) ∙ mul-one_right A.field laws (at A i j) (is_matrix.elements i j below in_cols))
      ∙ xor_self (at A i j)

  -- a free column makes a square matrix singular
  pub singular_from_free : A.cols ≡ A.rows → (j : ℕ) → j < A.cols → IsFree A j → Singular A
  singular_from_free square j in_cols free =
      let v : Matrix = matrix_of A.field A.rows 1 (λ t k. relation free.coefficients j t) in
      let shape : HasShape A.field A.rows 1 v
      = HasShape-matrix_of A.field A.rows 1 (λ t k. relation free.coefficients j t) is_matrix.over_field
      (λ t k in_rows in_one. IsElement-relation j free t) in
      let own : HasShape A.field A.rows A.rows A = record { is_matrix = is_matrix; over = refl; rows = refl; cols = square } in
      let here : j < A.rows = omega arith in
      record {
        square = square;
        v = v;
        shape = shape;
        nonzero = λ same.
            let one : 1 ≡ 0
            = sym (relation-here free.coefficients j)
            ∙ sym (at-matrix_of A.field A.rows 1 (λ t k. relation free.coefficients j t) j 0 here (omega arith))
            ∙ ap (λ (C : Matrix). at C j 0) same
            ∙ at-zero_matrix A.field A.rows 1 j 0 here (omega arith) in
            absurd (omega (arith, one));
        killed = same_entries (HasShape-product own shape laws) (HasShape-zero_matrix A.field A.rows 1 is_matrix.over_field) (λ i k in_rows in_one.
            at-product own shape i k in_rows in_one
            ∙ sum_below-same A.rows (λ t. mul A.field (at A i t) (at v t k)) (λ t. mul A.field (at A i t) (relation free.coefficients j t))
            (λ t within. ap (mul A.field (at A i t)) (at-matrix_of A.field A.rows 1 (λ t k. relation free.coefficients j t) t k within in_one))
            ∙ ap (λ (n : ℕ). sum_below n (λ t. mul A.field (at A i t) (relation free.coefficients j t))) (sym square)
            ∙ relation_killed j free in_cols i in_rows
            ∙ sym (at-zero_matrix A.field A.rows 1 i k in_rows in_one));
      }

  -- where the equations have a solution each column of the right side is free beside the matrix
  pub free_from_solution : (X B : Matrix) → HasShape A.field A.rows B.cols B → HasShape A.field A.cols B.cols X → product A X ≡ B
      → (k : ℕ) → k < B.cols → IsFree (beside A B) (A.cols + k)
  free_from_solution X B b x solves k in_cols =
      let own = HasShape-own A is_matrix in
      free_from_dependent (HasShape-beside own b) (A.cols + k) (record {
        coefficients = λ t. if nat_lt t A.cols then at X t k else 0;
        elements = λ t before. ⊎_elim
            (λ (left : t < A.cols). rw (lt-ltb t A.cols left) (IsElement-shape x t k left in_cols))
            (λ (right : A.cols ≤ t). rw (le-ltb t A.cols right) (pow_pos A.field.degree))
            (cases_lt t A.cols);
        combined = λ i below.
            at-beside_right own b i k below in_cols
            ∙ ap (λ (C : Matrix). at C i k) (sym solves)
            ∙ at-product own x i k below in_cols
            ∙ sum_below-same A.cols (λ t. mul A.field (at A i t) (at X t k))
            (λ t. mul A.field (if nat_lt t A.cols then at X t k else 0) (at (beside A B) i t))
            (λ t left. laws.comm (at A i t) (at X t k)
            ∙ ap₂ (mul A.field) (rw (lt-ltb t A.cols left) refl) (sym (at-beside_left own b i t below left)))
            ∙ sym (sum_below-short A.cols (A.cols + k) (λ t. mul A.field (if nat_lt t A.cols then at X t k else 0) (at (beside A B) i t)) (omega arith)
            (λ t right before. ap (λ (x : ℕ). mul A.field x (at (beside A B) i t)) (rw (le-ltb t A.cols right) refl)
            ∙ mul-zero_left A.field laws (at (beside A B) i t)));
      })

  -- a column of the right side that isn't free beside the matrix leaves no solution
  pub no_solution_from_unfree : (B : Matrix) → HasShape A.field A.rows B.cols B → (k : ℕ) → k < B.cols
      → (IsFree (beside A B) (A.cols + k) → ⊥) → NoSolution A B
  no_solution_from_unfree B b k in_cols unfree X x solves = unfree (free_from_solution X B b x solves k in_cols)

  -- where no column is free, an inverse on the right is one on the left
  pub inverse_from_right : (X : Matrix) → A.cols ≡ A.rows → ((j : ℕ) → j < A.cols → IsFree A j → ⊥) → HasShape A.field A.rows A.rows X
      → product A X ≡ identity A.field A.rows → IsInverse X A
  inverse_from_right X square unfree x right =
      let own : HasShape A.field A.rows A.rows A = record { is_matrix = is_matrix; over = refl; rows = refl; cols = square } in
      let xa = HasShape-product x own laws in
      let one = HasShape-one A.field A.rows is_matrix.over_field in
      let again : product A (product X A) ≡ product A (identity A.field A.rows)
      = sym (product_assoc laws own x own) ∙ ap (λ (C : Matrix). product C A) right ∙ product-identity_left laws own
      ∙ sym (product-identity_right laws own) in
      record {
        square = square;
        shape = x;
        right = right;
        left = same_entries xa one (λ t k below within.
            same_image A laws is_matrix (λ s. at (product X A) s k) (λ s. at (identity A.field A.rows) s k)
            (λ s inside. IsElement-shape xa s k (omega (arith, inside, square)) within)
            (λ s inside. IsElement-shape one s k (omega (arith, inside, square)) within)
            (λ i row.
            ap (λ (n : ℕ). sum_below n (λ s. mul A.field (at A i s) (at (product X A) s k))) square
            ∙ sym (at-product own xa i k row within)
            ∙ ap (λ (C : Matrix). at C i k) again
            ∙ at-product own one i k row within
            ∙ ap (λ (n : ℕ). sum_below n (λ s. mul A.field (at A i s) (at (identity A.field A.rows) s k))) (sym square))
            (λ j inside free. absurd (unfree j inside free))
            t (omega (arith, below, square)));
      }
