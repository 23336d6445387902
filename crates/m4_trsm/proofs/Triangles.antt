-- Triangles with ones on their diagonals: their products, and their quarters.
use Rattle.std.proofs.Common.{◌≡◌, ℕ, ◌+◌, ◌<◌, ◌^◌, Bool, true, false, cond, eqb, ltb, inl, inr, List, length, get_or, refl, sym, ◌∙◌, ap, ap₂, subst, arith, bit_xor}
use Rattle.std.specs.Int.Bits.{xor_zero_r}
use Rattle.std.proofs.lemmas.Nat.{xor_comm}
use Rattle.std.proofs.lemmas.Bool.{cases_eq, cases_lt, cond-true, cond-false, eq-eqb, ne_eqb, lt-ltb, le-ltb}
use Rattle.m4_model.specs.Field.{gf2, Field, IsField, IsElement, sum_below, mul}
use Rattle.m4_model.proofs.FieldLaws.{FieldLaws}
use Rattle.m4_model.proofs.FieldProofs.{field_laws}
use Rattle.std.proofs.Math.Pow.{pow_mono, pow_pos}
use Rattle.m4_model.specs.Matrix.{Matrix, HasShape, row, at, matrix_of, added, product}
use Rattle.m4_model.specs.Shapes.{above, beside, cut}
use Rattle.m4_model.proofs.FieldLemmas.{sum_below-same}
use Rattle.m4_model.proofs.ProductLemmas.{times, times-same, times-xor_left, times-xor_right, times-unit_row, times-unit_col, unit_at, unit_at-same, unit_at-other}
use Rattle.m4_model.proofs.ShapeLemmas.{HasShape-matrix_of, at-matrix_of, IsElement-shape, same_entries, at-product, HasShape-product}
use Rattle.m4_model.proofs.CutLemmas.{at-cut, HasShape-cut}
use Rattle.m4_model.proofs.BlockLemmas.{HasShape-above, HasShape-beside, product-above, product-beside, product-blocks, added-beside, quarters, by_quarters, HasShape-quarters, at-quarters_11, at-quarters_12, at-quarters_21, at-quarters_22}
use Rattle.m4_trsm.specs.Triangles.{is_inside, inside, unit_triangle}
use Rattle.m4_trsm.specs.ByRows.{rises_on_left, rises_on_right, SolvesRow}
use Rattle.m4_trsm.specs.declared.side.Side.{Side}
use Rattle.m4_trsm.specs.declared.side.Side.TheVariants.{Lower, Upper}
use Rattle.m4_trsm.proofs.Taken.{restored-all, restored_left, restored_right, is_done, done_end}

-- the diagonal is not inside
inside-diagonal : (side : Side) (T : Matrix) (i : ℕ) → inside side T i i ≡ 0
inside-diagonal Lower T i = cond-false (ltb i i) _ _ (le-ltb i i (omega arith))
inside-diagonal Upper T i = cond-false (ltb i i) _ _ (le-ltb i i (omega arith))

-- an entry of the triangle: that of the identity and one inside
unit_entry : (side : Side) (T : Matrix) (i j : ℕ) → cond (eqb i j) 1 (inside side T i j) ≡ bit_xor (unit_at i j) (inside side T i j)
unit_entry side T i j =
    elim (cases_eq i j) [
      | inl same ↦
          cond-true (eqb i j) _ _ (eq-eqb i j same)
          ∙ sym (ap₂ bit_xor (unit_at-same i j same) (ap (λ k. inside side T i k) (sym same) ∙ inside-diagonal side T i) ∙ xor_zero_r 1)
      | inr other ↦
          cond-false (eqb i j) _ _ (ne_eqb i j other)
          ∙ sym (ap (λ x. bit_xor x (inside side T i j)) (unit_at-other i j other) ∙ xor_comm 0 (inside side T i j) ∙ xor_zero_r (inside side T i j))
    ]

-- one is an element
pub one_element : (K : Field) → IsField K → 1 < 2 ^ K.degree
one_element K (inl bits) = let P : Field → Type 0 = λ G. 1 < 2 ^ G.degree in subst P (sym bits) (omega arith)
one_element K (inr is) = let p = pow_mono {i = 2} {j = K.degree} is.degree_low in omega (arith, p)

module _ (K : Field) (is_field : IsField K) where
  bit_inside : (b : Bool) (x : ℕ) → x < 2 ^ K.degree → cond b x 0 < 2 ^ K.degree
  bit_inside true x small = small
  bit_inside false x small = pow_pos K.degree

  module _ (side : Side) (T : Matrix) (n : ℕ) (shape : HasShape K n n T) where
    -- the triangle of so many rows
    abbrev pub triangle : Matrix
    triangle = matrix_of K n n (λ i j. cond (eqb i j) 1 (inside side T i j))

    pub triangle_is : unit_triangle side T ≡ triangle
    triangle_is = λ k. matrix_of (shape.over k) (shape.rows k) (shape.cols k) (λ i j. cond (eqb i j) 1 (inside side T i j))

    small_inside : (i j : ℕ) → i < n → j < n → inside side T i j < 2 ^ K.degree
    small_inside i j below within = bit_inside (is_inside side i j) (at T i j) (IsElement-shape shape i j below within)

    pub HasShape-triangle : HasShape K n n triangle
    HasShape-triangle = HasShape-matrix_of K n n (λ i j. cond (eqb i j) 1 (inside side T i j)) is_field (λ i j below within.
        elim (cases_eq i j) [
          | inl same ↦ rw (eq-eqb i j same) (one_element K is_field)
          | inr other ↦ rw (ne_eqb i j other) (small_inside i j below within)
        ])

    pub at-triangle : (i j : ℕ) → i < n → j < n → at triangle i j ≡ bit_xor (unit_at i j) (inside side T i j)
    at-triangle i j below within =
        at-matrix_of K n n (λ i j. cond (eqb i j) 1 (inside side T i j)) i j below within ∙ unit_entry side T i j

    -- a row that is taken out of all
    pub solved_left : (m : ℕ) (X B : Matrix) → HasShape K n m X → HasShape K n m B
        → ((p q : ℕ) → p < n → q < m → restored_left K side T X n n p q ≡ at B p q) → product (unit_triangle side T) X ≡ B
    solved_left m X B x b left =
        ap (λ (U : Matrix). product U X) triangle_is
        ∙ same_entries (HasShape-product HasShape-triangle x (field_laws K is_field)) b (λ p q in_rows in_cols.
        at-product HasShape-triangle x p q in_rows in_cols
        ∙ times-same K n (at triangle) (at X) (λ i s. bit_xor (unit_at i s) (inside side T i s)) (at X) p q p q
        (λ s below. at-triangle p s in_rows below) (λ s below. refl)
        ∙ times-xor_left K (field_laws K is_field) n unit_at (inside side T) (at X) p q
        ∙ ap₂ bit_xor
        (times-unit_row K (field_laws K is_field) n unit_at (at X) p q p in_rows (λ s below. refl) (IsElement-shape x p q in_rows in_cols))
        (sum_below-same n (λ s. mul K (inside side T p s) (at X s q)) (λ s. mul K (at X s q) (inside side T p s))
        (λ s below. (field_laws K is_field).comm (inside side T p s) (at X s q)))
        ∙ sym (restored-all K is_field n (λ s p. inside side T p s) (is_done (rises_on_left side) n n) (λ s. at X s q) p (λ s below. done_end (rises_on_left side) n s below))
        ∙ left p q in_rows in_cols)

    -- an entry that is taken out of all
    pub solved_row : (bs xs : List ℕ) → length bs ≡ n → length xs ≡ n → ((s : ℕ) → s < n → get_or xs s 0 < 2 ^ K.degree)
        → ((p : ℕ) → p < n → restored_right K side T xs n n p ≡ get_or bs p 0) → SolvesRow side T bs xs
    solved_row bs xs long long2 bits left = record {
      long = long2 ∙ sym long;
      solves = λ k within.
          let below : k < n = omega (arith, long) in
          let all = shape.rows in
          ap (λ (G : Field). sum_below T.rows (λ s. mul G (get_or xs s 0) (at (unit_triangle side T) s k))) shape.over
          ∙ ap (λ (r : ℕ). sum_below r (λ s. mul K (get_or xs s 0) (at (unit_triangle side T) s k))) all
          ∙ ap (λ (U : Matrix). times K n (λ _ s. get_or xs s 0) (at U) 0 k) triangle_is
          ∙ times-same K n (λ _ s. get_or xs s 0) (at triangle) (λ _ s. get_or xs s 0) (λ s j. bit_xor (unit_at s j) (inside side T s j)) 0 k 0 k
          (λ s inside_row. refl) (λ s inside_row. at-triangle s k inside_row below)
          ∙ times-xor_right K (field_laws K is_field) n (λ _ s. get_or xs s 0) unit_at (inside side T) 0 k
          ∙ ap (λ x. bit_xor x (times K n (λ _ s. get_or xs s 0) (inside side T) 0 k))
          (times-unit_col K (field_laws K is_field) n (λ _ s. get_or xs s 0) unit_at 0 k k below (λ s inside_row. refl) (bits k below))
          ∙ sym (restored-all K is_field n (λ s p. inside side T s p) (is_done (rises_on_right side) n n) (λ s. get_or xs s 0) k (λ s inside_row. done_end (rises_on_right side) n s inside_row))
          ∙ left k below;
    }

    -- all rows that are solved
    pub solved_right : (m : ℕ) (X B : Matrix) → HasShape K m n X → HasShape K m n B
        → ((i : ℕ) → i < m → SolvesRow side T (row B i) (row X i)) → product X (unit_triangle side T) ≡ B
    solved_right m X B x b rows =
        ap (product X) triangle_is
        ∙ same_entries (HasShape-product x HasShape-triangle (field_laws K is_field)) b (λ i j in_rows in_cols.
        let high = b.rows in
        let all = shape.rows in
        at-product x HasShape-triangle i j in_rows in_cols
        ∙ ap (λ (U : Matrix). times K n (at X) (at U) i j) (sym triangle_is)
        ∙ ap (λ (r : ℕ). sum_below r (λ s. mul K (at X i s) (at (unit_triangle side T) s j))) (sym all)
        ∙ ap (λ (G : Field). sum_below T.rows (λ s. mul G (at X i s) (at (unit_triangle side T) s j))) (sym shape.over)
        ∙ (rows i in_rows).solves j (omega (arith, b.is_matrix.width i (omega arith), b.cols)))

  -- A triangle of k + l rows by quarters: two triangles, and what is inside right of the first and below it.
  module _ (side : Side) (T : Matrix) (k l : ℕ) (shape : HasShape K (k + l) (k + l) T) where
    abbrev pub right_corner : Matrix
    right_corner = matrix_of K k l (λ i j. inside side T i (k + j))

    abbrev pub lower_corner : Matrix
    lower_corner = matrix_of K l k (λ i j. inside side T (k + i) j)

    abbrev first_part : Matrix
    first_part = cut T 0 0 k k

    abbrev last_part : Matrix
    last_part = cut T k k (k + l) (k + l)

    first_shape : HasShape K k k first_part
    first_shape = HasShape-cut shape 0 0 k k k k (omega arith) (omega arith) (omega arith) (omega arith)

    last_shape : HasShape K l l last_part
    last_shape = HasShape-cut shape k k (k + l) (k + l) l l refl refl (omega arith) (omega arith)

    pub HasShape-right_corner : HasShape K k l right_corner
    HasShape-right_corner = HasShape-matrix_of K k l (λ i j. inside side T i (k + j)) is_field
        (λ i j below within. small_inside side T (k + l) shape i (k + j) (omega arith) (omega arith))

    pub HasShape-lower_corner : HasShape K l k lower_corner
    HasShape-lower_corner = HasShape-matrix_of K l k (λ i j. inside side T (k + i) j) is_field
        (λ i j below within. small_inside side T (k + l) shape (k + i) j (omega arith) (omega arith))

    -- what is inside a part is inside the whole
    inside_first : (i j : ℕ) → i < k → j < k → inside side first_part i j ≡ inside side T i j
    inside_first i j below within =
        let row_place : 0 + i ≡ i = omega arith in
        let col_place : 0 + j ≡ j = omega arith in
        ap (λ x. cond (is_inside side i j) x 0) (at-cut T 0 0 k k k k (omega arith) (omega arith) i j below within ∙ ap₂ (at T) row_place col_place)

    inside_last : (i j : ℕ) → i < l → j < l → inside side last_part i j ≡ inside side T (k + i) (k + j)
    inside_last i j below within =
        ap₂ (λ b x. cond b x 0) (moved side) (at-cut T k k (k + l) (k + l) l l refl refl i j below within)
      where
        further : (a b : ℕ) → ltb a b ≡ ltb (k + a) (k + b)
        further a b = elim (cases_lt a b) [
          | inl less ↦ lt-ltb a b less ∙ sym (lt-ltb (k + a) (k + b) (omega arith))
          | inr more ↦ le-ltb a b more ∙ sym (le-ltb (k + a) (k + b) (omega arith))
        ]

        moved : (s : Side) → is_inside s i j ≡ is_inside s (k + i) (k + j)
        moved Lower = further j i
        moved Upper = further i j

    -- the entries of a triangle, and of one of its parts
    triangle_entry : (i j : ℕ) → i < k + l → j < k + l → at (triangle side T (k + l) shape) i j ≡ cond (eqb i j) 1 (inside side T i j)
    triangle_entry i j below within = at-matrix_of K (k + l) (k + l) (λ i j. cond (eqb i j) 1 (inside side T i j)) i j below within

    abbrev first_triangle : Matrix
    first_triangle = triangle side first_part k first_shape

    abbrev last_triangle : Matrix
    last_triangle = triangle side last_part l last_shape

    pub by_parts : unit_triangle side T ≡ quarters (unit_triangle side first_part) right_corner lower_corner (unit_triangle side last_part)
    by_parts =
        let first = HasShape-triangle side first_part k first_shape in
        let last = HasShape-triangle side last_part l last_shape in
        let U = triangle side T (k + l) shape in
        let Q = quarters first_triangle right_corner lower_corner last_triangle in
        triangle_is side T (k + l) shape
        ∙ same_entries (HasShape-triangle side T (k + l) shape) (HasShape-quarters first HasShape-right_corner HasShape-lower_corner last)
        (by_quarters k l k l (λ i j. at U i j ≡ at Q i j)
        (λ i j below within.
        triangle_entry i j (omega arith) (omega arith) ∙ ap (λ x. cond (eqb i j) 1 x) (sym (inside_first i j below within))
        ∙ sym (at-quarters_11 first HasShape-right_corner HasShape-lower_corner last i j below within
        ∙ at-matrix_of K k k (λ i j. cond (eqb i j) 1 (inside side first_part i j)) i j below within))
        (λ i j below within.
        triangle_entry i (k + j) (omega arith) (omega arith) ∙ cond-false (eqb i (k + j)) _ _ (ne_eqb i (k + j) (λ same. absurd (omega (arith, same, below))))
        ∙ sym (at-quarters_12 first HasShape-right_corner HasShape-lower_corner last i j below within
        ∙ at-matrix_of K k l (λ i j. inside side T i (k + j)) i j below within))
        (λ i j below within.
        triangle_entry (k + i) j (omega arith) (omega arith) ∙ cond-false (eqb (k + i) j) _ _ (ne_eqb (k + i) j (λ same. absurd (omega (arith, same, within))))
        ∙ sym (at-quarters_21 first HasShape-right_corner HasShape-lower_corner last i j below within
        ∙ at-matrix_of K l k (λ i j. inside side T (k + i) j) i j below within))
        (λ i j below within.
        triangle_entry (k + i) (k + j) (omega arith) (omega arith)
        ∙ ap₂ (λ b x. cond b 1 x) (further i j) (sym (inside_last i j below within))
        ∙ sym (at-quarters_22 first HasShape-right_corner HasShape-lower_corner last i j below within
        ∙ at-matrix_of K l l (λ i j. cond (eqb i j) 1 (inside side last_part i j)) i j below within)))
        ∙ ap₂ (λ A D. quarters A right_corner lower_corner D) (sym (triangle_is side first_part k first_shape)) (sym (triangle_is side last_part l last_shape))
      where
        further : (i j : ℕ) → eqb (k + i) (k + j) ≡ eqb i j
        further i j = elim (cases_eq i j) [
          | inl same ↦ eq-eqb (k + i) (k + j) (omega arith) ∙ sym (eq-eqb i j same)
          | inr other ↦ ne_eqb (k + i) (k + j) (λ same. other (omega (arith, same))) ∙ sym (ne_eqb i j other)
        ]

    HasShape-first : HasShape K k k (unit_triangle side first_part)
    HasShape-first = subst (HasShape K k k) (sym (triangle_is side first_part k first_shape)) (HasShape-triangle side first_part k first_shape)

    HasShape-last : HasShape K l l (unit_triangle side last_part)
    HasShape-last = subst (HasShape K l l) (sym (triangle_is side last_part l last_shape)) (HasShape-triangle side last_part l last_shape)

    -- its products with two matrices, one over the other, and one beside the other
    pub parts_times : (m : ℕ) (X Y : Matrix) → HasShape K k m X → HasShape K l m Y
        → product (unit_triangle side T) (above X Y)
        ≡ above (added (product (unit_triangle side first_part) X) (product right_corner Y)) (added (product lower_corner X) (product (unit_triangle side last_part) Y))
    parts_times m X Y x y =
        ap (λ (U : Matrix). product U (above X Y)) by_parts
        ∙ product-above (field_laws K is_field) (HasShape-beside HasShape-first HasShape-right_corner) (HasShape-beside HasShape-lower_corner HasShape-last) (HasShape-above x y)
        ∙ ap₂ above (product-blocks (field_laws K is_field) HasShape-first HasShape-right_corner x y) (product-blocks (field_laws K is_field) HasShape-lower_corner HasShape-last x y)

    pub times_parts : (m : ℕ) (X Y : Matrix) → HasShape K m k X → HasShape K m l Y
        → product (beside X Y) (unit_triangle side T)
        ≡ beside (added (product X (unit_triangle side first_part)) (product Y lower_corner)) (added (product X right_corner) (product Y (unit_triangle side last_part)))
    times_parts m X Y x y =
        ap (product (beside X Y)) by_parts
        ∙ product-blocks (field_laws K is_field) x y (HasShape-beside HasShape-first HasShape-right_corner) (HasShape-beside HasShape-lower_corner HasShape-last)
        ∙ ap₂ added (product-beside (field_laws K is_field) x HasShape-first HasShape-right_corner) (product-beside (field_laws K is_field) y HasShape-lower_corner HasShape-last)
        ∙ added-beside (HasShape-product x HasShape-first (field_laws K is_field)) (HasShape-product x HasShape-right_corner (field_laws K is_field))
        (HasShape-product y HasShape-lower_corner (field_laws K is_field)) (HasShape-product y HasShape-last (field_laws K is_field))
