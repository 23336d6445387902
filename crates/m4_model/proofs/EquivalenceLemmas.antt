-- Matrices with one row space: each is made from the other by a square factor on its left. Steps that keep it, and the
-- reduced form that it makes.
use Rattle.std.proofs.Common.{◌≡◌, ℕ, ◌<◌, ◌≤◌, ◌⊎◌, inl, inr, refl, sym, ◌∙◌, ap, ap₂, arith, List, slice_index, bit_xor}
use Rattle.std.specs.Int.Bits.{xor_lt, xor_zero_r}
use Rattle.std.proofs.lemmas.Bool.{cases_lt}
use Rattle.m4_model.specs.Field.{Field, IsField, IsElement, mul}
use Rattle.m4_model.specs.Matrix.{Matrix, IsMatrix, HasShape, at, matrix_of, identity, product}
use Rattle.m4_model.specs.Forms.{Reduced, IsReduced}
use Rattle.m4_model.specs.Factors.{IsOrder, IsUnitLower, IsPle}
use Rattle.m4_model.proofs.FieldLaws.{FieldLaws}
use Rattle.m4_model.proofs.SumLemmas.{xor_off, mul-zero_left}
use Rattle.m4_model.proofs.ProductLemmas.{times-same, times-unit_row, times-xor_left, times-multiple, unit_at}
use Rattle.m4_model.proofs.ShapeLemmas.{IsField-shape, IsElement-shape, HasShape-own, HasShape-matrix_of, at-matrix_of, is_product, HasShape-product}
use Rattle.m4_model.proofs.RingLemmas.{IsElement-unit_at, HasShape-one, product_assoc, product-identity_left}
use Rattle.m4_model.proofs.TriangleLemmas.{inverse_of_unit_lower}

-- each of two matrices of m rows is made from the other by an m x m factor on its left
pub record RowEquivalent (F : Field) (m : ℕ) (R A : Matrix) : Type 0 where
  pub to : Matrix
  pub to_shape : HasShape F m m to
  pub made : R ≡ product to A
  pub back : Matrix
  pub back_shape : HasShape F m m back
  pub unmade : A ≡ product back R

-- a reduced matrix with the row space of A is its reduced form
abbrev pub reduced_from_equivalent : (R A : Matrix) (q : List ℕ) → HasShape A.field A.rows A.cols R → Reduced R q
    → RowEquivalent A.field A.rows R A → IsReduced R A
reduced_from_equivalent R A q shape reduced same = record {
  shape = shape;
  pivots = q;
  reduced = reduced;
  to = same.to;
  to_shape = same.to_shape;
  made = same.made;
  back = same.back;
  back_shape = same.back_shape;
  unmade = same.unmade;
}

-- the other way round
pub RowEquivalent-sym : {F : Field} {m : ℕ} {R A : Matrix} → RowEquivalent F m R A → RowEquivalent F m A R
RowEquivalent-sym same = record {
  to = same.back;
  to_shape = same.back_shape;
  made = same.unmade;
  back = same.to;
  back_shape = same.to_shape;
  unmade = same.made;
}

-- the place of a number in an order
place_from : (m : ℕ) (p : List ℕ) → IsOrder m p → (j : ℕ) → (j < m) ⊎ (m ≤ j) → ℕ
place_from m p order j (inl below) = (order.onto j below).0
place_from m p order j (inr past) = 0

place_from-is : (m : ℕ) (p : List ℕ) (order : IsOrder m p) (j : ℕ) → j < m → (side : (j < m) ⊎ (m ≤ j))
    → (place_from m p order j side < m) × (slice_index p (place_from m p order j side) ≡ j)
unfolding place_from
place_from-is m p order j below (inl inside) = ((order.onto j inside).1, (order.onto j inside).2)
place_from-is m p order j below (inr past) = absurd (omega (arith, past, below))

place : (m : ℕ) (p : List ℕ) → IsOrder m p → ℕ → ℕ
place m p order j = place_from m p order j (cases_lt j m)

place_is : (m : ℕ) (p : List ℕ) (order : IsOrder m p) (j : ℕ) → j < m → (place m p order j < m) × (slice_index p (place m p order j) ≡ j)
unfolding place
place_is m p order j below = place_from-is m p order j below (cases_lt j m)

module _ {F : Field} {m n : ℕ} (laws : FieldLaws F) where
  -- a matrix has its own row space
  pub RowEquivalent-refl : {A : Matrix} → HasShape F m n A → RowEquivalent F m A A
  RowEquivalent-refl {A} a =
      let one = HasShape-one F m (IsField-shape a) in
      record {
        to = identity F m;
        to_shape = one;
        made = sym (product-identity_left laws a);
        back = identity F m;
        back_shape = one;
        unmade = sym (product-identity_left laws a);
      }

  -- one step after another
  pub RowEquivalent-trans : {A B C : Matrix} → HasShape F m n A → HasShape F m n C → RowEquivalent F m A B → RowEquivalent F m B C → RowEquivalent F m A C
  RowEquivalent-trans {A} {B} {C} a c first second = record {
    to = product first.to second.to;
    to_shape = HasShape-product first.to_shape second.to_shape laws;
    made = first.made ∙ ap (product first.to) second.made ∙ sym (product_assoc laws first.to_shape second.to_shape c);
    back = product second.back first.back;
    back_shape = HasShape-product second.back_shape first.back_shape laws;
    unmade = second.unmade ∙ ap (product second.back) first.unmade ∙ sym (product_assoc laws second.back_shape first.back_shape a);
  }

  -- a factor with an inverse
  pub equivalent_from_inverse : (L N A C : Matrix) → HasShape F m m L → HasShape F m m N → HasShape F m n A → product N L ≡ identity F m
      → C ≡ product L A → RowEquivalent F m C A
  equivalent_from_inverse L N A C l n a inverse made = record {
    to = L;
    to_shape = l;
    made = made;
    back = N;
    back_shape = n;
    unmade = sym (ap (product N) made ∙ sym (product_assoc laws n l a) ∙ ap (λ (I : Matrix). product I A) inverse ∙ product-identity_left laws a);
  }

  -- a factor with ones on its diagonal and zeros above it
  pub equivalent_from_unit_lower : (r : ℕ) (L A C : Matrix) → HasShape F m m L → IsUnitLower r L → HasShape F m n A → C ≡ product L A
      → RowEquivalent F m C A
  equivalent_from_unit_lower r L A C l form a made =
      let inverse = inverse_of_unit_lower r L laws l form in
      equivalent_from_inverse L inverse.0 A C l inverse.1 a inverse.3 made

  -- rows of the identity pick rows
  picked_made : (A C : Matrix) (p : ℕ → ℕ) → HasShape F m n A → HasShape F m n C → ((i : ℕ) → i < m → p i < m)
      → ((i j : ℕ) → i < m → j < n → at C i j ≡ at A (p i) j) → C ≡ product (matrix_of F m m (λ i t. unit_at (p i) t)) A
  picked_made A C p a c below picked =
      is_product (HasShape-matrix_of F m m (λ i t. unit_at (p i) t) (IsField-shape a) (λ i t in_rows in_cols. IsElement-unit_at F (IsField-shape a) (p i) t)) a c
      (λ i j in_rows in_cols.
      picked i j in_rows in_cols
      ∙ sym (times-unit_row F laws m (at (matrix_of F m m (λ i t. unit_at (p i) t))) (at A) i j (p i) (below i in_rows)
      (λ t within. at-matrix_of F m m (λ i t. unit_at (p i) t) i t in_rows within)
      (IsElement-shape a (p i) j (below i in_rows) in_cols)))

  -- rows in two orders that undo each other
  pub equivalent_from_picked : (A C : Matrix) (p s : ℕ → ℕ) → HasShape F m n A → HasShape F m n C → ((i : ℕ) → i < m → p i < m)
      → ((i : ℕ) → i < m → s i < m) → ((i : ℕ) → i < m → p (s i) ≡ i) → ((i j : ℕ) → i < m → j < n → at C i j ≡ at A (p i) j)
      → RowEquivalent F m C A
  equivalent_from_picked A C p s a c p_below s_below undone picked =
      let field : IsField F = IsField-shape a in
      record {
        to = matrix_of F m m (λ i t. unit_at (p i) t);
        to_shape = HasShape-matrix_of F m m (λ i t. unit_at (p i) t) field (λ i t in_rows in_cols. IsElement-unit_at F field (p i) t);
        made = picked_made A C p a c p_below picked;
        back = matrix_of F m m (λ i t. unit_at (s i) t);
        back_shape = HasShape-matrix_of F m m (λ i t. unit_at (s i) t) field (λ i t in_rows in_cols. IsElement-unit_at F field (s i) t);
        unmade = picked_made C A s c a s_below (λ i j in_rows in_cols.
            ap (λ (i : ℕ). at A i j) (sym (undone i in_rows)) ∙ sym (picked (s i) j (s_below i in_rows) in_cols));
      }

  -- rows in another order
  pub equivalent_from_order : (A C : Matrix) (p : List ℕ) → IsOrder m p → HasShape F m n A → HasShape F m n C
      → ((i j : ℕ) → i < m → j < n → at C i j ≡ at A (slice_index p i) j) → RowEquivalent F m C A
  equivalent_from_order A C p order a c picked =
      equivalent_from_picked A C (slice_index p) (place m p order) a c order.below
      (λ i below. (place_is m p order i below).0) (λ i below. (place_is m p order i below).1) picked

  -- row i of A times g i, for each i
  scaled_made : (A C : Matrix) (g : ℕ → ℕ) → HasShape F m n A → HasShape F m n C → ((i : ℕ) → i < m → IsElement F (g i))
      → ((i j : ℕ) → i < m → j < n → at C i j ≡ mul F (g i) (at A i j)) → C ≡ product (matrix_of F m m (λ i t. mul F (g i) (unit_at i t))) A
  scaled_made A C g a c elements scaled =
      let factor : ℕ → ℕ → ℕ = λ i t. mul F (g i) (unit_at i t) in
      let shape : HasShape F m m (matrix_of F m m factor)
      = HasShape-matrix_of F m m factor (IsField-shape a)
      (λ i t in_rows in_cols. laws.closed (g i) (unit_at i t) (elements i in_rows) (IsElement-unit_at F (IsField-shape a) i t)) in
      is_product shape a c (λ i j in_rows in_cols.
      scaled i j in_rows in_cols
      ∙ sym (times-same F m (at (matrix_of F m m factor)) (at A) factor (at A) i j i j
      (λ t within. at-matrix_of F m m factor i t in_rows within) (λ t within. refl)
      ∙ times-multiple F laws m (g i) unit_at (at A) i j
      ∙ ap (mul F (g i)) (times-unit_row F laws m unit_at (at A) i j i in_rows (λ t within. refl) (IsElement-shape a i j in_rows in_cols))))

  -- each row multiplied, by elements that have inverses
  pub equivalent_from_scaled : (A C : Matrix) (g h : ℕ → ℕ) → HasShape F m n A → HasShape F m n C → ((i : ℕ) → i < m → IsElement F (g i))
      → ((i : ℕ) → i < m → IsElement F (h i)) → ((i : ℕ) → i < m → mul F (h i) (g i) ≡ 1)
      → ((i j : ℕ) → i < m → j < n → at C i j ≡ mul F (g i) (at A i j)) → RowEquivalent F m C A
  equivalent_from_scaled A C g h a c g_in h_in inverse scaled =
      let field : IsField F = IsField-shape a in
      record {
        to = matrix_of F m m (λ i t. mul F (g i) (unit_at i t));
        to_shape = HasShape-matrix_of F m m (λ i t. mul F (g i) (unit_at i t)) field
            (λ i t in_rows in_cols. laws.closed (g i) (unit_at i t) (g_in i in_rows) (IsElement-unit_at F field i t));
        made = scaled_made A C g a c g_in scaled;
        back = matrix_of F m m (λ i t. mul F (h i) (unit_at i t));
        back_shape = HasShape-matrix_of F m m (λ i t. mul F (h i) (unit_at i t)) field
            (λ i t in_rows in_cols. laws.closed (h i) (unit_at i t) (h_in i in_rows) (IsElement-unit_at F field i t));
        unmade = scaled_made C A h c a h_in (λ i j in_rows in_cols.
            sym (laws.unit (at A i j) (IsElement-shape a i j in_rows in_cols))
            ∙ ap (λ (x : ℕ). mul F x (at A i j)) (sym (inverse i in_rows))
            ∙ laws.assoc (h i) (g i) (at A i j)
            ∙ ap (mul F (h i)) (sym (scaled i j in_rows in_cols)));
      }

  -- to each row i of A x i times row s added
  cleared_made : (A C : Matrix) (x : ℕ → ℕ) (s : ℕ) → HasShape F m n A → HasShape F m n C → s < m → ((i : ℕ) → i < m → IsElement F (x i))
      → ((i j : ℕ) → i < m → j < n → at C i j ≡ bit_xor (at A i j) (mul F (x i) (at A s j)))
      → C ≡ product (matrix_of F m m (λ i t. bit_xor (unit_at i t) (mul F (x i) (unit_at s t)))) A
  cleared_made A C x s a c within elements cleared =
      let factor : ℕ → ℕ → ℕ = λ i t. bit_xor (unit_at i t) (mul F (x i) (unit_at s t)) in
      let field : IsField F = IsField-shape a in
      let shape : HasShape F m m (matrix_of F m m factor)
      = HasShape-matrix_of F m m factor field (λ i t in_rows in_cols. xor_lt F.degree (unit_at i t) (mul F (x i) (unit_at s t))
      (IsElement-unit_at F field i t) (laws.closed (x i) (unit_at s t) (elements i in_rows) (IsElement-unit_at F field s t))) in
      is_product shape a c (λ i j in_rows in_cols.
      cleared i j in_rows in_cols
      ∙ sym (times-same F m (at (matrix_of F m m factor)) (at A) factor (at A) i j i j
      (λ t inside. at-matrix_of F m m factor i t in_rows inside) (λ t inside. refl)
      ∙ times-xor_left F laws m unit_at (λ k t. mul F (x k) (unit_at s t)) (at A) i j
      ∙ ap₂ bit_xor
      (times-unit_row F laws m unit_at (at A) i j i in_rows (λ t inside. refl) (IsElement-shape a i j in_rows in_cols))
      (times-multiple F laws m (x i) (λ k t. unit_at s t) (at A) i j
      ∙ ap (mul F (x i)) (times-unit_row F laws m (λ k t. unit_at s t) (at A) i j s within (λ t inside. refl) (IsElement-shape a s j within in_cols)))))

  -- multiples of one row added to the others
  pub equivalent_from_cleared : (A C : Matrix) (x : ℕ → ℕ) (s : ℕ) → HasShape F m n A → HasShape F m n C → s < m → x s ≡ 0
      → ((i : ℕ) → i < m → IsElement F (x i))
      → ((i j : ℕ) → i < m → j < n → at C i j ≡ bit_xor (at A i j) (mul F (x i) (at A s j))) → RowEquivalent F m C A
  equivalent_from_cleared A C x s a c within own elements cleared =
      let field : IsField F = IsField-shape a in
      let factor : ℕ → ℕ → ℕ = λ i t. bit_xor (unit_at i t) (mul F (x i) (unit_at s t)) in
      let shape : HasShape F m m (matrix_of F m m factor)
      = HasShape-matrix_of F m m factor field (λ i t in_rows in_cols. xor_lt F.degree (unit_at i t) (mul F (x i) (unit_at s t))
      (IsElement-unit_at F field i t) (laws.closed (x i) (unit_at s t) (elements i in_rows) (IsElement-unit_at F field s t))) in
      let kept : (j : ℕ) → j < n → at C s j ≡ at A s j
      = λ j in_cols. cleared s j within in_cols ∙ ap (λ (y : ℕ). bit_xor (at A s j) (mul F y (at A s j))) own
      ∙ ap (bit_xor (at A s j)) (mul-zero_left F laws (at A s j)) ∙ xor_zero_r (at A s j) in
      record {
        to = matrix_of F m m factor;
        to_shape = shape;
        made = cleared_made A C x s a c within elements cleared;
        back = matrix_of F m m factor;
        back_shape = shape;
        unmade = cleared_made C A x s c a within elements (λ i j in_rows in_cols.
            sym (xor_off (at A i j) (mul F (x i) (at A s j)))
            ∙ ap₂ bit_xor (sym (cleared i j in_rows in_cols)) (ap (mul F (x i)) (sym (kept j in_cols))));
      }

-- a matrix has the row space of the echelon form of its PLE
pub equivalent_of_ple : (A : Matrix) (p q : List ℕ) (r : ℕ) (L E : Matrix) → FieldLaws A.field → IsMatrix A → IsPle A p q r L E
    → RowEquivalent A.field A.rows E A
equivalent_of_ple A p q r L E laws is_matrix ple =
    let own = HasShape-own A is_matrix in
    let le = HasShape-product ple.l_shape ple.e_shape laws in
    RowEquivalent-trans laws ple.e_shape own
    (RowEquivalent-sym (equivalent_from_unit_lower laws r L E (product L E) ple.l_shape ple.l_form ple.e_shape refl))
    (equivalent_from_order laws A (product L E) p ple.order own le (λ i j in_rows in_cols. sym (ple.rows i j in_rows in_cols)))
