-- Matrices as a ring: sums, products, the zero matrix, the identity and transposes.
use Rattle.std.proofs.Common.{◌≡◌, ◌≢◌, ℕ, inl, inr, ⊎_elim, refl, sym, ◌∙◌, ap, ap₂, arith, bit_xor}
use Rattle.std.specs.Int.Bits.{xor_assoc, xor_zero_l, xor_zero_r, xor_self}
use Rattle.std.proofs.lemmas.Nat.{xor_comm}
use Rattle.std.proofs.Math.Pow.{pow_pos, pow_mono}
use Rattle.std.proofs.lemmas.Bool.{cases_eq}
use Rattle.m4_model.specs.Field.{Field, IsField, IsElement}
use Rattle.m4_model.specs.Matrix.{Matrix, HasShape, at, zero_matrix, identity, added, product}
use Rattle.m4_model.specs.Shapes.{transposed}
use Rattle.m4_model.proofs.FieldLaws.{FieldLaws}
use Rattle.m4_model.proofs.Polynomials.{xor_twice}
use Rattle.m4_model.proofs.ProductLemmas.{times, times-same, times_assoc, times-xor_right, times-xor_left, times-zero_row, times-zero_col, times-unit_row, times-unit_col, times-transposed, unit_at, unit_at-same, unit_at-other}
use Rattle.m4_model.proofs.ShapeLemmas.{IsField-shape, IsElement-shape, same_entries, HasShape-zero_matrix, at-zero_matrix, HasShape-matrix_of, at-identity, at-added, HasShape-added, at-product, HasShape-product, at-transposed, HasShape-transposed}

-- 1 is an element of every field
pub IsElement-one : (F : Field) → IsField F → IsElement F 1
IsElement-one F (inl same) = rw same (omega arith)
IsElement-one F (inr extension) =
    let low = extension.degree_low in
    let four = pow_mono low in
    omega arith

-- the entries of the identity are elements
pub IsElement-unit_at : (F : Field) → IsField F → (i j : ℕ) → IsElement F (unit_at i j)
IsElement-unit_at F field i j = ⊎_elim
    (λ (same : i ≡ j). rw (unit_at-same i j same) (IsElement-one F field))
    (λ (other : i ≢ j). rw (unit_at-other i j other) (pow_pos F.degree))
    (cases_eq i j)

-- the identity's shape
pub HasShape-one : (F : Field) (n : ℕ) → IsField F → HasShape F n n (identity F n)
HasShape-one F n field = HasShape-matrix_of F n n unit_at field (λ i j in_rows in_cols. IsElement-unit_at F field i j)

module _ {F : Field} {m n : ℕ} {A B : Matrix} (a : HasShape F m n A) (b : HasShape F m n B) where
  -- sums are commutative
  pub added_comm : added A B ≡ added B A
  added_comm = same_entries (HasShape-added a b) (HasShape-added b a) (λ i j in_rows in_cols.
      at-added a b i j in_rows in_cols ∙ xor_comm (at A i j) (at B i j) ∙ sym (at-added b a i j in_rows in_cols))

  -- what is added twice is gone
  pub added_back : added A (added A B) ≡ B
  added_back = same_entries (HasShape-added a (HasShape-added a b)) b (λ i j in_rows in_cols.
      at-added a (HasShape-added a b) i j in_rows in_cols
      ∙ ap (bit_xor (at A i j)) (at-added a b i j in_rows in_cols)
      ∙ xor_twice (at A i j) (at B i j))

  -- matrices with the sum zero are equal
  pub same_from_added : added A B ≡ zero_matrix F m n → A ≡ B
  same_from_added none = same_entries a b (λ i j in_rows in_cols.
      let zero : bit_xor (at A i j) (at B i j) ≡ 0
      = sym (at-added a b i j in_rows in_cols) ∙ ap (λ (C : Matrix). at C i j) none ∙ at-zero_matrix F m n i j in_rows in_cols in
      sym (xor_zero_r (at A i j)) ∙ ap (bit_xor (at A i j)) (sym zero)
      ∙ sym (xor_assoc (at A i j) (at A i j) (at B i j)) ∙ ap (λ (x : ℕ). bit_xor x (at B i j)) (xor_self (at A i j)) ∙ xor_zero_l (at B i j))

  -- sums are associative
  pub added_assoc : {C : Matrix} → HasShape F m n C → added (added A B) C ≡ added A (added B C)
  added_assoc {C} c = same_entries (HasShape-added (HasShape-added a b) c) (HasShape-added a (HasShape-added b c)) (λ i j in_rows in_cols.
      at-added (HasShape-added a b) c i j in_rows in_cols
      ∙ ap (λ (x : ℕ). bit_xor x (at C i j)) (at-added a b i j in_rows in_cols)
      ∙ xor_assoc (at A i j) (at B i j) (at C i j)
      ∙ ap (bit_xor (at A i j)) (sym (at-added b c i j in_rows in_cols))
      ∙ sym (at-added a (HasShape-added b c) i j in_rows in_cols))

module _ {F : Field} {m n : ℕ} {A : Matrix} (a : HasShape F m n A) where
  -- a sum with zero
  pub added-zero_right : added A (zero_matrix F m n) ≡ A
  added-zero_right =
      let zero = HasShape-zero_matrix F m n (IsField-shape a) in
      same_entries (HasShape-added a zero) a (λ i j in_rows in_cols.
      at-added a zero i j in_rows in_cols ∙ ap (bit_xor (at A i j)) (at-zero_matrix F m n i j in_rows in_cols) ∙ xor_zero_r (at A i j))

  -- the sum of a matrix with itself
  pub added_self : added A A ≡ zero_matrix F m n
  added_self = same_entries (HasShape-added a a) (HasShape-zero_matrix F m n (IsField-shape a)) (λ i j in_rows in_cols.
      at-added a a i j in_rows in_cols ∙ xor_self (at A i j) ∙ sym (at-zero_matrix F m n i j in_rows in_cols))

  -- the transpose of the transpose
  pub transposed_twice : transposed (transposed A) ≡ A
  transposed_twice = same_entries (HasShape-transposed (HasShape-transposed a)) a (λ i j in_rows in_cols.
      at-transposed (HasShape-transposed a) i j in_rows in_cols ∙ at-transposed a j i in_cols in_rows)

module _ {F : Field} {m k l n : ℕ} {A B C : Matrix} (laws : FieldLaws F) (a : HasShape F m k A) (b : HasShape F k l B) (c : HasShape F l n C) where
  -- products are associative
  pub product_assoc : product (product A B) C ≡ product A (product B C)
  product_assoc =
      let ab = HasShape-product a b laws in
      let bc = HasShape-product b c laws in
      same_entries (HasShape-product ab c laws) (HasShape-product a bc laws) (λ i j in_rows in_cols.
      at-product ab c i j in_rows in_cols
      ∙ times-same F l (at (product A B)) (at C) (times F k (at A) (at B)) (at C) i j i j
      (λ t below. at-product a b i t in_rows below) (λ t below. refl)
      ∙ times_assoc F laws k l (at A) (at B) (at C) i j
      ∙ times-same F k (at A) (times F l (at B) (at C)) (at A) (at (product B C)) i j i j
      (λ t below. refl) (λ t below. sym (at-product b c t j below in_cols))
      ∙ sym (at-product a bc i j in_rows in_cols))

module _ {F : Field} {m l n : ℕ} {A B C : Matrix} (laws : FieldLaws F) where
  -- a product with a sum on the right
  pub product-added_right : HasShape F m l A → HasShape F l n B → HasShape F l n C → product A (added B C) ≡ added (product A B) (product A C)
  product-added_right a b c =
      let bc = HasShape-added b c in
      let ab = HasShape-product a b laws in
      let ac = HasShape-product a c laws in
      same_entries (HasShape-product a bc laws) (HasShape-added ab ac) (λ i j in_rows in_cols.
      at-product a bc i j in_rows in_cols
      ∙ times-same F l (at A) (at (added B C)) (at A) (λ t k. bit_xor (at B t k) (at C t k)) i j i j
      (λ t below. refl) (λ t below. at-added b c t j below in_cols)
      ∙ times-xor_right F laws l (at A) (at B) (at C) i j
      ∙ ap₂ bit_xor (sym (at-product a b i j in_rows in_cols)) (sym (at-product a c i j in_rows in_cols))
      ∙ sym (at-added ab ac i j in_rows in_cols))

  -- a product with a sum on the left
  pub product-added_left : HasShape F m l A → HasShape F m l B → HasShape F l n C → product (added A B) C ≡ added (product A C) (product B C)
  product-added_left a b c =
      let ab = HasShape-added a b in
      let ac = HasShape-product a c laws in
      let bc = HasShape-product b c laws in
      same_entries (HasShape-product ab c laws) (HasShape-added ac bc) (λ i j in_rows in_cols.
      at-product ab c i j in_rows in_cols
      ∙ times-same F l (at (added A B)) (at C) (λ k t. bit_xor (at A k t) (at B k t)) (at C) i j i j
      (λ t below. at-added a b i t in_rows below) (λ t below. refl)
      ∙ times-xor_left F laws l (at A) (at B) (at C) i j
      ∙ ap₂ bit_xor (sym (at-product a c i j in_rows in_cols)) (sym (at-product b c i j in_rows in_cols))
      ∙ sym (at-added ac bc i j in_rows in_cols))

module _ {F : Field} {m n : ℕ} {A : Matrix} (laws : FieldLaws F) (a : HasShape F m n A) where
  -- the identity on the left
  pub product-identity_left : product (identity F m) A ≡ A
  product-identity_left =
      let one = HasShape-one F m (IsField-shape a) in
      same_entries (HasShape-product one a laws) a (λ i j in_rows in_cols.
      at-product one a i j in_rows in_cols
      ∙ times-unit_row F laws m (at (identity F m)) (at A) i j i in_rows (λ t below. at-identity F m i t in_rows below) (IsElement-shape a i j in_rows in_cols))

  -- the identity on the right
  pub product-identity_right : product A (identity F n) ≡ A
  product-identity_right =
      let one = HasShape-one F n (IsField-shape a) in
      same_entries (HasShape-product a one laws) a (λ i j in_rows in_cols.
      at-product a one i j in_rows in_cols
      ∙ times-unit_col F laws n (at A) (at (identity F n)) i j j in_cols (λ t below. at-identity F n t j below in_cols) (IsElement-shape a i j in_rows in_cols))

  -- zero on the left
  pub product-zero_left : (k : ℕ) → product (zero_matrix F k m) A ≡ zero_matrix F k n
  product-zero_left k =
      let field = IsField-shape a in
      let zero = HasShape-zero_matrix F k m field in
      same_entries (HasShape-product zero a laws) (HasShape-zero_matrix F k n field) (λ i j in_rows in_cols.
      at-product zero a i j in_rows in_cols
      ∙ times-zero_row F laws m (at (zero_matrix F k m)) (at A) i j (λ t below. at-zero_matrix F k m i t in_rows below)
      ∙ sym (at-zero_matrix F k n i j in_rows in_cols))

  -- zero on the right
  pub product-zero_right : (k : ℕ) → product A (zero_matrix F n k) ≡ zero_matrix F m k
  product-zero_right k =
      let field = IsField-shape a in
      let zero = HasShape-zero_matrix F n k field in
      same_entries (HasShape-product a zero laws) (HasShape-zero_matrix F m k field) (λ i j in_rows in_cols.
      at-product a zero i j in_rows in_cols
      ∙ times-zero_col F laws n (at A) (at (zero_matrix F n k)) i j (λ t below. at-zero_matrix F n k t j below in_cols)
      ∙ sym (at-zero_matrix F m k i j in_rows in_cols))

-- the transpose of a product
pub transposed-product : {F : Field} {m l n : ℕ} {A B : Matrix} → FieldLaws F → HasShape F m l A → HasShape F l n B
    → transposed (product A B) ≡ product (transposed B) (transposed A)
transposed-product {F} {m} {l} {n} {A} {B} laws a b =
    let ab = HasShape-product a b laws in
    let turned_a = HasShape-transposed a in
    let turned_b = HasShape-transposed b in
    same_entries (HasShape-transposed ab) (HasShape-product turned_b turned_a laws) (λ i j in_rows in_cols.
    at-transposed ab i j in_rows in_cols
    ∙ at-product a b j i in_cols in_rows
    ∙ times-transposed F laws l (at A) (at B) j i
    ∙ times-same F l (λ k t. at B t k) (λ t k. at A k t) (at (transposed B)) (at (transposed A)) i j i j
    (λ t below. sym (at-transposed b i t in_rows below)) (λ t below. sym (at-transposed a t j below in_cols))
    ∙ sym (at-product turned_b turned_a i j in_rows in_cols))
