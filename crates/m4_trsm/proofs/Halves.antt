-- A solve by halves: the solution with one half, and with what the corner leaves of the other, is the solution.
use Rattle.std.proofs.Common.{◌≡◌, ℕ, ◌+◌, ltb, refl, sym, ◌∙◌, ap, ap₂, arith}
use Rattle.std.proofs.lemmas.Bool.{cond-true, cond-false, lt-ltb, le-ltb}
use Rattle.m4_model.specs.Field.{Field, IsField}
use Rattle.m4_model.proofs.FieldProofs.{field_laws}
use Rattle.m4_model.specs.Matrix.{Matrix, HasShape, at, zero_matrix, added, product}
use Rattle.m4_model.specs.Shapes.{above, beside, cut}
use Rattle.m4_model.proofs.ShapeLemmas.{at-matrix_of, same_entries, HasShape-product, HasShape-added, HasShape-zero_matrix, at-zero_matrix}
use Rattle.m4_model.proofs.CutLemmas.{at-cut, HasShape-cut}
use Rattle.m4_model.proofs.RingLemmas.{added_comm, added_back, added-zero_right, product-zero_left, product-zero_right}
use Rattle.m4_trsm.specs.Triangles.{inside, unit_lower, unit_upper}
use Rattle.m4_trsm.specs.declared.side.Side.TheVariants.{Lower, Upper}
use Rattle.m4_trsm.proofs.Triangles.{right_corner, lower_corner, HasShape-right_corner, HasShape-lower_corner, parts_times, times_parts}

module _ (K : Field) (is_field : IsField K) where
  module _ {m n : ℕ} {A P : Matrix} (a : HasShape K m n A) (p : HasShape K m n P) where
    -- what was added is taken away
    taken_first : added P (added A P) ≡ A
    taken_first = ap (added P) (added_comm a p) ∙ added_back p a

    taken_last : added (added A P) P ≡ A
    taken_last = added_comm (HasShape-added a p) p ∙ taken_first

  module _ {m n : ℕ} {A : Matrix} (a : HasShape K m n A) where
    -- nothing is added
    nothing_last : added A (zero_matrix K m n) ≡ A
    nothing_last = added-zero_right a

    nothing_first : added (zero_matrix K m n) A ≡ A
    nothing_first = added_comm (HasShape-zero_matrix K m n is_field) a ∙ added-zero_right a

  module _ (T : Matrix) (k l : ℕ) (shape : HasShape K (k + l) (k + l) T) where
    -- the corners of a lower triangle
    no_right : right_corner K is_field Lower T k l shape ≡ zero_matrix K k l
    no_right = same_entries (HasShape-right_corner K is_field Lower T k l shape) (HasShape-zero_matrix K k l is_field) (λ i j below within.
        at-matrix_of K k l (λ i j. inside Lower T i (k + j)) i j below within
        ∙ cond-false (ltb (k + j) i) _ _ (le-ltb (k + j) i (omega arith)) ∙ sym (at-zero_matrix K k l i j below within))

    lower_shape : HasShape K l k (cut T k 0 (k + l) k)
    lower_shape = HasShape-cut shape k 0 (k + l) k l k refl (omega arith) (omega arith) (omega arith)

    lower_is : lower_corner K is_field Lower T k l shape ≡ cut T k 0 (k + l) k
    lower_is = same_entries (HasShape-lower_corner K is_field Lower T k l shape) lower_shape (λ i j below within.
        let place : j ≡ 0 + j = omega arith in
        at-matrix_of K l k (λ i j. inside Lower T (k + i) j) i j below within
        ∙ cond-true (ltb j (k + i)) _ _ (lt-ltb j (k + i) (omega arith)) ∙ ap (at T (k + i)) place
        ∙ sym (at-cut T k 0 (k + l) k l k refl (omega arith) i j below within))

    -- the corners of an upper triangle
    no_lower : lower_corner K is_field Upper T k l shape ≡ zero_matrix K l k
    no_lower = same_entries (HasShape-lower_corner K is_field Upper T k l shape) (HasShape-zero_matrix K l k is_field) (λ i j below within.
        at-matrix_of K l k (λ i j. inside Upper T (k + i) j) i j below within
        ∙ cond-false (ltb (k + i) j) _ _ (le-ltb (k + i) j (omega arith)) ∙ sym (at-zero_matrix K l k i j below within))

    right_shape : HasShape K k l (cut T 0 k k (k + l))
    right_shape = HasShape-cut shape 0 k k (k + l) k l (omega arith) refl (omega arith) (omega arith)

    right_is : right_corner K is_field Upper T k l shape ≡ cut T 0 k k (k + l)
    right_is = same_entries (HasShape-right_corner K is_field Upper T k l shape) right_shape (λ i j below within.
        let place : i ≡ 0 + i = omega arith in
        at-matrix_of K k l (λ i j. inside Upper T i (k + j)) i j below within
        ∙ cond-true (ltb i (k + j)) _ _ (lt-ltb i (k + j) (omega arith)) ∙ ap (λ r. at T r (k + j)) place
        ∙ sym (at-cut T 0 k k (k + l) k l (omega arith) refl i j below within))

    module _ (m : ℕ) (X Y A B : Matrix) where
      pub lower_left : HasShape K k m X → HasShape K l m Y → HasShape K k m A → HasShape K l m B
          → product (unit_lower (cut T 0 0 k k)) X ≡ A
          → product (unit_lower (cut T k k (k + l) (k + l))) Y ≡ added B (product (cut T k 0 (k + l) k) X)
          → product (unit_lower T) (above X Y) ≡ above A B
      lower_left x y a b first last =
          parts_times K is_field Lower T k l shape m X Y x y
          ∙ ap₂ above
          (ap₂ added first (ap (λ (C : Matrix). product C Y) no_right ∙ product-zero_left (field_laws K is_field) y k) ∙ nothing_last a)
          (ap₂ added (ap (λ (C : Matrix). product C X) lower_is) last ∙ taken_first b (HasShape-product lower_shape x (field_laws K is_field)))

      pub upper_left : HasShape K k m X → HasShape K l m Y → HasShape K k m A → HasShape K l m B
          → product (unit_upper (cut T k k (k + l) (k + l))) Y ≡ B
          → product (unit_upper (cut T 0 0 k k)) X ≡ added A (product (cut T 0 k k (k + l)) Y)
          → product (unit_upper T) (above X Y) ≡ above A B
      upper_left x y a b last first =
          parts_times K is_field Upper T k l shape m X Y x y
          ∙ ap₂ above
          (ap₂ added first (ap (λ (C : Matrix). product C Y) right_is) ∙ taken_last a (HasShape-product right_shape y (field_laws K is_field)))
          (ap₂ added (ap (λ (C : Matrix). product C X) no_lower ∙ product-zero_left (field_laws K is_field) x l) last ∙ nothing_first b)

      pub lower_right : HasShape K m k X → HasShape K m l Y → HasShape K m k A → HasShape K m l B
          → product Y (unit_lower (cut T k k (k + l) (k + l))) ≡ B
          → product X (unit_lower (cut T 0 0 k k)) ≡ added A (product Y (cut T k 0 (k + l) k))
          → product (beside X Y) (unit_lower T) ≡ beside A B
      lower_right x y a b last first =
          times_parts K is_field Lower T k l shape m X Y x y
          ∙ ap₂ beside
          (ap₂ added first (ap (product Y) lower_is) ∙ taken_last a (HasShape-product y lower_shape (field_laws K is_field)))
          (ap₂ added (ap (product X) no_right ∙ product-zero_right (field_laws K is_field) x l) last ∙ nothing_first b)

      pub upper_right : HasShape K m k X → HasShape K m l Y → HasShape K m k A → HasShape K m l B
          → product X (unit_upper (cut T 0 0 k k)) ≡ A
          → product Y (unit_upper (cut T k k (k + l) (k + l))) ≡ added B (product X (cut T 0 k k (k + l)))
          → product (beside X Y) (unit_upper T) ≡ beside A B
      upper_right x y a b first last =
          times_parts K is_field Upper T k l shape m X Y x y
          ∙ ap₂ beside
          (ap₂ added first (ap (product Y) no_lower ∙ product-zero_right (field_laws K is_field) y k) ∙ nothing_last a)
          (ap₂ added (ap (product X) right_is) last ∙ taken_first b (HasShape-product x right_shape (field_laws K is_field)))
