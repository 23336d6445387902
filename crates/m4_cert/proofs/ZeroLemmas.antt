-- Zero matrices.
use Rattle.std.proofs.Common.{◌≡◌, ℕ, ◌<◌, ◌∙◌, sym, ap, refl}
use Rattle.m4_model.specs.Matrix.{Matrix, IsMatrix, HasShape, at, zero_matrix, product, added}
use Rattle.m4_model.proofs.FieldProofs.{field_laws}
use Rattle.m4_model.proofs.RingLemmas.{added_comm, added-zero_right}
use Rattle.m4_model.proofs.ShapeLemmas.{HasShape-own, HasShape-product, HasShape-zero_matrix, at-zero_matrix, same_entries}
use Rattle.m4_cert.specs.Certificates.{HasNonzero}

-- a product added to zeros is the product
pub added-zeros : (A B : Matrix) → IsMatrix A → IsMatrix B → B.field ≡ A.field → A.cols ≡ B.rows
    → added (zero_matrix A.field A.rows B.cols) (product A B) ≡ product A B
added-zeros A B a b field inner =
    let shape_of_b : HasShape A.field A.cols B.cols B = record { is_matrix = b; over = field; rows = sym inner; cols = refl } in
    let made = HasShape-product (HasShape-own A a) shape_of_b (field_laws A.field a.over_field) in
    added_comm (HasShape-zero_matrix A.field A.rows B.cols a.over_field) made ∙ added-zero_right made

-- a matrix of zeros
pub zeros_from : (A : Matrix) → IsMatrix A → ((i j : ℕ) → i < A.rows → j < A.cols → at A i j ≡ 0) → A ≡ zero_matrix A.field A.rows A.cols
zeros_from A is zeros = same_entries (HasShape-own A is) (HasShape-zero_matrix A.field A.rows A.cols is.over_field)
    (λ i j in_rows in_cols. zeros i j in_rows in_cols ∙ sym (at-zero_matrix A.field A.rows A.cols i j in_rows in_cols))

-- has no entry that isn't zero
pub no_nonzero : (A : Matrix) → A ≡ zero_matrix A.field A.rows A.cols → HasNonzero A → ⊥
no_nonzero A zero found =
    found.4 (ap (λ (M : Matrix). at M found.0 found.1) zero ∙ at-zero_matrix A.field A.rows A.cols found.0 found.1 found.2 found.3)
