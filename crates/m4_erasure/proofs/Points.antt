-- The matrix of the powers of differing points isn't singular.
use Rattle.std.proofs.Common.{◌≡◌, ℕ, ◌<◌, List, length, get_or, sym, ◌∙◌, ap, arith}
use Rattle.std.proofs.lemmas.List.Elements.{All-get_or}
use Rattle.m4_model.specs.Field.{mul}
use Rattle.m4_model.specs.Matrix.{Matrix, HasShape, at}
use Rattle.m4_model.specs.Forms.{Singular}
use Rattle.m4_model.proofs.FieldLemmas.{sum_below-same}
use Rattle.m4_model.proofs.ShapeLemmas.{HasShape-matrix_of, at-matrix_of, HasShape-zero_matrix, at-zero_matrix, IsElement-shape, same_entries, at-product}
use Rattle.m4_erasure.specs.Shards.{gf256, power, AreDiffering, powers_of}
use Rattle.m4_erasure.proofs.Gf256.{gf256_field}
use Rattle.m4_erasure.proofs.Roots.{IsElement-power, zero_from_sums}

module _ (points : List ℕ) (are : AreDiffering points) where
  pub point : (j : ℕ) → j < length points → get_or points j 0 < 256
  point j below = All-get_or (λ (x : ℕ). x < 256) points j 0 below are.each

  -- the shape of the matrix of powers
  pub HasShape-powers_of : HasShape gf256 (length points) (length points) (powers_of points)
  HasShape-powers_of =
      HasShape-matrix_of gf256 (length points) (length points) (λ j i. power (get_or points j 0) i) gf256_field
      (λ j i in_rows in_cols. IsElement-power (get_or points j 0) (point j in_rows) i)

  -- its entries
  pub at-powers_of : (j i : ℕ) → j < length points → i < length points → at (powers_of points) j i ≡ power (get_or points j 0) i
  at-powers_of j i in_rows in_cols =
      at-matrix_of gf256 (length points) (length points) (λ j i. power (get_or points j 0) i) j i in_rows in_cols

  never : Singular (powers_of points) → ⊥
  never singular =
      let k : ℕ = length points in
      let v = singular.v in
      let shape : HasShape gf256 k 1 v = singular.shape in
      let one : 0 < 1 = omega arith in
      let zeros : (i : ℕ) → i < k → at v i 0 ≡ 0 =
      zero_from_sums k (λ i. at v i 0) (λ j. get_or points j 0) (λ i below. IsElement-shape shape i 0 below one) point are.differ
      (λ j below.
      sum_below-same k (λ i. mul gf256 (power (get_or points j 0) i) (at v i 0)) (λ i. mul gf256 (at (powers_of points) j i) (at v i 0))
      (λ i within. ap (λ (x : ℕ). mul gf256 x (at v i 0)) (sym (at-powers_of j i below within)))
      ∙ sym (at-product HasShape-powers_of shape j 0 below one)
      ∙ ap (λ (C : Matrix). at C j 0) singular.killed
      ∙ at-zero_matrix gf256 k 1 j 0 below one) in
      singular.nonzero (same_entries shape (HasShape-zero_matrix gf256 k 1 gf256_field) (λ i j in_rows in_cols.
      let first : j ≡ 0 = omega (arith, in_cols) in
      ap (at v i) first ∙ zeros i in_rows ∙ sym (at-zero_matrix gf256 k 1 i j in_rows in_cols)))

pub never_singular : (points : List ℕ) → AreDiffering points → Singular (powers_of points) → ⊥
never_singular points are = never points are
