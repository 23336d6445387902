-- Sums of matrices in any order, and the seven products of quarters.
use Rattle.std.proofs.Common.{◌≡◌, ℕ, zero, suc, ◌<◌, List, [], ◌∷◌, length, get_or, map, refl, sym, ◌∙◌, ap, ap₂, bit_xor}
use Rattle.std.specs.List.{range_with_len}
use Rattle.std.proofs.lemmas.List.{length-map}
use Rattle.m4_model.specs.Field.{Field, IsField}
use Rattle.m4_model.specs.Matrix.{Matrix, HasShape, at, zero_matrix, added, product}
use Rattle.m4_model.specs.Shapes.{above, beside}
use Rattle.m4_model.specs.Recursion.{Quartered, HaveShape, joined, winograd, s1, s2, s3, s4, t1, t2, t3, t4, u3, u4}
use Rattle.m4_model.proofs.FieldLaws.{FieldLaws}
use Rattle.m4_model.proofs.ShapeLemmas.{IsField-shape, same_entries, HasShape-zero_matrix, at-zero_matrix, at-added, HasShape-added, HasShape-product}
use Rattle.m4_model.proofs.RingLemmas.{product-added_left, product-added_right}
use Rattle.m4_model.proofs.BlockLemmas.{product-quarters}
use Rattle.m4_model.proofs.XorLemmas.{Sum, term, plus, value, times_of, same_sums}

-- a sum of matrices that are named by their places in a list
abbrev pub summed : Field → ℕ → ℕ → List Matrix → Sum → Matrix
summed F m n terms (term i) = get_or terms i (zero_matrix F m n)
summed F m n terms (plus a b) = added (summed F m n terms a) (summed F m n terms b)

-- each matrix of a list has the shape
abbrev pub AllOf : Field → ℕ → ℕ → List Matrix → Type 0
AllOf F m n [] = Unit
AllOf F m n (A ∷ terms) = HasShape F m n A × AllOf F m n terms

module _ {F : Field} (m n : ℕ) (field : IsField F) where
  HasShape-listed : (terms : List Matrix) → AllOf F m n terms → (k : ℕ) → HasShape F m n (get_or terms k (zero_matrix F m n))
  HasShape-listed [] shapes k = HasShape-zero_matrix F m n field
  HasShape-listed (A ∷ terms) shapes zero = shapes.0
  HasShape-listed (A ∷ terms) shapes (suc k) = HasShape-listed terms shapes.1 k

  at-listed : (terms : List Matrix) (i j : ℕ) → i < m → j < n → (k : ℕ)
      → at (get_or terms k (zero_matrix F m n)) i j ≡ get_or (map (λ A. at A i j) terms) k 0
  at-listed [] i j in_rows in_cols k = at-zero_matrix F m n i j in_rows in_cols
  at-listed (A ∷ terms) i j in_rows in_cols zero = refl
  at-listed (A ∷ terms) i j in_rows in_cols (suc k) = at-listed terms i j in_rows in_cols k

  pub HasShape-summed : (terms : List Matrix) → AllOf F m n terms → (a : Sum) → HasShape F m n (summed F m n terms a)
  HasShape-summed terms shapes (term k) = HasShape-listed terms shapes k
  HasShape-summed terms shapes (plus a b) = HasShape-added (HasShape-summed terms shapes a) (HasShape-summed terms shapes b)

  at-summed : (terms : List Matrix) → AllOf F m n terms → (a : Sum) (i j : ℕ) → i < m → j < n
      → at (summed F m n terms a) i j ≡ value (map (λ A. at A i j) terms) a
  at-summed terms shapes (term k) i j in_rows in_cols = at-listed terms i j in_rows in_cols k
  at-summed terms shapes (plus a b) i j in_rows in_cols =
      at-added (HasShape-summed terms shapes a) (HasShape-summed terms shapes b) i j in_rows in_cols
      ∙ ap₂ bit_xor (at-summed terms shapes a i j in_rows in_cols) (at-summed terms shapes b i j in_rows in_cols)

  -- sums in which each term stands as often, but for pairs, are equal
  pub same_summed : (terms : List Matrix) → AllOf F m n terms → (a b : Sum)
      → map (times_of a) (range_with_len 0 (length terms)) ≡ map (times_of b) (range_with_len 0 (length terms))
      → summed F m n terms a ≡ summed F m n terms b
  same_summed terms shapes a b same = same_entries (HasShape-summed terms shapes a) (HasShape-summed terms shapes b) (λ i j in_rows in_cols.
      at-summed terms shapes a i j in_rows in_cols
      ∙ same_sums (map (λ A. at A i j) terms) a b (rw length-map same)
      ∙ sym (at-summed terms shapes b i j in_rows in_cols))

module _ {F : Field} {m l n : ℕ} {A B : Quartered} (laws : FieldLaws F) (a : HaveShape F m l A) (b : HaveShape F l n B) where
  -- the shapes of the sums
  pub shape_s1 : HasShape F m l (s1 A)
  shape_s1 = HasShape-added a.bottom_left a.bottom_right

  pub shape_s2 : HasShape F m l (s2 A)
  shape_s2 = HasShape-added shape_s1 a.top_left

  pub shape_s3 : HasShape F m l (s3 A)
  shape_s3 = HasShape-added a.top_left a.bottom_left

  pub shape_s4 : HasShape F m l (s4 A)
  shape_s4 = HasShape-added a.top_right shape_s2

  pub shape_t1 : HasShape F l n (t1 B)
  shape_t1 = HasShape-added b.top_right b.top_left

  pub shape_t2 : HasShape F l n (t2 B)
  shape_t2 = HasShape-added b.bottom_right shape_t1

  pub shape_t3 : HasShape F l n (t3 B)
  shape_t3 = HasShape-added b.bottom_right b.top_right

  pub shape_t4 : HasShape F l n (t4 B)
  shape_t4 = HasShape-added shape_t2 b.bottom_left

  -- the products of sums
  first_t1 : product A.top_left (t1 B) ≡ added (product A.top_left B.top_right) (product A.top_left B.top_left)
  first_t1 = product-added_right laws a.top_left b.top_right b.top_left

  sixth : product (s2 A) (t2 B)
      ≡ added (product (s2 A) B.bottom_right) (added (product (s1 A) (t1 B)) (added (product A.top_left B.top_right) (product A.top_left B.top_left)))
  sixth =
      product-added_right laws shape_s2 b.bottom_right shape_t1
      ∙ ap (added (product (s2 A) B.bottom_right)) (product-added_left laws shape_s1 a.top_left shape_t1 ∙ ap (added (product (s1 A) (t1 B))) first_t1)

  third : product (s4 A) B.bottom_right ≡ added (product A.top_right B.bottom_right) (product (s2 A) B.bottom_right)
  third = product-added_left laws a.top_right shape_s2 b.bottom_right

  seventh : product (s3 A) (t3 B)
      ≡ added (added (product A.top_left B.bottom_right) (product A.bottom_left B.bottom_right))
      (added (product A.top_left B.top_right) (product A.bottom_left B.top_right))
  seventh =
      product-added_right laws shape_s3 b.bottom_right b.top_right
      ∙ ap₂ added (product-added_left laws a.top_left a.bottom_left b.bottom_right) (product-added_left laws a.top_left a.bottom_left b.top_right)

  second_s2 : product (s2 A) B.bottom_right
      ≡ added (added (product A.bottom_left B.bottom_right) (product A.bottom_right B.bottom_right)) (product A.top_left B.bottom_right)
  second_s2 =
      product-added_left laws shape_s1 a.top_left b.bottom_right
      ∙ ap (λ (X : Matrix). added X (product A.top_left B.bottom_right)) (product-added_left laws a.bottom_left a.bottom_right b.bottom_right)

  fourth : product A.bottom_right (t4 B)
      ≡ added (added (product A.bottom_right B.bottom_right) (product A.bottom_right (t1 B))) (product A.bottom_right B.bottom_left)
  fourth =
      product-added_right laws a.bottom_right shape_t2 b.bottom_left
      ∙ ap (λ (X : Matrix). added X (product A.bottom_right B.bottom_left)) (product-added_right laws a.bottom_right b.bottom_right shape_t1)

  fifth : product (s1 A) (t1 B)
      ≡ added (added (product A.bottom_left B.top_right) (product A.bottom_left B.top_left)) (product A.bottom_right (t1 B))
  fifth =
      product-added_left laws a.bottom_left a.bottom_right shape_t1
      ∙ ap (λ (X : Matrix). added X (product A.bottom_right (t1 B))) (product-added_right laws a.bottom_left b.top_right b.top_left)

  -- the quarter at the top right
  pub winograd_12 : added (u4 A B) (product (s4 A) B.bottom_right) ≡ added (product A.top_left B.top_right) (product A.top_right B.bottom_right)
  winograd_12 =
      let first = product A.top_left B.top_left in
      let terms = first ∷ product (s2 A) B.bottom_right ∷ product (s1 A) (t1 B) ∷ product A.top_left B.top_right ∷ product A.top_right B.bottom_right ∷ [] in
      let shapes : AllOf F m n terms
      = (HasShape-product a.top_left b.top_left laws, (HasShape-product shape_s2 b.bottom_right laws, (HasShape-product shape_s1 shape_t1 laws, (HasShape-product a.top_left b.top_right laws, (HasShape-product a.top_right b.bottom_right laws, tt))))) in
      ap₂ added (ap (λ (X : Matrix). added (added first X) (product (s1 A) (t1 B))) sixth) third
      ∙ same_summed m n (IsField-shape a.top_left) terms shapes
      (plus (plus (plus (term 0) (plus (term 1) (plus (term 2) (plus (term 3) (term 0))))) (term 2)) (plus (term 4) (term 1)))
      (plus (term 3) (term 4)) refl

  -- the sum of three products, without the fifth
  third_sum : u3 A B ≡ added (product A.bottom_right B.bottom_right) (added (product (s1 A) (t1 B)) (product A.bottom_left B.top_right))
  third_sum =
      let first = product A.top_left B.top_left in
      let terms = first ∷ product (s1 A) (t1 B) ∷ product A.top_left B.top_right ∷ product A.top_left B.bottom_right
      ∷ product A.bottom_left B.bottom_right ∷ product A.bottom_right B.bottom_right ∷ product A.bottom_left B.top_right ∷ [] in
      let shapes : AllOf F m n terms
      = (HasShape-product a.top_left b.top_left laws, (HasShape-product shape_s1 shape_t1 laws, (HasShape-product a.top_left b.top_right laws, (HasShape-product a.top_left b.bottom_right laws, (HasShape-product a.bottom_left b.bottom_right laws, (HasShape-product a.bottom_right b.bottom_right laws, (HasShape-product a.bottom_left b.top_right laws, tt))))))) in
      ap₂ added
      (ap (added first) (sixth
      ∙ ap (λ (X : Matrix). added X (added (product (s1 A) (t1 B)) (added (product A.top_left B.top_right) first))) second_s2))
      seventh
      ∙ same_summed m n (IsField-shape a.top_left) terms shapes
      (plus (plus (term 0) (plus (plus (plus (term 4) (term 5)) (term 3)) (plus (term 1) (plus (term 2) (term 0)))))
      (plus (plus (term 3) (term 4)) (plus (term 2) (term 6))))
      (plus (term 5) (plus (term 1) (term 6))) refl

  -- the quarter at the bottom right
  pub winograd_22 : added (u3 A B) (product (s1 A) (t1 B)) ≡ added (product A.bottom_left B.top_right) (product A.bottom_right B.bottom_right)
  winograd_22 =
      let terms = product (s1 A) (t1 B) ∷ product A.bottom_right B.bottom_right ∷ product A.bottom_left B.top_right ∷ [] in
      let shapes : AllOf F m n terms
      = (HasShape-product shape_s1 shape_t1 laws, (HasShape-product a.bottom_right b.bottom_right laws, (HasShape-product a.bottom_left b.top_right laws, tt))) in
      ap (λ (X : Matrix). added X (product (s1 A) (t1 B))) third_sum
      ∙ same_summed m n (IsField-shape a.top_left) terms shapes
      (plus (plus (term 1) (plus (term 0) (term 2))) (term 0)) (plus (term 2) (term 1)) refl

  -- the quarter at the bottom left
  pub winograd_21 : added (u3 A B) (product A.bottom_right (t4 B)) ≡ added (product A.bottom_left B.top_left) (product A.bottom_right B.bottom_left)
  winograd_21 =
      let terms = product A.bottom_right B.bottom_right ∷ product A.bottom_left B.top_right ∷ product A.bottom_left B.top_left
      ∷ product A.bottom_right (t1 B) ∷ product A.bottom_right B.bottom_left ∷ [] in
      let shapes : AllOf F m n terms
      = (HasShape-product a.bottom_right b.bottom_right laws, (HasShape-product a.bottom_left b.top_right laws, (HasShape-product a.bottom_left b.top_left laws, (HasShape-product a.bottom_right shape_t1 laws, (HasShape-product a.bottom_right b.bottom_left laws, tt))))) in
      ap₂ added (third_sum
      ∙ ap (λ (X : Matrix). added (product A.bottom_right B.bottom_right) (added X (product A.bottom_left B.top_right))) fifth) fourth
      ∙ same_summed m n (IsField-shape a.top_left) terms shapes
      (plus (plus (term 0) (plus (plus (plus (term 1) (term 2)) (term 3)) (term 1))) (plus (plus (term 0) (term 3)) (term 4)))
      (plus (term 2) (term 4)) refl

  -- the whole product
  pub product_winograd : product (joined A) (joined B) ≡ joined (winograd A B)
  product_winograd =
      product-quarters laws a.top_left a.top_right a.bottom_left a.bottom_right b.top_left b.top_right b.bottom_left b.bottom_right
      ∙ ap₂ above
      (ap (beside (added (product A.top_left B.top_left) (product A.top_right B.bottom_left))) (sym winograd_12))
      (ap₂ beside (sym winograd_21) (sym winograd_22))
