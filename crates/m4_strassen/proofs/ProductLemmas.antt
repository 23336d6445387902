-- The quarters of a window to which Winograd's sums of products were added one after another, and products over borders.
use Rattle.std.proofs.Common.{◌≡◌, ℕ, ◌+◌, ◌-◌, ◌≤◌, [], ◌∷◌, take, drop, map, refl, sym, ◌∙◌, ap, ap₂, subst, arith}
use Rattle.m4_model.specs.Field.{gf2}
use Rattle.m4_model.specs.Matrix.{Matrix, HasShape, added, product}
use Rattle.m4_model.specs.Recursion.{Quartered, HaveShape, winograd, s1, s2, s3, s4, t1, t2, t3, t4, u2, u3}
use Rattle.m4_model.proofs.Gf2Lemmas.{gf2_laws}
use Rattle.m4_model.proofs.ShapeLemmas.{IsField-shape, HasShape-added, HasShape-product}
use Rattle.m4_model.proofs.RingLemmas.{added_assoc, added_comm}
use Rattle.m4_model.proofs.BlockLemmas.{product-blocks}
use Rattle.m4_model.proofs.WinogradLemmas.{same_summed, shape_s1, shape_s2, shape_s3, shape_s4, shape_t1, shape_t2, shape_t3, shape_t4}
use Rattle.m4_model.proofs.XorLemmas.{term, plus}
use Rattle.m4_mzd.specs.Window.{Window, content, showing}
use Rattle.m4_mzd.proofs.BlockedLemmas.{beside_again, above_again}

module _ {m n : ℕ} {C X Y : Matrix} (c : HasShape gf2 m n C) (x : HasShape gf2 m n X) (y : HasShape gf2 m n Y) where
  -- two terms added one after the other
  pub two_added : added (added C X) Y ≡ added C (added X Y)
  two_added = added_assoc c x y

  -- and the other way round
  pub two_exchanged : added (added C X) Y ≡ added C (added Y X)
  two_exchanged = added_assoc c x y ∙ ap (added C) (added_comm x y)

  -- three terms, the first of which comes last
  pub three_added : {Z : Matrix} → HasShape gf2 m n Z → added (added (added C X) Y) Z ≡ added C (added (added Y Z) X)
  three_added {Z} z = same_summed m n (IsField-shape c) (C ∷ X ∷ Y ∷ Z ∷ []) (c, (x, (y, (z, tt))))
      (plus (plus (plus (term 0) (term 1)) (term 2)) (term 3)) (plus (term 0) (plus (plus (term 2) (term 3)) (term 1))) refl

module _ {m l n : ℕ} {A B : Quartered} (a : HaveShape gf2 m l A) (b : HaveShape gf2 l n B) where
  -- the shapes of the seven products
  pub shape_1 : HasShape gf2 m n (product A.top_left B.top_left)
  shape_1 = HasShape-product a.top_left b.top_left gf2_laws

  pub shape_2 : HasShape gf2 m n (product A.top_right B.bottom_left)
  shape_2 = HasShape-product a.top_right b.bottom_left gf2_laws

  pub shape_3 : HasShape gf2 m n (product (s4 A) B.bottom_right)
  shape_3 = HasShape-product (shape_s4 gf2_laws a b) b.bottom_right gf2_laws

  pub shape_4 : HasShape gf2 m n (product A.bottom_right (t4 B))
  shape_4 = HasShape-product a.bottom_right (shape_t4 gf2_laws a b) gf2_laws

  pub shape_5 : HasShape gf2 m n (product (s1 A) (t1 B))
  shape_5 = HasShape-product (shape_s1 gf2_laws a b) (shape_t1 gf2_laws a b) gf2_laws

  pub shape_6 : HasShape gf2 m n (product (s2 A) (t2 B))
  shape_6 = HasShape-product (shape_s2 gf2_laws a b) (shape_t2 gf2_laws a b) gf2_laws

  pub shape_7 : HasShape gf2 m n (product (s3 A) (t3 B))
  shape_7 = HasShape-product (shape_s3 gf2_laws a b) (shape_t3 gf2_laws a b) gf2_laws

  pub shape_u2 : HasShape gf2 m n (u2 A B)
  shape_u2 = HasShape-added shape_1 shape_6

  pub shape_u3 : HasShape gf2 m n (u3 A B)
  shape_u3 = HasShape-added shape_u2 shape_7

  pub shape_winograd : HaveShape gf2 m n (winograd A B)
  shape_winograd = record {
    top_left = HasShape-added shape_1 shape_2;
    top_right = HasShape-added (HasShape-added shape_u2 shape_5) shape_3;
    bottom_left = HasShape-added shape_u3 shape_4;
    bottom_right = HasShape-added shape_u3 shape_5;
  }

module _ {m l n : ℕ} {A B C : Quartered} (a : HaveShape gf2 m l A) (b : HaveShape gf2 l n B) (c : HaveShape gf2 m n C) where
  -- the quarters, as they are added
  pub top_left_added : added (added C.top_left (product A.top_left B.top_left)) (product A.top_right B.bottom_left) ≡ added C.top_left (winograd A B).top_left
  top_left_added = two_added c.top_left (shape_1 a b) (shape_2 a b)

  pub top_right_added : added (added (added C.top_right (product (s4 A) B.bottom_right)) (u2 A B)) (product (s1 A) (t1 B)) ≡ added C.top_right (winograd A B).top_right
  top_right_added = three_added c.top_right (shape_3 a b) (shape_u2 a b) (shape_5 a b)

  pub bottom_left_added : added (added C.bottom_left (product A.bottom_right (t4 B))) (u3 A B) ≡ added C.bottom_left (winograd A B).bottom_left
  bottom_left_added = two_exchanged c.bottom_left (shape_4 a b) (shape_u3 a b)

  pub bottom_right_added : added (added C.bottom_right (u3 A B)) (product (s1 A) (t1 B)) ≡ added C.bottom_right (winograd A B).bottom_right
  bottom_right_added = two_added c.bottom_right (shape_u3 a b) (shape_5 a b)

-- a product that is added in two parts of its inner columns
pub inner_added : (w x y : Window) (A B L R U D : Matrix) (k l : ℕ) → k ≤ l → HasShape gf2 w.rows w.cols (content w)
    → HasShape gf2 w.rows l A → HasShape gf2 l w.cols B → HasShape gf2 w.rows k L → HasShape gf2 w.rows (l - k) R → HasShape gf2 k w.cols U → HasShape gf2 (l - k) w.cols D
    → L.entries ≡ map (take k) A.entries → R.entries ≡ map (drop k) A.entries → U.entries ≡ take k B.entries → D.entries ≡ drop k B.entries
    → x ≡ showing w (added (content w) (product L U)) → y ≡ showing x (added (content x) (product R D))
    → y ≡ showing w (added (content w) (product A B))
inner_added w x y A B L R U D k l within is a b left right top bottom is_left is_right is_top is_bottom first second =
    let all : l ≡ k + (l - k) = omega (arith, within) in
    let first_shape = HasShape-product left top gf2_laws in
    let second_shape = HasShape-product right bottom gf2_laws in
    let whole : product A B ≡ added (product L U) (product R D)
    = ap₂ product (sym (beside_again (subst (λ l. HasShape gf2 w.rows l A) all a) left right is_left is_right))
    (sym (above_again (subst (λ l. HasShape gf2 l w.cols B) all b) top bottom is_top is_bottom))
    ∙ product-blocks gf2_laws left right top bottom in
    second
    ∙ ap (λ (z : Window). showing z (added (content z) (product R D))) first
    ∙ ap (showing w) (added_assoc is first_shape second_shape ∙ ap (added (content w)) (sym whole))
