-- What the solves by halves leave in a window.
use Rattle.std.proofs.Common.{◌≡◌, ℕ, List, ◌+◌, ◌-◌, ◌≤◌, refl, sym, ◌∙◌, ap, ap₂, subst, arith}
use Rattle.m4_model.specs.Field.{Field, IsField}
use Rattle.m4_model.specs.Matrix.{Matrix, IsMatrix, HasShape, added, product}
use Rattle.m4_model.specs.Shapes.{above, beside, cut}
use Rattle.m4_mzed.specs.EWindow.{EWindow, content, showing}
use Rattle.m4_trsm.specs.Triangles.{unit_lower, unit_upper}
use Rattle.m4_trsm.proofs.Halves.{lower_left, upper_left, lower_right, upper_right}
use Rattle.m4_trsm.proofs.Windows.{upper, lower, stacked, stays_more, shown_above, top_shape, bottom_shape, parted_above, before, behind, paired, shown_beside, left_shape, right_shape, parted_beside}

-- A part of a window that was written: as it was cut off, and as it is joined again. Both are windows, and the second is the
-- first but for its entries.
pub record Written (was now : EWindow) : Type 0 where
  pub before : IsMatrix (content was)
  pub after : IsMatrix (content now)
  pub stays : now ≡ showing was (content now)

-- a part that was only solved, and one to which a product was added before
pub written_once : {was now : EWindow} → IsMatrix (content was) → IsMatrix (content now) → now ≡ showing was (content now) → Written was now
written_once old new stays = record { before = old; after = new; stays = stays }

pub written_twice : {was mid now : EWindow} {rows : List (List ℕ)} → IsMatrix (content was) → IsMatrix (content now) → mid ≡ record was { entries = rows }
    → now ≡ showing mid (content now) → Written was now
written_twice {was} {mid} {now} {rows} old new sum stays = record {
  before = old;
  after = new;
  stays = stays_more was mid now (content now) (stays_more was was mid (record (content was) { entries = rows }) refl sum) stays;
}

-- A square matrix, and its parts at k.
pub record Parts (K : Field) (T F L : Matrix) (n k : ℕ) : Type 0 where
  pub within : k ≤ n
  pub shape : HasShape K n n T
  pub first : F ≡ cut T 0 0 k k
  pub last : L ≡ cut T k k T.rows T.cols

module _ (K : Field) (is_field : IsField K) (T F L : Matrix) (n k : ℕ) (parts : Parts K T F L n k) where
  whole : k + (n - k) ≡ n
  whole = let fits = parts.within in omega (arith, fits)

  pub parts_shape : HasShape K (k + (n - k)) (k + (n - k)) T
  parts_shape = subst (λ m. HasShape K m m T) (sym whole) parts.shape

  last_is : L ≡ cut T k k (k + (n - k)) (k + (n - k))
  last_is = parts.last ∙ ap₂ (λ r c. cut T k k r c) (parts.shape.rows ∙ sym whole) (parts.shape.cols ∙ sym whole)

  rows_end : T.rows ≡ k + (n - k)
  rows_end = parts.shape.rows ∙ sym whole

  cols_end : T.cols ≡ k + (n - k)
  cols_end = parts.shape.cols ∙ sym whole

  -- the window by rows
  module _ (w t b x y s : EWindow) (over : w.field ≡ K) (rows : w.rows ≡ n) (top : t ≡ upper w k) (bottom : b ≡ lower w k) (one : Written t x) (two : Written b y) (joined : s ≡ stacked x y) where
    inside_rows : k ≤ w.rows
    inside_rows = let fits = parts.within in omega (arith, fits, rows)

    top_stays : x ≡ showing (upper w k) (content x)
    top_stays = one.stays ∙ ap (λ (u : EWindow). showing u (content x)) top

    bottom_stays : y ≡ showing (lower w k) (content y)
    bottom_stays = two.stays ∙ ap (λ (u : EWindow). showing u (content y)) bottom

    top_was : t ≡ showing (upper w k) (content t)
    top_was = ap (λ (u : EWindow). showing u (content t)) top

    bottom_was : b ≡ showing (lower w k) (content b)
    bottom_was = ap (λ (u : EWindow). showing u (content b)) bottom

    new_top : HasShape K k w.cols (content x)
    new_top = subst (λ (G : Field). HasShape G k w.cols (content x)) over (top_shape w x y k inside_rows one.after two.after top_stays bottom_stays)

    old_top : HasShape K k w.cols (content t)
    old_top = subst (λ (G : Field). HasShape G k w.cols (content t)) over (top_shape w t b k inside_rows one.before two.before top_was bottom_was)

    new_bottom : HasShape K (n - k) w.cols (content y)
    new_bottom = subst (λ (m : ℕ). HasShape K (m - k) w.cols (content y)) rows (subst (λ (G : Field). HasShape G (w.rows - k) w.cols (content y)) over (bottom_shape w x y k inside_rows one.after two.after top_stays bottom_stays))

    old_bottom : HasShape K (n - k) w.cols (content b)
    old_bottom = subst (λ (m : ℕ). HasShape K (m - k) w.cols (content b)) rows (subst (λ (G : Field). HasShape G (w.rows - k) w.cols (content b)) over (bottom_shape w t b k inside_rows one.before two.before top_was bottom_was))

    new_rows : content s ≡ above (content x) (content y)
    new_rows = ap content joined ∙ shown_above w x y k inside_rows one.after two.after top_stays bottom_stays

    old_rows : above (content t) (content b) ≡ content w
    old_rows =
        ap₂ (λ (u v : EWindow). above (content u) (content v)) top bottom
        ∙ parted_above w k inside_rows (subst (λ (v : EWindow). IsMatrix (content v)) top one.before) (subst (λ (v : EWindow). IsMatrix (content v)) bottom two.before)

    pub solved_lower_left : (m : EWindow) (C V : Matrix) → C ≡ cut T k 0 T.rows k → V ≡ content x
        → product (unit_lower F) (content x) ≡ content t → m ≡ showing b (added (content b) (product C V))
        → product (unit_lower L) (content y) ≡ content m → product (unit_lower T) (content s) ≡ content w
    solved_lower_left m C V corner seen first sum last =
        ap (product (unit_lower T)) new_rows
        ∙ lower_left K is_field T k (n - k) parts_shape w.cols (content x) (content y) (content t) (content b) new_top new_bottom old_top old_bottom
        (ap (λ (A : Matrix). product (unit_lower A) (content x)) (sym parts.first) ∙ first)
        (ap (λ (A : Matrix). product (unit_lower A) (content y)) (sym last_is) ∙ last ∙ ap content sum
        ∙ ap₂ (λ (A B : Matrix). added (content b) (product A B)) (corner ∙ ap (λ r. cut T k 0 r k) rows_end) seen)
        ∙ old_rows

    pub solved_upper_left : (m : EWindow) (C V : Matrix) → C ≡ cut T 0 k k T.cols → V ≡ content y
        → product (unit_upper L) (content y) ≡ content b → m ≡ showing t (added (content t) (product C V))
        → product (unit_upper F) (content x) ≡ content m → product (unit_upper T) (content s) ≡ content w
    solved_upper_left m C V corner seen last sum first =
        ap (product (unit_upper T)) new_rows
        ∙ upper_left K is_field T k (n - k) parts_shape w.cols (content x) (content y) (content t) (content b) new_top new_bottom old_top old_bottom
        (ap (λ (A : Matrix). product (unit_upper A) (content y)) (sym last_is) ∙ last)
        (ap (λ (A : Matrix). product (unit_upper A) (content x)) (sym parts.first) ∙ first ∙ ap content sum
        ∙ ap₂ (λ (A B : Matrix). added (content t) (product A B)) (corner ∙ ap (λ c. cut T 0 k k c) cols_end) seen)
        ∙ old_rows

  -- the window by columns
  module _ (w l r x y s : EWindow) (over : w.field ≡ K) (cols : w.cols ≡ n) (left : l ≡ before w k) (right : r ≡ behind w k) (one : Written l x) (two : Written r y) (joined : s ≡ paired x y) where
    inside_cols : k ≤ w.cols
    inside_cols = let fits = parts.within in omega (arith, fits, cols)

    left_stays : x ≡ showing (before w k) (content x)
    left_stays = one.stays ∙ ap (λ (u : EWindow). showing u (content x)) left

    right_stays : y ≡ showing (behind w k) (content y)
    right_stays = two.stays ∙ ap (λ (u : EWindow). showing u (content y)) right

    left_was : l ≡ showing (before w k) (content l)
    left_was = ap (λ (u : EWindow). showing u (content l)) left

    right_was : r ≡ showing (behind w k) (content r)
    right_was = ap (λ (u : EWindow). showing u (content r)) right

    new_left : HasShape K w.rows k (content x)
    new_left = subst (λ (G : Field). HasShape G w.rows k (content x)) over (left_shape w x y k one.after two.after left_stays right_stays)

    old_left : HasShape K w.rows k (content l)
    old_left = subst (λ (G : Field). HasShape G w.rows k (content l)) over (left_shape w l r k one.before two.before left_was right_was)

    new_right : HasShape K w.rows (n - k) (content y)
    new_right = subst (λ (m : ℕ). HasShape K w.rows (m - k) (content y)) cols (subst (λ (G : Field). HasShape G w.rows (w.cols - k) (content y)) over (right_shape w x y k one.after two.after left_stays right_stays))

    old_right : HasShape K w.rows (n - k) (content r)
    old_right = subst (λ (m : ℕ). HasShape K w.rows (m - k) (content r)) cols (subst (λ (G : Field). HasShape G w.rows (w.cols - k) (content r)) over (right_shape w l r k one.before two.before left_was right_was))

    new_cols : content s ≡ beside (content x) (content y)
    new_cols = ap content joined ∙ shown_beside w x y k one.after two.after left_stays right_stays

    old_cols : beside (content l) (content r) ≡ content w
    old_cols =
        ap₂ (λ (u v : EWindow). beside (content u) (content v)) left right
        ∙ parted_beside w k inside_cols (subst (λ (v : EWindow). IsMatrix (content v)) left one.before) (subst (λ (v : EWindow). IsMatrix (content v)) right two.before)

    pub solved_lower_right : (m : EWindow) (C V : Matrix) → C ≡ cut T k 0 T.rows k → V ≡ content y
        → product (content y) (unit_lower L) ≡ content r → m ≡ showing l (added (content l) (product V C))
        → product (content x) (unit_lower F) ≡ content m → product (content s) (unit_lower T) ≡ content w
    solved_lower_right m C V corner seen last sum first =
        ap (λ (A : Matrix). product A (unit_lower T)) new_cols
        ∙ lower_right K is_field T k (n - k) parts_shape w.rows (content x) (content y) (content l) (content r) new_left new_right old_left old_right
        (ap (λ (A : Matrix). product (content y) (unit_lower A)) (sym last_is) ∙ last)
        (ap (λ (A : Matrix). product (content x) (unit_lower A)) (sym parts.first) ∙ first ∙ ap content sum
        ∙ ap₂ (λ (A B : Matrix). added (content l) (product B A)) (corner ∙ ap (λ r. cut T k 0 r k) rows_end) seen)
        ∙ old_cols

    pub solved_upper_right : (m : EWindow) (C V : Matrix) → C ≡ cut T 0 k k T.cols → V ≡ content x
        → product (content x) (unit_upper F) ≡ content l → m ≡ showing r (added (content r) (product V C))
        → product (content y) (unit_upper L) ≡ content m → product (content s) (unit_upper T) ≡ content w
    solved_upper_right m C V corner seen first sum last =
        ap (λ (A : Matrix). product A (unit_upper T)) new_cols
        ∙ upper_right K is_field T k (n - k) parts_shape w.rows (content x) (content y) (content l) (content r) new_left new_right old_left old_right
        (ap (λ (A : Matrix). product (content x) (unit_upper A)) (sym parts.first) ∙ first)
        (ap (λ (A : Matrix). product (content y) (unit_upper A)) (sym last_is) ∙ last ∙ ap content sum
        ∙ ap₂ (λ (A B : Matrix). added (content r) (product B A)) (corner ∙ ap (λ c. cut T 0 k k c) cols_end) seen)
        ∙ old_cols
