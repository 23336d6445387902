-- Windows that are cut in two and joined again: what they show, and a product that is added part by part.
use Rattle.std.proofs.Common.{◌≡◌, ℕ, ◌+◌, ◌-◌, ◌/◌, ◌<◌, ◌≤◌, List, [], ◌∷◌, ◌++◌, length, get_or, take, drop, map, refl, sym, ◌∙◌, ap, ap₂, subst, arith, bit_xor, get_or-take, get_or-drop, take-append-drop}
use Rattle.std.specs.Simd.Lanes.{zip2}
use Rattle.std.proofs.lemmas.List.{get_or-map}
use Rattle.m4_model.specs.Field.{Field, gf2}
use Rattle.m4_model.specs.Matrix.{Matrix, HasShape, row, at, added, product}
use Rattle.m4_model.specs.Shapes.{above, beside}
use Rattle.m4_model.proofs.Gf2Lemmas.{gf2_laws}
use Rattle.m4_model.proofs.ShapeLemmas.{HasShape-product, HasShape-added, at-added}
use Rattle.m4_model.proofs.BlockLemmas.{same_rows, same_cols, HasShape-above, HasShape-beside, at-above_top, at-above_bottom, at-beside_left, at-beside_right, product-above, product-beside, added-beside}
use Rattle.m4_mzd.specs.Window.{Window, IsWindow, content, showing}
use Rattle.m4_mzd.proofs.PairLemmas.{upper, lower, stacked}
use Rattle.m4_mzd.proofs.ContentLemmas.{content_above, content_beside}
use Rattle.m4_mzd.proofs.WindowLemmas.{same_window}

-- a window before a column, and from it on, and two windows beside each other
abbrev pub before : Window → ℕ → Window
before w c = record w { cols = c; bits = map (take c) w.bits; past = map (λ _. []) w.past }

abbrev pub behind : Window → ℕ → Window
behind w c = record w { skip = w.skip + c / 64; cols = w.cols - c; bits = map (drop c) w.bits }

abbrev pub paired : Window → Window → Window
paired a b = record a { cols = a.cols + b.cols; bits = zip2 (λ l r. l ++ r) a.bits b.bits; past = b.past }

-- the shape of what a window shows
pub shape_of : {w : Window} {m n : ℕ} → IsWindow w → w.rows ≡ m → w.cols ≡ n → HasShape gf2 m n (content w)
shape_of is rows cols = record { is_matrix = is.matrix; over = refl; rows = rows; cols = cols }

-- rows that are cut at row k, and joined again with other entries
pub rows_joined : (w : Window) (k : ℕ) (tops bottoms : List (List ℕ)) → k ≤ w.rows
    → stacked (record (upper w k) { bits = tops }) (record (lower w k) { bits = bottoms }) ≡ record w { bits = tops ++ bottoms }
rows_joined w k tops bottoms within =
    let rows : k + (w.rows - k) ≡ w.rows = omega arith in
    same_window _ _ refl refl rows refl refl (take-append-drop k w.past)

-- two windows, one over the other, that were cut from one
module _ (w a b : Window) (k : ℕ) (within : k ≤ w.rows) (s : IsWindow a) (t : IsWindow b)
    (top : a ≡ showing (upper w k) (content a)) (bottom : b ≡ showing (lower w k) (content b)) where
  pub shown_above : content (stacked a b) ≡ above (content a) (content b)
  shown_above = content_above a b s t (ap (λ (x : Window). x.cols) bottom ∙ sym (ap (λ (x : Window). x.cols) top))

  pub top_shape : HasShape gf2 k w.cols (content a)
  top_shape = record { is_matrix = s.matrix; over = refl; rows = ap (λ (x : Window). x.rows) top; cols = ap (λ (x : Window). x.cols) top }

  pub bottom_shape : HasShape gf2 (w.rows - k) w.cols (content b)
  bottom_shape = record { is_matrix = t.matrix; over = refl; rows = ap (λ (x : Window). x.rows) bottom; cols = ap (λ (x : Window). x.cols) bottom }

pub parted_above : (w : Window) (k : ℕ) → k ≤ w.rows → IsWindow (upper w k) → IsWindow (lower w k)
    → above (content (upper w k)) (content (lower w k)) ≡ content w
parted_above w k within s t =
    sym (shown_above w (upper w k) (lower w k) k within s t refl refl)
    ∙ ap content (rows_joined w k (take k w.bits) (drop k w.bits) within)
    ∙ ap (λ (rows : List (List ℕ)). content (record w { bits = rows })) (take-append-drop k w.bits)

-- two windows, one beside the other, that were cut from one
module _ (w a b : Window) (c : ℕ) (s : IsWindow a) (t : IsWindow b) (left : a ≡ showing (before w c) (content a)) (right : b ≡ showing (behind w c) (content b)) where
  pub shown_beside : content (paired a b) ≡ beside (content a) (content b)
  shown_beside = content_beside a b s t (ap (λ (x : Window). x.rows) right ∙ sym (ap (λ (x : Window). x.rows) left))

  pub left_shape : HasShape gf2 w.rows c (content a)
  left_shape = record { is_matrix = s.matrix; over = refl; rows = ap (λ (x : Window). x.rows) left; cols = ap (λ (x : Window). x.cols) left }

  pub right_shape : HasShape gf2 w.rows (w.cols - c) (content b)
  right_shape = record { is_matrix = t.matrix; over = refl; rows = ap (λ (x : Window). x.rows) right; cols = ap (λ (x : Window). x.cols) right }

rows_again : (c : ℕ) (rows : List (List ℕ)) → zip2 (λ l r. l ++ r) (map (take c) rows) (map (drop c) rows) ≡ rows
rows_again c [] = refl
rows_again c (row ∷ rows) = λ i. take-append-drop c row i ∷ rows_again c rows i

pub parted_beside : (w : Window) (c : ℕ) → c ≤ w.cols → IsWindow (before w c) → IsWindow (behind w c)
    → beside (content (before w c)) (content (behind w c)) ≡ content w
parted_beside w c within s t =
    let cols : c + (w.cols - c) ≡ w.cols = omega arith in
    sym (shown_beside w (before w c) (behind w c) c s t refl refl)
    ∙ (λ i. record (content w) { cols = cols i; entries = rows_again c w.bits i })

-- ---- blocks of columns
pub beside_again : {m k n : ℕ} {B L R : Matrix} → HasShape gf2 m (k + n) B → HasShape gf2 m k L → HasShape gf2 m n R
    → L.entries ≡ map (take k) B.entries → R.entries ≡ map (drop k) B.entries → beside L R ≡ B
beside_again {m} {k} {n} {B} {L} {R} b l r left right =
    let high : length B.entries ≡ m = b.is_matrix.height ∙ b.rows in
    same_cols (HasShape-beside l r) b
    (λ i j in_rows in_cols.
    at-beside_left l r i j in_rows in_cols ∙ ap (λ e. get_or (get_or e i []) j 0) left
    ∙ ap (λ x. get_or x j 0) (get_or-map (take k) B.entries i [] [] (omega (arith, in_rows, high))) ∙ get_or-take k (row B i) j 0 in_cols)
    (λ i j in_rows in_cols.
    at-beside_right l r i j in_rows in_cols ∙ ap (λ e. get_or (get_or e i []) j 0) right
    ∙ ap (λ x. get_or x j 0) (get_or-map (drop k) B.entries i [] [] (omega (arith, in_rows, high))) ∙ get_or-drop k (row B i) j 0)

pub above_again : {m k n : ℕ} {B U L : Matrix} → HasShape gf2 (m + k) n B → HasShape gf2 m n U → HasShape gf2 k n L
    → U.entries ≡ take m B.entries → L.entries ≡ drop m B.entries → above U L ≡ B
above_again {m} {k} {n} {B} {U} {L} b u l top bottom =
    same_rows (HasShape-above u l) b
    (λ i j in_rows in_cols.
    at-above_top u l i j in_rows in_cols ∙ ap (λ e. get_or (get_or e i []) j 0) top
    ∙ ap (λ x. get_or x j 0) (get_or-take m B.entries i [] in_rows))
    (λ i j in_rows in_cols.
    at-above_bottom u l i j in_rows in_cols ∙ ap (λ e. get_or (get_or e i []) j 0) bottom
    ∙ ap (λ x. get_or x j 0) (get_or-drop m B.entries i []))

-- a sum of matrices over each other is the sums over each other
pub added-above : {F : Field} {m k n : ℕ} {A B C D : Matrix} → HasShape F m n A → HasShape F k n B → HasShape F m n C → HasShape F k n D
    → added (above A B) (above C D) ≡ above (added A C) (added B D)
added-above {F} {m} {k} {n} {A} {B} {C} {D} a b c d =
    let ab = HasShape-above a b in
    let cd = HasShape-above c d in
    let ac = HasShape-added a c in
    let bd = HasShape-added b d in
    same_rows (HasShape-added ab cd) (HasShape-above ac bd)
    (λ i j in_rows in_cols.
    at-added ab cd i j (omega (arith, in_rows)) in_cols
    ∙ ap₂ bit_xor (at-above_top a b i j in_rows in_cols) (at-above_top c d i j in_rows in_cols)
    ∙ sym (at-added a c i j in_rows in_cols)
    ∙ sym (at-above_top ac bd i j in_rows in_cols))
    (λ i j in_rows in_cols.
    at-added ab cd (m + i) j (omega (arith, in_rows)) in_cols
    ∙ ap₂ bit_xor (at-above_bottom a b i j in_rows in_cols) (at-above_bottom c d i j in_rows in_cols)
    ∙ sym (at-added b d i j in_rows in_cols)
    ∙ sym (at-above_bottom ac bd i j in_rows in_cols))

-- the product was added to the columns before c, and to those from c on
pub cols_added : (w u v x y : Window) (A B L R : Matrix) (c l : ℕ) → c ≤ w.cols
    → IsWindow w → IsWindow u → IsWindow v → IsWindow x → IsWindow y → u ≡ before w c → v ≡ behind w c
    → HasShape gf2 w.rows l A → HasShape gf2 l w.cols B → HasShape gf2 l c L → HasShape gf2 l (w.cols - c) R
    → L.entries ≡ map (take c) B.entries → R.entries ≡ map (drop c) B.entries
    → x ≡ showing u (added (content u) (product A L)) → y ≡ showing v (added (content v) (product A R))
    → paired x y ≡ showing w (added (content w) (product A B))
cols_added w u v x y A B L R c l within is_w is_u is_v is_x is_y left right a b first others first_is others_is sum_left sum_right =
    let all : w.cols ≡ c + (w.cols - c) = omega (arith, within) in
    let whole = subst (λ n. HasShape gf2 l n B) all b in
    let shape_u = shape_of is_u (ap (λ (z : Window). z.rows) left) (ap (λ (z : Window). z.cols) left) in
    let shape_v = shape_of is_v (ap (λ (z : Window). z.rows) right) (ap (λ (z : Window). z.cols) right) in
    let rows_x : x.rows ≡ w.rows = ap (λ (z : Window). z.rows) sum_left ∙ ap (λ (z : Window). z.rows) left in
    let rows_y : y.rows ≡ w.rows = ap (λ (z : Window). z.rows) sum_right ∙ ap (λ (z : Window). z.rows) right in
    let cols_x : x.cols ≡ c = ap (λ (z : Window). z.cols) sum_left ∙ ap (λ (z : Window). z.cols) left in
    let cols_y : y.cols ≡ w.cols - c = ap (λ (z : Window). z.cols) sum_right ∙ ap (λ (z : Window). z.cols) right in
    let shows : content (paired x y) ≡ added (content w) (product A B) =
    content_beside x y is_x is_y (rows_y ∙ sym rows_x)
    ∙ ap₂ beside (ap content sum_left) (ap content sum_right)
    ∙ sym (added-beside shape_u shape_v (HasShape-product a first gf2_laws) (HasShape-product a others gf2_laws))
    ∙ ap₂ added
    (beside_again (shape_of is_w refl all) shape_u shape_v (ap (λ (z : Window). z.bits) left) (ap (λ (z : Window). z.bits) right))
    (sym (product-beside gf2_laws a first others) ∙ ap (product A) (beside_again whole first others first_is others_is)) in
    same_window (paired x y) (showing w (added (content w) (product A B)))
    (ap (λ (z : Window). z.place) sum_left ∙ ap (λ (z : Window). z.place) left)
    (ap (λ (z : Window). z.skip) sum_left ∙ ap (λ (z : Window). z.skip) left)
    rows_x
    (ap₂ (λ m n. m + n) cols_x cols_y ∙ sym all)
    (ap (λ (z : Matrix). z.entries) shows)
    (ap (λ (z : Window). z.past) sum_right ∙ ap (λ (z : Window). z.past) right)

-- ---- blocks of rows
pub rows_added : (w u v x y : Window) (A U L B : Matrix) (r l : ℕ) → r ≤ w.rows
    → IsWindow w → IsWindow u → IsWindow v → IsWindow x → IsWindow y → u ≡ upper w r → v ≡ lower w r
    → HasShape gf2 w.rows l A → HasShape gf2 r l U → HasShape gf2 (w.rows - r) l L → HasShape gf2 l w.cols B
    → U.entries ≡ take r A.entries → L.entries ≡ drop r A.entries
    → x ≡ showing u (added (content u) (product U B)) → y ≡ showing v (added (content v) (product L B))
    → stacked x y ≡ showing w (added (content w) (product A B))
rows_added w u v x y A U L B r l within is_w is_u is_v is_x is_y top bottom a first others b first_is others_is sum_top sum_bottom =
    let all : w.rows ≡ r + (w.rows - r) = omega (arith, within) in
    let whole = subst (λ n. HasShape gf2 n l A) all a in
    let shape_u = shape_of is_u (ap (λ (z : Window). z.rows) top) (ap (λ (z : Window). z.cols) top) in
    let shape_v = shape_of is_v (ap (λ (z : Window). z.rows) bottom) (ap (λ (z : Window). z.cols) bottom) in
    let rows_x : x.rows ≡ r = ap (λ (z : Window). z.rows) sum_top ∙ ap (λ (z : Window). z.rows) top in
    let rows_y : y.rows ≡ w.rows - r = ap (λ (z : Window). z.rows) sum_bottom ∙ ap (λ (z : Window). z.rows) bottom in
    let cols_x : x.cols ≡ w.cols = ap (λ (z : Window). z.cols) sum_top ∙ ap (λ (z : Window). z.cols) top in
    let cols_y : y.cols ≡ w.cols = ap (λ (z : Window). z.cols) sum_bottom ∙ ap (λ (z : Window). z.cols) bottom in
    let shows : content (stacked x y) ≡ added (content w) (product A B) =
    content_above x y is_x is_y (cols_y ∙ sym cols_x)
    ∙ ap₂ above (ap content sum_top) (ap content sum_bottom)
    ∙ sym (added-above shape_u shape_v (HasShape-product first b gf2_laws) (HasShape-product others b gf2_laws))
    ∙ ap₂ added
    (above_again (shape_of is_w all refl) shape_u shape_v (ap (λ (z : Window). z.bits) top) (ap (λ (z : Window). z.bits) bottom))
    (sym (product-above gf2_laws first others b) ∙ ap (λ M. product M B) (above_again whole first others first_is others_is)) in
    same_window (stacked x y) (showing w (added (content w) (product A B)))
    (ap (λ (z : Window). z.place) sum_top ∙ ap (λ (z : Window). z.place) top)
    (ap (λ (z : Window). z.skip) sum_top ∙ ap (λ (z : Window). z.skip) top)
    (ap₂ (λ m n. m + n) rows_x rows_y ∙ sym all)
    cols_x
    (ap (λ (z : Matrix). z.entries) shows)
    (ap₂ (λ p q. p ++ q) (ap (λ (z : Window). z.past) sum_top ∙ ap (λ (z : Window). z.past) top) (ap (λ (z : Window). z.past) sum_bottom ∙ ap (λ (z : Window). z.past) bottom)
    ∙ take-append-drop r w.past)
