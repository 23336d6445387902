-- What the windows of a level and the quarters of a window show after each part of the schedule.
use Rattle.std.proofs.Common.{◌≡◌, ℕ, refl, sym, ◌∙◌, ap, ap₂}
use Rattle.m4_model.specs.Field.{gf2}
use Rattle.m4_model.specs.Matrix.{Matrix, HasShape, zero_matrix, added, product}
use Rattle.m4_model.specs.Recursion.{Quartered, HaveShape, joined, winograd, s1, s2, s3, s4, t1, t2, t3, t4, u2}
use Rattle.m4_model.proofs.Gf2Lemmas.{gf2_laws}
use Rattle.m4_model.proofs.FieldLemmas.{gf2_field}
use Rattle.m4_model.proofs.MatrixLemmas.{same_parts}
use Rattle.m4_model.proofs.ShapeLemmas.{HasShape-zero_matrix, HasShape-added}
use Rattle.m4_model.proofs.WinogradLemmas.{product_winograd, shape_s1, shape_s2, shape_s3, shape_s4, shape_t1, shape_t2, shape_t3, shape_t4}
use Rattle.m4_mzd.specs.Window.{Window, content, showing}
use Rattle.m4_strassen.specs.Cuts.{added_quarters}
use Rattle.m4_strassen.specs.Level.{contents}
use Rattle.m4_strassen.specs.Levels.{IsLevel, HaveSides, with_matrices, with_quarters, unquartered}
use Rattle.m4_strassen.specs.declared.level.Level.{Level}
use Rattle.m4_strassen.specs.declared.level.Written.{Written}
use Rattle.m4_strassen.proofs.SumLemmas.{from_zero}
use Rattle.m4_strassen.proofs.ProductLemmas.{shape_1, shape_5, shape_winograd, top_left_added, top_right_added, bottom_left_added, bottom_right_added}
use Rattle.m4_strassen.proofs.QuarterLemmas.{added-joined}

-- a window shows the matrix that it was made to show
pub content_showing : (w : Window) {m n : ℕ} {P : Matrix} → HasShape gf2 m n P → w.rows ≡ m → w.cols ≡ n → content (showing w P) ≡ P
content_showing w {m} {n} {P} p rows cols = same_parts (content (showing w P)) P (sym p.over) (rows ∙ sym p.rows) (cols ∙ sym p.cols) refl

-- a level and quarters keep their sides, whatever they show
pub level_kept : {m l n : ℕ} {v : Level} → IsLevel m l n v → (S T P U : Matrix) → IsLevel m l n (with_matrices v S T P U)
level_kept is S T P U = record {
  s_rows = is.s_rows;
  s_cols = is.s_cols;
  t_rows = is.t_rows;
  t_cols = is.t_cols;
  p_rows = is.p_rows;
  p_cols = is.p_cols;
  u_rows = is.u_rows;
  u_cols = is.u_cols;
}

pub quarters_kept : {m n : ℕ} {w : Written} → HaveSides m n w → (X : Quartered) → HaveSides m n (with_quarters w X)
quarters_kept is X = record {
  first_rows = is.first_rows;
  first_cols = is.first_cols;
  second_rows = is.second_rows;
  second_cols = is.second_cols;
  third_rows = is.third_rows;
  third_cols = is.third_cols;
  fourth_rows = is.fourth_rows;
  fourth_cols = is.fourth_cols;
}

-- a product that is added to zeros
pub product_first : (w x y : Window) {m n : ℕ} {P : Matrix} → HasShape gf2 m n P → w.rows ≡ m → w.cols ≡ n
    → x ≡ showing w (zero_matrix gf2 w.rows w.cols) → y ≡ showing x (added (content x) P) → y ≡ showing w P
product_first w x y {m} {n} {P} p rows cols cleared sum =
    sum
    ∙ ap (λ (v : Window). showing v (added (content v) P)) cleared
    ∙ ap (showing w) (ap₂ (λ m n. added (zero_matrix gf2 m n) P) rows cols ∙ from_zero p)

module _ (v0 : Level) (c0 : Written) {m l n : ℕ} {A B : Quartered} (a : HaveShape gf2 m l A) (b : HaveShape gf2 l n B) (level : IsLevel m l n v0) where
  -- the first product, in its window
  pub first_shown : (z p : Window) → z ≡ showing v0.p (zero_matrix gf2 v0.p.rows v0.p.cols) → p ≡ showing z (added (content z) (product A.top_left B.top_left))
      → p ≡ showing v0.p (product A.top_left B.top_left)
  first_shown z p cleared sum = product_first v0.p z p (shape_1 a b) level.p_rows level.p_cols cleared sum

  first_content : (p : Window) → p ≡ showing v0.p (product A.top_left B.top_left) → content p ≡ product A.top_left B.top_left
  first_content p is = ap content is ∙ content_showing v0.p (shape_1 a b) level.p_rows level.p_cols

  -- the quarter at the top left after the first two products
  pub first_quarter : (p : Window) (k : Written) (q : Window) → p ≡ showing v0.p (product A.top_left B.top_left)
      → k ≡ record c0 { top_left = showing c0.top_left (added (content c0.top_left) (content p)) }
      → q ≡ showing k.top_left (added (content k.top_left) (product A.top_right B.bottom_left))
      → record k { top_left = q }
      ≡ record c0 { top_left = showing c0.top_left (added (added (content c0.top_left) (product A.top_left B.top_left)) (product A.top_right B.bottom_left)) }
  first_quarter p k q is kept sum =
      let first = first_content p is in
      ap (λ (x : Window). record k { top_left = x }) sum
      ∙ ap (λ (w : Written). record w { top_left = showing w.top_left (added (content w.top_left) (product A.top_right B.bottom_left)) })
      (kept ∙ ap (λ (X : Matrix). record c0 { top_left = showing c0.top_left (added (content c0.top_left) X) }) first)

  -- the windows after the first, the second and the fifth product
  pub first_level : (p : Window) (v2 v3 : Level) (q : Window) → p ≡ showing v0.p (product A.top_left B.top_left)
      → v2 ≡ record v0 { p = p; u = showing v0.u (content p) }
      → v3 ≡ with_matrices v2 (s1 A) (t1 B) (zero_matrix gf2 m n) (content v2.u)
      → q ≡ showing v3.p (added (content v3.p) (product (content v3.s) (content v3.t)))
      → record v3 { p = q } ≡ with_matrices v0 (s1 A) (t1 B) (product (s1 A) (t1 B)) (product A.top_left B.top_left)
  first_level p v2 v3 q is kept set sum =
      let P = product A.top_left B.top_left in
      let second : v2 ≡ record v0 { p = showing v0.p P; u = showing v0.u P }
      = kept ∙ ap (λ (x : Window). record v0 { p = x; u = showing v0.u (content x) }) is in
      let third : v3 ≡ with_matrices v0 (s1 A) (t1 B) (zero_matrix gf2 m n) P
      = set ∙ ap (λ (v : Level). with_matrices v (s1 A) (t1 B) (zero_matrix gf2 m n) (content v.u)) second in
      ap (λ (x : Window). record v3 { p = x }) sum
      ∙ ap (λ (v : Level). record v { p = showing v.p (added (content v.p) (product (content v.s) (content v.t))) }) third
      ∙ ap (λ (X : Matrix). with_matrices v0 (s1 A) (t1 B) X P)
      (ap₂ added
      (content_showing v0.p (HasShape-zero_matrix gf2 m n gf2_field) level.p_rows level.p_cols)
      (ap₂ product
      (content_showing v0.s (shape_s1 gf2_laws a b) level.s_rows level.s_cols)
      (content_showing v0.t (shape_t1 gf2_laws a b) level.t_rows level.t_cols))
      ∙ from_zero (shape_5 a b))

  -- a product of the sums that two windows show
  shown_product : {S T : Matrix} → HasShape gf2 m l S → HasShape gf2 l n T → product (content (showing v0.s S)) (content (showing v0.t T)) ≡ product S T
  shown_product s t = ap₂ product (content_showing v0.s s level.s_rows level.s_cols) (content_showing v0.t t level.t_rows level.t_cols)

  -- what the windows show after the sums for the sixth product
  pub sixth_shown : (v1 : Level) → v1 ≡ record v0 { s = showing v0.s (s2 A); t = showing v0.t (t2 B) } → content v1.s ≡ s2 A
  sixth_shown v1 set = ap (λ (v : Level). content v.s) set ∙ content_showing v0.s (shape_s2 gf2_laws a b) level.s_rows level.s_cols

  pub sixth_shown_too : (v1 : Level) → v1 ≡ record v0 { s = showing v0.s (s2 A); t = showing v0.t (t2 B) } → content v1.t ≡ t2 B
  sixth_shown_too v1 set = ap (λ (v : Level). content v.t) set ∙ content_showing v0.t (shape_t2 gf2_laws a b) level.t_rows level.t_cols

  -- the windows after the sixth, the third and the fourth product
  pub middle_level : (v1 : Level) (u : Window) (v2 : Level) → v1 ≡ record v0 { s = showing v0.s (s2 A); t = showing v0.t (t2 B) }
      → u ≡ showing v1.u (added (content v1.u) (product (content v1.s) (content v1.t)))
      → v2 ≡ record v1 { u = u; s = showing v1.s (s4 A); t = showing v1.t (t4 B) }
      → v2 ≡ with_matrices v0 (s4 A) (t4 B) (content v0.p) (added (content v0.u) (product (s2 A) (t2 B)))
  middle_level v1 u v2 set sum moved =
      let sixth : u ≡ showing v0.u (added (content v0.u) (product (s2 A) (t2 B)))
      = sum
      ∙ ap (λ (v : Level). showing v.u (added (content v.u) (product (content v.s) (content v.t)))) set
      ∙ ap (λ (X : Matrix). showing v0.u (added (content v0.u) X)) (shown_product (shape_s2 gf2_laws a b) (shape_t2 gf2_laws a b)) in
      moved ∙ ap₂ (λ (v : Level) (x : Window). record v { u = x; s = showing v.s (s4 A); t = showing v.t (t4 B) }) set sixth

  pub middle_quarters : (v2 : Level) (U : Matrix) (x y : Window) → v2 ≡ with_matrices v0 (s4 A) (t4 B) (content v0.p) U
      → x ≡ showing c0.top_right (added (content c0.top_right) (product (content v2.s) B.bottom_right))
      → y ≡ showing c0.bottom_left (added (content c0.bottom_left) (product A.bottom_right (content v2.t)))
      → record c0 { top_right = x; bottom_left = y }
      ≡ record c0 {
        top_right = showing c0.top_right (added (content c0.top_right) (product (s4 A) B.bottom_right));
        bottom_left = showing c0.bottom_left (added (content c0.bottom_left) (product A.bottom_right (t4 B)));
      }
  middle_quarters v2 U x y is third fourth =
      let s : content v2.s ≡ s4 A = ap (λ (v : Level). content v.s) is ∙ content_showing v0.s (shape_s4 gf2_laws a b) level.s_rows level.s_cols in
      let t : content v2.t ≡ t4 B = ap (λ (v : Level). content v.t) is ∙ content_showing v0.t (shape_t4 gf2_laws a b) level.t_rows level.t_cols in
      ap₂ (λ (x y : Window). record c0 { top_right = x; bottom_left = y })
      (third ∙ ap (λ (X : Matrix). showing c0.top_right (added (content c0.top_right) (product X B.bottom_right))) s)
      (fourth ∙ ap (λ (X : Matrix). showing c0.bottom_left (added (content c0.bottom_left) (product A.bottom_right X))) t)

  -- the seventh product, added to what its window showed
  seventh_shown : (v1 : Level) (u : Window) → v1 ≡ record v0 { s = showing v0.s (s3 A); t = showing v0.t (t3 B) }
      → u ≡ showing v1.u (added (content v1.u) (product (content v1.s) (content v1.t))) → u ≡ showing v0.u (added (content v0.u) (product (s3 A) (t3 B)))
  seventh_shown v1 u set sum =
      sum
      ∙ ap (λ (v : Level). showing v.u (added (content v.u) (product (content v.s) (content v.t)))) set
      ∙ ap (λ (X : Matrix). showing v0.u (added (content v0.u) X)) (shown_product (shape_s3 gf2_laws a b) (shape_t3 gf2_laws a b))

  pub last_level : (v1 : Level) (u : Window) → v1 ≡ record v0 { s = showing v0.s (s3 A); t = showing v0.t (t3 B) }
      → u ≡ showing v1.u (added (content v1.u) (product (content v1.s) (content v1.t)))
      → record v1 { u = u } ≡ with_matrices v0 (s3 A) (t3 B) (content v0.p) (added (content v0.u) (product (s3 A) (t3 B)))
  last_level v1 u set sum = ap₂ (λ (v : Level) (x : Window). record v { u = x }) set (seventh_shown v1 u set sum)

  pub last_quarters : (v1 : Level) (u : Window) (c1 c2 : Written) → v1 ≡ record v0 { s = showing v0.s (s3 A); t = showing v0.t (t3 B) }
      → u ≡ showing v1.u (added (content v1.u) (product (content v1.s) (content v1.t)))
      → c1 ≡ record c0 { top_right = showing c0.top_right (added (added (content c0.top_right) (content v0.u)) (content v0.p)) }
      → c2 ≡ record c1 {
        bottom_left = showing c1.bottom_left (added (content c1.bottom_left) (content u));
        bottom_right = showing c1.bottom_right (added (added (content c1.bottom_right) (content u)) (content v1.p));
      }
      → c2 ≡ record c0 {
        top_right = showing c0.top_right (added (added (content c0.top_right) (content v0.u)) (content v0.p));
        bottom_left = showing c0.bottom_left (added (content c0.bottom_left) (added (content v0.u) (product (s3 A) (t3 B))));
        bottom_right = showing c0.bottom_right (added (added (content c0.bottom_right) (added (content v0.u) (product (s3 A) (t3 B)))) (content v0.p));
      }
  last_quarters v1 u c1 c2 set sum top bottom =
      let seventh = seventh_shown v1 u set sum in
      bottom ∙ (λ i. record (top i) {
        bottom_left = showing (top i).bottom_left (added (content (top i).bottom_left) (content (seventh i)));
        bottom_right = showing (top i).bottom_right (added (added (content (top i).bottom_right) (content (seventh i))) (content (set i).p));
      })

  -- all quarters
  pub all_quarters : (c1 c2 c3 : Written) (v1 v2 : Level) → HaveShape gf2 m n (contents c0)
      → c1 ≡ record c0 { top_left = showing c0.top_left (added (added (content c0.top_left) (product A.top_left B.top_left)) (product A.top_right B.bottom_left)) }
      → v1 ≡ with_matrices v0 (s1 A) (t1 B) (product (s1 A) (t1 B)) (product A.top_left B.top_left)
      → c2 ≡ record c1 {
        top_right = showing c1.top_right (added (content c1.top_right) (product (s4 A) B.bottom_right));
        bottom_left = showing c1.bottom_left (added (content c1.bottom_left) (product A.bottom_right (t4 B)));
      }
      → v2 ≡ with_matrices v1 (s4 A) (t4 B) (content v1.p) (added (content v1.u) (product (s2 A) (t2 B)))
      → c3 ≡ record c2 {
        top_right = showing c2.top_right (added (added (content c2.top_right) (content v2.u)) (content v2.p));
        bottom_left = showing c2.bottom_left (added (content c2.bottom_left) (added (content v2.u) (product (s3 A) (t3 B))));
        bottom_right = showing c2.bottom_right (added (added (content c2.bottom_right) (added (content v2.u) (product (s3 A) (t3 B)))) (content v2.p));
      }
      → c3 ≡ with_quarters c0 (added_quarters (contents c0) (winograd A B))
  all_quarters c1 c2 c3 v1 v2 c first first_is second second_is third =
      let P = product A.top_left B.top_left in
      let Q = product (s1 A) (t1 B) in
      let p : content v2.p ≡ Q
      = ap (λ (v : Level). content v.p) second_is ∙ ap (λ (v : Level). content v.p) first_is ∙ content_showing v0.p (shape_5 a b) level.p_rows level.p_cols in
      let u : content v2.u ≡ u2 A B
      = ap (λ (v : Level). content v.u) second_is
      ∙ ap (λ (X : Matrix). added X (product (s2 A) (t2 B)))
      (ap (λ (v : Level). content v.u) first_is ∙ content_showing v0.u (shape_1 a b) level.u_rows level.u_cols) in
      let parts = second ∙ ap (λ (w : Written). record w {
        top_right = showing w.top_right (added (content w.top_right) (product (s4 A) B.bottom_right));
        bottom_left = showing w.bottom_left (added (content w.bottom_left) (product A.bottom_right (t4 B)));
      }) first in
      third
      ∙ (λ i. record (parts i) {
        top_right = showing (parts i).top_right (added (added (content (parts i).top_right) (u i)) (p i));
        bottom_left = showing (parts i).bottom_left (added (content (parts i).bottom_left) (added (u i) (product (s3 A) (t3 B))));
        bottom_right = showing (parts i).bottom_right (added (added (content (parts i).bottom_right) (added (u i) (product (s3 A) (t3 B)))) (p i));
      })
      ∙ (λ i. record {
        top_left = showing c0.top_left (top_left_added a b c i);
        top_right = showing c0.top_right (top_right_added a b c i);
        bottom_left = showing c0.bottom_left (bottom_left_added a b c i);
        bottom_right = showing c0.bottom_right (bottom_right_added a b c i);
      })

-- the whole window, joined of its quarters
pub quarters_sum : (w v y : Window) (q0 q1 : Written) {A B : Quartered} {F G : Matrix} {m l n : ℕ} → HaveShape gf2 m l A → HaveShape gf2 l n B
    → HaveShape gf2 m n (contents q0) → v ≡ w → joined (contents q0) ≡ content v
    → ((X : Quartered) → HaveShape gf2 m n X → unquartered (with_quarters q0 X) ≡ showing v (joined X))
    → q1 ≡ with_quarters q0 (added_quarters (contents q0) (winograd A B)) → y ≡ unquartered q1 → joined A ≡ F → joined B ≡ G
    → y ≡ showing w (added (content w) (product F G))
quarters_sum w v y q0 q1 {A} {B} {F} {G} a b c same shown back sum joins first second =
    let products = shape_winograd a b in
    let sums : HaveShape gf2 _ _ (added_quarters (contents q0) (winograd A B))
    = record {
      top_left = HasShape-added c.top_left products.top_left;
      top_right = HasShape-added c.top_right products.top_right;
      bottom_left = HasShape-added c.bottom_left products.bottom_left;
      bottom_right = HasShape-added c.bottom_right products.bottom_right;
    } in
    joins
    ∙ ap unquartered sum
    ∙ back (added_quarters (contents q0) (winograd A B)) sums
    ∙ ap (showing v) (added-joined c products ∙ ap₂ added shown (sym (product_winograd gf2_laws a b) ∙ ap₂ product first second))
    ∙ ap (λ (z : Window). showing z (added (content z) (product F G))) same
