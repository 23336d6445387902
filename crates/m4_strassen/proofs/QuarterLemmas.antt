-- The quarters of a matrix that is read, and of a window that is written and joined again.
use Rattle.std.proofs.Common.{◌≡◌, ℕ, ◌+◌, ◌-◌, ◌*◌, ◌/◌, ◌<◌, ◌≤◌, inl, inr, List, [], ◌∷◌, ◌++◌, length, get_or, take, drop, map, refl, sym, ◌∙◌, ap, ap₂, arith, take-append-drop}
use Rattle.std.specs.Simd.Lanes.{zip2}
use Rattle.std.proofs.lemmas.Bool.{cases_lt, cond-true, cond-false, lt-ltb, le-ltb}
use Rattle.std.proofs.lemmas.List.{length-append, get_or_append_left, get_or-append_right}
use Rattle.std.proofs.lemmas.Simd.{length-zip2, get_or-zip2}
use Rattle.m4_model.specs.Field.{gf2}
use Rattle.m4_model.specs.Matrix.{Matrix, IsMatrix, HasShape, row, added}
use Rattle.m4_model.specs.Shapes.{above, beside}
use Rattle.m4_model.specs.Recursion.{Quartered, HaveShape, joined}
use Rattle.m4_model.proofs.MatrixLemmas.{same_matrix, same_parts}
use Rattle.m4_model.proofs.BlockLemmas.{HasShape-beside, added-beside}
use Rattle.m4_mzd.specs.Window.{Window, IsWindow, content, showing}
use Rattle.m4_mzd.specs.Seen.{shown}
use Rattle.m4_mzd.specs.declared.win.Win.{Win}
use Rattle.m4_mzd.proofs.SeenLemmas.{IsMatrix_shown}
use Rattle.m4_mzd.proofs.WindowLemmas.{same_window}
use Rattle.m4_mzd.proofs.BlockedLemmas.{shape_of, beside_again, above_again, added-above}
use Rattle.m4_strassen.specs.Cuts.{added_quarters}
use Rattle.m4_strassen.specs.Level.{read, contents}
use Rattle.m4_strassen.specs.Levels.{with_quarters, unquartered}
use Rattle.m4_strassen.specs.declared.level.Read.{Read}
use Rattle.m4_strassen.specs.declared.level.Written.{Written}

-- the shape of what a window for reading shows
pub shown_shape : (w : Win) {m n : ℕ} → (shown w).rows ≡ m → (shown w).cols ≡ n → HasShape gf2 m n (shown w)
shown_shape w rows cols = record { is_matrix = IsMatrix_shown w; over = refl; rows = rows; cols = cols }

-- the quarters of a window for reading
module _ (w top bottom : Win) (q : Read) (r c : ℕ) (rows : (shown w).rows ≡ r + r) (cols : (shown w).cols ≡ c + c)
    (is_top : shown top ≡ record (shown w) { rows = r; entries = take r (shown w).entries })
    (is_bottom : shown bottom ≡ record (shown w) { rows = (shown w).rows - r; entries = drop r (shown w).entries })
    (first : shown q.top_left ≡ record (shown top) { cols = c; entries = map (take c) (shown top).entries })
    (second : shown q.top_right ≡ record (shown top) { cols = (shown top).cols - c; entries = map (drop c) (shown top).entries })
    (third : shown q.bottom_left ≡ record (shown bottom) { cols = c; entries = map (take c) (shown bottom).entries })
    (fourth : shown q.bottom_right ≡ record (shown bottom) { cols = (shown bottom).cols - c; entries = map (drop c) (shown bottom).entries }) where
  top_rows : (shown top).rows ≡ r
  top_rows = ap (λ (A : Matrix). A.rows) is_top

  top_cols : (shown top).cols ≡ c + c
  top_cols = ap (λ (A : Matrix). A.cols) is_top ∙ cols

  bottom_rows : (shown bottom).rows ≡ r
  bottom_rows = ap (λ (A : Matrix). A.rows) is_bottom ∙ omega (arith, rows)

  bottom_cols : (shown bottom).cols ≡ c + c
  bottom_cols = ap (λ (A : Matrix). A.cols) is_bottom ∙ cols

  pub read_shape : HaveShape gf2 r c (read q)
  read_shape = record {
    top_left = shown_shape q.top_left (ap (λ (A : Matrix). A.rows) first ∙ top_rows) (ap (λ (A : Matrix). A.cols) first);
    top_right = shown_shape q.top_right (ap (λ (A : Matrix). A.rows) second ∙ top_rows) (ap (λ (A : Matrix). A.cols) second ∙ omega (arith, top_cols));
    bottom_left = shown_shape q.bottom_left (ap (λ (A : Matrix). A.rows) third ∙ bottom_rows) (ap (λ (A : Matrix). A.cols) third);
    bottom_right = shown_shape q.bottom_right (ap (λ (A : Matrix). A.rows) fourth ∙ bottom_rows) (ap (λ (A : Matrix). A.cols) fourth ∙ omega (arith, bottom_cols));
  }

  pub read_joined : joined (read q) ≡ shown w
  read_joined =
      let shape = read_shape in
      let upper = shown_shape top top_rows top_cols in
      let lower = shown_shape bottom bottom_rows bottom_cols in
      ap₂ above
      (beside_again upper shape.top_left shape.top_right (ap (λ (A : Matrix). A.entries) first) (ap (λ (A : Matrix). A.entries) second))
      (beside_again lower shape.bottom_left shape.bottom_right (ap (λ (A : Matrix). A.entries) third) (ap (λ (A : Matrix). A.entries) fourth))
      ∙ above_again (shown_shape w rows cols) upper lower (ap (λ (A : Matrix). A.entries) is_top) (ap (λ (A : Matrix). A.entries) is_bottom)

-- the rows of a matrix over another
above_lists : (A B : Matrix) → IsMatrix A → IsMatrix B → B.cols ≡ A.cols → record A { rows = A.rows + B.rows; entries = A.entries ++ B.entries } ≡ above A B
above_lists A B s t cols =
    let high : length (A.entries ++ B.entries) ≡ A.rows + B.rows = omega (arith, length-append A.entries B.entries, s.height, t.height) in
    let upper : (i : ℕ) → i < A.rows → get_or (A.entries ++ B.entries) i [] ≡ row A i =
    λ i below. get_or_append_left A.entries B.entries [] i (omega (arith, s.height)) in
    let lower : (i : ℕ) → A.rows ≤ i → get_or (A.entries ++ B.entries) i [] ≡ row B (i - A.rows) =
    λ i past. get_or-append_right A.entries B.entries A.rows i [] s.height past in
    same_matrix A.field (A.rows + B.rows) A.cols _ (record A { rows = A.rows + B.rows; entries = A.entries ++ B.entries }) refl refl refl high
    (λ i below. elim (cases_lt i A.rows) [
      | inl first ↦ ap length (upper i first) ∙ s.width i first
      | inr second ↦ ap length (lower i second) ∙ (t.width (i - A.rows) (omega arith) ∙ cols)
    ])
    (λ i j below within. elim (cases_lt i A.rows) [
      | inl first ↦ ap (λ l. get_or l j 0) (upper i first) ∙ sym (cond-true _ _ _ (lt-ltb i A.rows first))
      | inr second ↦ ap (λ l. get_or l j 0) (lower i second) ∙ sym (cond-false _ _ _ (le-ltb i A.rows second))
    ])

-- and of a matrix beside another
beside_lists : (A B : Matrix) → IsMatrix A → IsMatrix B → B.rows ≡ A.rows
    → record A { cols = A.cols + B.cols; entries = zip2 (λ l r. l ++ r) A.entries B.entries } ≡ beside A B
beside_lists A B s t rows =
    let same : length A.entries ≡ length B.entries = omega (arith, s.height, t.height) in
    let paired : (i : ℕ) → i < A.rows → get_or (zip2 (λ l r. l ++ r) A.entries B.entries) i [] ≡ row A i ++ row B i =
    λ i below. get_or-zip2 (λ l r. l ++ r) A.entries B.entries i [] [] [] (omega (arith, s.height)) (omega (arith, t.height)) in
    same_matrix A.field A.rows (A.cols + B.cols) _ (record A { cols = A.cols + B.cols; entries = zip2 (λ l r. l ++ r) A.entries B.entries }) refl refl refl
    (length-zip2 (λ l r. l ++ r) A.entries B.entries same ∙ s.height)
    (λ i below. ap length (paired i below) ∙ omega (arith, length-append (row A i) (row B i), s.width i below, t.width i (omega arith)))
    (λ i j below within. ap (λ l. get_or l j 0) (paired i below) ∙ elim (cases_lt j A.cols) [
      | inl first ↦ get_or_append_left (row A i) (row B i) 0 j (omega (arith, s.width i below)) ∙ sym (cond-true _ _ _ (lt-ltb j A.cols first))
      | inr second ↦ get_or-append_right (row A i) (row B i) A.cols j 0 (s.width i below) second ∙ sym (cond-false _ _ _ (le-ltb j A.cols second))
    ])

rows_again : (c : ℕ) (rows : List (List ℕ)) → zip2 (λ l r. l ++ r) (map (take c) rows) (map (drop c) rows) ≡ rows
rows_again c [] = refl
rows_again c (row ∷ rows) = λ i. take-append-drop c row i ∷ rows_again c rows i

-- the rows of four quarters
abbrev rows_of_quarters : Quartered → List (List ℕ)
rows_of_quarters X =
    zip2 (λ l r. l ++ r) X.top_left.entries X.top_right.entries ++ zip2 (λ l r. l ++ r) X.bottom_left.entries X.bottom_right.entries

joined_rows : {m n : ℕ} {X : Quartered} → HaveShape gf2 m n X → rows_of_quarters X ≡ (joined X).entries
joined_rows {m} {n} {X} shape =
    let upper = HasShape-beside shape.top_left shape.top_right in
    let lower = HasShape-beside shape.bottom_left shape.bottom_right in
    ap₂ (λ xs ys. xs ++ ys)
    (ap (λ (A : Matrix). A.entries) (beside_lists X.top_left X.top_right shape.top_left.is_matrix shape.top_right.is_matrix
    (shape.top_right.rows ∙ sym shape.top_left.rows)))
    (ap (λ (A : Matrix). A.entries) (beside_lists X.bottom_left X.bottom_right shape.bottom_left.is_matrix shape.bottom_right.is_matrix
    (shape.bottom_right.rows ∙ sym shape.bottom_left.rows)))
    ∙ ap (λ (A : Matrix). A.entries) (above_lists (beside X.top_left X.top_right) (beside X.bottom_left X.bottom_right) upper.is_matrix lower.is_matrix
    (lower.cols ∙ sym upper.cols))

-- the quarters of a window for writing
module _ (w : Window) (q : Written) (r c : ℕ) (is : IsWindow w) (rows : w.rows ≡ r + r) (cols : w.cols ≡ c + c)
    (first : q.top_left ≡ record w { rows = r; cols = c; bits = map (take c) (take r w.bits); past = map (λ _. []) (take r w.past) })
    (second : q.top_right ≡ record w { skip = w.skip + c / 64; rows = r; cols = w.cols - c; bits = map (drop c) (take r w.bits); past = take r w.past })
    (third : q.bottom_left ≡ record w { skip = w.skip + r * w.place.stride; rows = w.rows - r; cols = c; bits = map (take c) (drop r w.bits); past = map (λ _. []) (drop r w.past) })
    (fourth : q.bottom_right ≡ record w { skip = w.skip + r * w.place.stride + c / 64; rows = w.rows - r; cols = w.cols - c; bits = map (drop c) (drop r w.bits); past = drop r w.past })
    (is_first : IsWindow q.top_left) (is_second : IsWindow q.top_right) (is_third : IsWindow q.bottom_left) (is_fourth : IsWindow q.bottom_right) where
  pub written_shape : HaveShape gf2 r c (contents q)
  written_shape = record {
    top_left = shape_of is_first (ap (λ (z : Window). z.rows) first) (ap (λ (z : Window). z.cols) first);
    top_right = shape_of is_second (ap (λ (z : Window). z.rows) second) (ap (λ (z : Window). z.cols) second ∙ omega (arith, cols));
    bottom_left = shape_of is_third (ap (λ (z : Window). z.rows) third ∙ omega (arith, rows)) (ap (λ (z : Window). z.cols) third);
    bottom_right = shape_of is_fourth (ap (λ (z : Window). z.rows) fourth ∙ omega (arith, rows)) (ap (λ (z : Window). z.cols) fourth ∙ omega (arith, cols));
  }

  pub written_back : (X : Quartered) → HaveShape gf2 r c X → unquartered (with_quarters q X) ≡ showing w (joined X)
  written_back X shape =
      let high : q.top_left.rows + q.bottom_left.rows ≡ w.rows
      = ap₂ (λ m n. m + n) (ap (λ (z : Window). z.rows) first) (ap (λ (z : Window). z.rows) third) ∙ omega (arith, rows) in
      let wide : q.top_left.cols + q.top_right.cols ≡ w.cols
      = ap₂ (λ m n. m + n) (ap (λ (z : Window). z.cols) first) (ap (λ (z : Window). z.cols) second) ∙ omega (arith, cols) in
      same_window (unquartered (with_quarters q X)) (showing w (joined X))
      (ap (λ (z : Window). z.place) first) (ap (λ (z : Window). z.skip) first) high wide (joined_rows shape)
      (ap₂ (λ xs ys. xs ++ ys) (ap (λ (z : Window). z.past) second) (ap (λ (z : Window). z.past) fourth) ∙ take-append-drop r w.past)

  pub written_joined : joined (contents q) ≡ content w
  written_joined =
      let high : q.top_left.rows + q.bottom_left.rows ≡ w.rows
      = ap₂ (λ m n. m + n) (ap (λ (z : Window). z.rows) first) (ap (λ (z : Window). z.rows) third) ∙ omega (arith, rows) in
      let wide : q.top_left.cols + q.top_right.cols ≡ w.cols
      = ap₂ (λ m n. m + n) (ap (λ (z : Window). z.cols) first) (ap (λ (z : Window). z.cols) second) ∙ omega (arith, cols) in
      let lists : rows_of_quarters (contents q) ≡ w.bits
      = ap₂ (λ xs ys. xs ++ ys)
      (ap₂ (zip2 (λ l r. l ++ r)) (ap (λ (z : Window). z.bits) first) (ap (λ (z : Window). z.bits) second) ∙ rows_again c (take r w.bits))
      (ap₂ (zip2 (λ l r. l ++ r)) (ap (λ (z : Window). z.bits) third) (ap (λ (z : Window). z.bits) fourth) ∙ rows_again c (drop r w.bits))
      ∙ take-append-drop r w.bits in
      same_parts (joined (contents q)) (content w) refl high wide (sym (joined_rows written_shape) ∙ lists)

-- a sum of matrices in four quarters
pub added-joined : {m n : ℕ} {A B : Quartered} → HaveShape gf2 m n A → HaveShape gf2 m n B → joined (added_quarters A B) ≡ added (joined A) (joined B)
added-joined a b =
    ap₂ above
    (sym (added-beside a.top_left a.top_right b.top_left b.top_right))
    (sym (added-beside a.bottom_left a.bottom_right b.bottom_left b.bottom_right))
    ∙ sym (added-above (HasShape-beside a.top_left a.top_right) (HasShape-beside a.bottom_left a.bottom_right)
    (HasShape-beside b.top_left b.top_right) (HasShape-beside b.bottom_left b.bottom_right))
