-- Windows that are cut, written and joined again, and what they show.
use Rattle.std.proofs.Common.{◌≡◌, ℕ, ◌+◌, ◌-◌, ◌*◌, ◌/◌, ◌^◌, ◌<◌, ◌≤◌, ltb, inl, inr, List, [], ◌∷◌, ◌++◌, length, get_or, take, drop, map, replicate, refl, sym, ◌∙◌, ap, arith, bit_xor, get_or-take, get_or-drop, take-append-drop}
use Rattle.std.specs.Int.Bits.{xor_zero_r}
use Rattle.std.proofs.lemmas.Bool.{cases_lt, cond-true, cond-false, lt-ltb, le-ltb}
use Rattle.std.proofs.lemmas.List.{length-append, length-drop, length-take-le, get_or_append_left, get_or-append_right}
use Rattle.std.specs.Simd.Lanes.{zip2}
use Rattle.std.proofs.lemmas.Simd.{length-zip2, get_or-zip2}
use Rattle.m4_model.specs.Field.{Field, IsField, width, mul}
use Rattle.m4_model.specs.Matrix.{Matrix, IsMatrix, HasShape, row, at, matrix_of, table}
use Rattle.m4_model.specs.Shapes.{above, beside}
use Rattle.m4_model.proofs.FieldProofs.{field_laws}
use Rattle.m4_model.proofs.MatrixLemmas.{same_table, same_matrix, at-table, length-table, length-row-table}
use Rattle.m4_mzed.specs.EWindow.{EWindow, content, showing}
use Rattle.m4_mzed.proofs.PartLemmas.{same_window}
use Rattle.m4_trsm.specs.Triangles.{inside}
use Rattle.m4_trsm.specs.Elimination.{without_row}
use Rattle.m4_trsm.specs.declared.side.Side.TheVariants.{Lower, Upper}

-- the parts of a window above and below a row, and two windows that are joined
abbrev pub upper : EWindow → ℕ → EWindow
upper w r = record w { rows = r; entries = take r w.entries; past = take r w.past }

abbrev pub lower : EWindow → ℕ → EWindow
lower w r = record w { skip = w.skip + r * w.place.stride; rows = w.rows - r; entries = drop r w.entries; past = drop r w.past }

abbrev pub stacked : EWindow → EWindow → EWindow
stacked a b = record a { rows = a.rows + b.rows; entries = a.entries ++ b.entries; past = a.past ++ b.past }

-- a window over another shows the one matrix above the other
pub content_above : (a b : EWindow) → IsMatrix (content a) → IsMatrix (content b) → b.cols ≡ a.cols
    → record (content a) { rows = a.rows + b.rows; entries = a.entries ++ b.entries } ≡ above (content a) (content b)
content_above a b s t cols =
    let high : length (a.entries ++ b.entries) ≡ a.rows + b.rows = omega (arith, length-append a.entries b.entries, s.height, t.height) in
    let upper : (i : ℕ) → i < a.rows → get_or (a.entries ++ b.entries) i [] ≡ row (content a) i =
    λ i below. get_or_append_left a.entries b.entries [] i (omega (arith, s.height)) in
    let lower : (i : ℕ) → a.rows ≤ i → get_or (a.entries ++ b.entries) i [] ≡ row (content b) (i - a.rows) =
    λ i past. get_or-append_right a.entries b.entries a.rows i [] s.height past in
    same_matrix (content a).field (a.rows + b.rows) a.cols _ (record (content a) { rows = a.rows + b.rows; entries = a.entries ++ b.entries }) refl refl refl high
    (λ i below. elim (cases_lt i a.rows) [
      | inl first ↦ ap length (upper i first) ∙ s.width i first
      | inr second ↦ ap length (lower i second) ∙ (t.width (i - a.rows) (omega arith) ∙ cols)
    ])
    (λ i j below within. elim (cases_lt i a.rows) [
      | inl first ↦ ap (λ l. get_or l j 0) (upper i first) ∙ sym (cond-true _ _ _ (lt-ltb i a.rows first))
      | inr second ↦ ap (λ l. get_or l j 0) (lower i second) ∙ sym (cond-false _ _ _ (le-ltb i a.rows second))
    ])

-- a window that was written twice
pub stays_more : (a b c : EWindow) (A : Matrix) → b ≡ showing a (content b) → c ≡ showing b A → c ≡ showing a (content c)
stays_more a b c A first second =
    second ∙ ap (λ (w : EWindow). record b { entries = w.entries }) (sym second) ∙ ap (λ (w : EWindow). showing w (content c)) first

-- rows that are cut at row k, and joined again with other entries
pub rows_joined : (w : EWindow) (k : ℕ) (tops bottoms : List (List ℕ)) → k ≤ w.rows
    → stacked (record (upper w k) { entries = tops }) (record (lower w k) { entries = bottoms }) ≡ record w { entries = tops ++ bottoms }
rows_joined w k tops bottoms within =
    let rows : k + (w.rows - k) ≡ w.rows = omega arith in
    same_window _ _ refl refl refl rows refl refl (take-append-drop k w.past)

-- with the entries of a function
rows_made : (w : EWindow) (k : ℕ) (tops bottoms : List (List ℕ)) (g : ℕ → ℕ → ℕ) → k ≤ w.rows → length tops ≡ k → length bottoms ≡ w.rows - k
    → ((i : ℕ) → i < k → length (get_or tops i []) ≡ w.cols) → ((i : ℕ) → i < w.rows - k → length (get_or bottoms i []) ≡ w.cols)
    → ((i j : ℕ) → i < k → j < w.cols → get_or (get_or tops i []) j 0 ≡ g i j)
    → ((i j : ℕ) → i < w.rows - k → j < w.cols → get_or (get_or bottoms i []) j 0 ≡ g (k + i) j)
    → stacked (record (upper w k) { entries = tops }) (record (lower w k) { entries = bottoms }) ≡ showing w (matrix_of w.field w.rows w.cols g)
rows_made w k tops bottoms g within high low wide wide_below first second =
    let front : (i : ℕ) → i < k → get_or (tops ++ bottoms) i [] ≡ get_or tops i [] =
    λ i below. get_or_append_left tops bottoms [] i (omega arith) in
    let back : (i : ℕ) → k ≤ i → get_or (tops ++ bottoms) i [] ≡ get_or bottoms (i - k) [] =
    λ i past. get_or-append_right tops bottoms k i [] high past in
    rows_joined w k tops bottoms within
    ∙ ap (λ (rows : List (List ℕ)). record w { entries = rows }) (same_table w.rows w.cols g (tops ++ bottoms) (omega (arith, length-append tops bottoms))
    (λ i below. elim (cases_lt i k) [
      | inl top ↦ ap length (front i top) ∙ wide i top
      | inr bottom ↦ ap length (back i bottom) ∙ wide_below (i - k) (omega arith)
    ])
    (λ i j below inside. elim (cases_lt i k) [
      | inl top ↦ ap (λ l. get_or l j 0) (front i top) ∙ first i j top inside
      | inr bottom ↦
          let place : k + (i - k) ≡ i = omega arith in
          ap (λ l. get_or l j 0) (back i bottom) ∙ second (i - k) j (omega arith) inside ∙ ap (λ n. g n j) place
    ]))

-- a row that was taken out of the rows below it, or of those above it
module _ (w : EWindow) (T : Matrix) (i : ℕ) (shape : IsMatrix (content w)) (within : i < w.rows) where
  unchanged : (r j : ℕ) → r < w.rows → (x : ℕ) → x ≡ 0 → at (content w) r j ≡ bit_xor (at (content w) r j) (mul w.field (at (content w) i j) x)
  unchanged r j below x none =
      sym (ap (λ y. bit_xor (at (content w) r j) (mul w.field (at (content w) i j) y)) none
      ∙ ap (bit_xor (at (content w) r j)) ((field_laws w.field shape.over_field).annihilates (at (content w) i j)) ∙ xor_zero_r (at (content w) r j))

  pub taken_below : stacked (upper w (i + 1)) (showing (lower w (i + 1)) (matrix_of w.field (w.rows - (i + 1)) w.cols (λ r j.
      bit_xor (at (content (lower w (i + 1))) r j) (mul w.field (at (content (upper w (i + 1))) i j) (at T (i + 1 + r) i)))))
      ≡ showing w (without_row Lower T (content w) i)
  taken_below =
      let k = i + 1 in
      let h : ℕ → ℕ → ℕ = λ r j. bit_xor (at (content (lower w k)) r j) (mul w.field (at (content (upper w k)) i j) (at T (k + r) i)) in
      rows_made w k (take k w.entries) (table (w.rows - k) w.cols h) (λ r j. bit_xor (at (content w) r j) (mul w.field (at (content w) i j) (inside Lower T r i)))
      (omega arith) (length-take-le k w.entries (omega (arith, shape.height))) (length-table (w.rows - k) w.cols h)
      (λ r below. ap length (get_or-take k w.entries r [] below) ∙ shape.width r (omega arith)) (length-row-table (w.rows - k) w.cols h)
      (λ r j below inside_cols. ap (λ l. get_or l j 0) (get_or-take k w.entries r [] below)
      ∙ unchanged r j (omega arith) (inside Lower T r i) (cond-false (ltb i r) _ _ (le-ltb i r (omega arith))))
      (λ r j below inside_cols. at-table (w.rows - k) w.cols h r j below inside_cols
      ∙ ap (λ l. bit_xor (get_or l j 0) (mul w.field (at (content (upper w k)) i j) (at T (k + r) i))) (get_or-drop k w.entries r [])
      ∙ ap (λ l. bit_xor (at (content w) (k + r) j) (mul w.field (get_or l j 0) (at T (k + r) i))) (get_or-take k w.entries i [] (omega arith))
      ∙ ap (λ x. bit_xor (at (content w) (k + r) j) (mul w.field (at (content w) i j) x)) (sym (cond-true (ltb i (k + r)) _ _ (lt-ltb i (k + r) (omega arith)))))

  pub taken_above : stacked (showing (upper w i) (matrix_of w.field i w.cols (λ r j.
      bit_xor (at (content (upper w i)) r j) (mul w.field (at (content (lower w i)) 0 j) (at T (0 + r) i))))) (lower w i)
      ≡ showing w (without_row Upper T (content w) i)
  taken_above =
      let h : ℕ → ℕ → ℕ = λ r j. bit_xor (at (content (upper w i)) r j) (mul w.field (at (content (lower w i)) 0 j) (at T (0 + r) i)) in
      let here : i + 0 ≡ i = omega arith in
      rows_made w i (table i w.cols h) (drop i w.entries) (λ r j. bit_xor (at (content w) r j) (mul w.field (at (content w) i j) (inside Upper T r i)))
      (omega arith) (length-table i w.cols h) (omega (arith, length-drop i w.entries, shape.height))
      (length-row-table i w.cols h) (λ r below. ap length (get_or-drop i w.entries r []) ∙ shape.width (i + r) (omega arith))
      (λ r j below inside_cols.
      let place : 0 + r ≡ r = omega arith in
      at-table i w.cols h r j below inside_cols
      ∙ ap (λ l. bit_xor (get_or l j 0) (mul w.field (at (content (lower w i)) 0 j) (at T (0 + r) i))) (get_or-take i w.entries r [] below)
      ∙ ap (λ l. bit_xor (at (content w) r j) (mul w.field (get_or l j 0) (at T (0 + r) i))) (get_or-drop i w.entries 0 [] ∙ ap (row (content w)) here)
      ∙ ap (λ n. bit_xor (at (content w) r j) (mul w.field (at (content w) i j) (at T n i))) place
      ∙ ap (λ x. bit_xor (at (content w) r j) (mul w.field (at (content w) i j) x)) (sym (cond-true (ltb r i) _ _ (lt-ltb r i below))))
      (λ r j below inside_cols. ap (λ l. get_or l j 0) (get_or-drop i w.entries r [])
      ∙ unchanged (i + r) j (omega arith) (inside Upper T (i + r) i) (cond-false (ltb (i + r) i) _ _ (le-ltb (i + r) i (omega arith))))

-- two windows, one over the other, that were cut from one
module _ (w a b : EWindow) (k : ℕ) (within : k ≤ w.rows) (s : IsMatrix (content a)) (t : IsMatrix (content b))
    (top : a ≡ showing (upper w k) (content a)) (bottom : b ≡ showing (lower w k) (content b)) where
  pub shown_above : content (stacked a b) ≡ above (content a) (content b)
  shown_above = content_above a b s t (ap (λ (x : EWindow). x.cols) bottom ∙ sym (ap (λ (x : EWindow). x.cols) top))

  pub top_shape : HasShape w.field k w.cols (content a)
  top_shape = record { is_matrix = s; over = ap (λ (x : EWindow). x.field) top; rows = ap (λ (x : EWindow). x.rows) top; cols = ap (λ (x : EWindow). x.cols) top }

  pub bottom_shape : HasShape w.field (w.rows - k) w.cols (content b)
  bottom_shape = record { is_matrix = t; over = ap (λ (x : EWindow). x.field) bottom; rows = ap (λ (x : EWindow). x.rows) bottom; cols = ap (λ (x : EWindow). x.cols) bottom }

pub parted_above : (w : EWindow) (k : ℕ) → k ≤ w.rows → IsMatrix (content (upper w k)) → IsMatrix (content (lower w k))
    → above (content (upper w k)) (content (lower w k)) ≡ content w
parted_above w k within s t =
    sym (shown_above w (upper w k) (lower w k) k within s t refl refl)
    ∙ ap content (rows_joined w k (take k w.entries) (drop k w.entries) within)
    ∙ ap (λ (rows : List (List ℕ)). content (record w { entries = rows })) (take-append-drop k w.entries)

-- a window beside another shows the one matrix left of the other
pub content_beside : (a b : EWindow) → IsMatrix (content a) → IsMatrix (content b) → b.rows ≡ a.rows
    → record (content a) { cols = a.cols + b.cols; entries = zip2 (λ l r. l ++ r) a.entries b.entries } ≡ beside (content a) (content b)
content_beside a b s t rows =
    let same : length a.entries ≡ length b.entries = omega (arith, s.height, t.height) in
    let joined : (i : ℕ) → i < a.rows → get_or (zip2 (λ l r. l ++ r) a.entries b.entries) i [] ≡ row (content a) i ++ row (content b) i =
    λ i below. get_or-zip2 (λ l r. l ++ r) a.entries b.entries i [] [] [] (omega (arith, s.height)) (omega (arith, t.height)) in
    same_matrix (content a).field a.rows (a.cols + b.cols) _ (record (content a) { cols = a.cols + b.cols; entries = zip2 (λ l r. l ++ r) a.entries b.entries }) refl refl refl
    (length-zip2 (λ l r. l ++ r) a.entries b.entries same ∙ s.height)
    (λ i below. ap length (joined i below)
    ∙ omega (arith, length-append (row (content a) i) (row (content b) i), s.width i below, t.width i (omega arith)))
    (λ i j below within. ap (λ l. get_or l j 0) (joined i below) ∙ elim (cases_lt j a.cols) [
      | inl first ↦
          get_or_append_left (row (content a) i) (row (content b) i) 0 j (omega (arith, s.width i below))
          ∙ sym (cond-true _ _ _ (lt-ltb j a.cols first))
      | inr second ↦
          get_or-append_right (row (content a) i) (row (content b) i) a.cols j 0 (s.width i below) second
          ∙ sym (cond-false _ _ _ (le-ltb j a.cols second))
    ])

-- two windows, one beside the other
abbrev pub before : EWindow → ℕ → EWindow
before w c = record w { cols = c; entries = map (take c) w.entries; past = map (λ _. []) w.past }

abbrev pub behind : EWindow → ℕ → EWindow
behind w c = record w { skip = w.skip + c * width w.field / 64; cols = w.cols - c; entries = map (drop c) w.entries }

abbrev pub paired : EWindow → EWindow → EWindow
paired a b = record a { cols = a.cols + b.cols; entries = zip2 (λ l r. l ++ r) a.entries b.entries; past = b.past }

module _ (w a b : EWindow) (c : ℕ) (s : IsMatrix (content a)) (t : IsMatrix (content b)) (left : a ≡ showing (before w c) (content a)) (right : b ≡ showing (behind w c) (content b)) where
  pub shown_beside : content (paired a b) ≡ beside (content a) (content b)
  shown_beside = content_beside a b s t (ap (λ (x : EWindow). x.rows) right ∙ sym (ap (λ (x : EWindow). x.rows) left))

  pub left_shape : HasShape w.field w.rows c (content a)
  left_shape = record { is_matrix = s; over = ap (λ (x : EWindow). x.field) left; rows = ap (λ (x : EWindow). x.rows) left; cols = ap (λ (x : EWindow). x.cols) left }

  pub right_shape : HasShape w.field w.rows (w.cols - c) (content b)
  right_shape = record { is_matrix = t; over = ap (λ (x : EWindow). x.field) right; rows = ap (λ (x : EWindow). x.rows) right; cols = ap (λ (x : EWindow). x.cols) right }

rows_again : (c : ℕ) (rows : List (List ℕ)) → zip2 (λ l r. l ++ r) (map (take c) rows) (map (drop c) rows) ≡ rows
rows_again c [] = refl
rows_again c (row ∷ rows) = λ i. take-append-drop c row i ∷ rows_again c rows i

pub parted_beside : (w : EWindow) (c : ℕ) → c ≤ w.cols → IsMatrix (content (before w c)) → IsMatrix (content (behind w c))
    → beside (content (before w c)) (content (behind w c)) ≡ content w
parted_beside w c within s t =
    let cols : c + (w.cols - c) ≡ w.cols = omega arith in
    sym (shown_beside w (before w c) (behind w c) c s t refl refl)
    ∙ (λ i. record (content w) { cols = cols i; entries = rows_again c w.entries i })
