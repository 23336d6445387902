-- Rows that are added and rows that are placed in others, as rows of the matrices that they make.
use Rattle.std.proofs.Common.{◌≡◌, ℕ, ◌+◌, ◌-◌, ◌<◌, ◌≤◌, inl, inr, true, false, cond, ◌&&◌, List, [], ◌++◌, length, get_or, drop, refl, sym, ◌∙◌, ap, arith, bit_xor}
use Rattle.std.specs.Prelude.{nat_lt, nat_le}
use Rattle.std.proofs.lemmas.Bool.{cases_lt, cond-true, cond-false, lt-ltb, le-ltb, le-leb, lt-leb}
use Rattle.std.proofs.lemmas.List.{length-append, get_or-take, get_or-drop, get_or_append_left, get_or-append_right, ext_get_or}
use Rattle.m4_model.specs.Field.{gf2}
use Rattle.m4_model.specs.Matrix.{Matrix, IsMatrix, row, at, table, row_sum, added}
use Rattle.m4_model.specs.Shapes.{above, beside, cut, replace}
use Rattle.m4_model.proofs.MatrixLemmas.{length-table, length-row-table, at-table, same_table, same_matrix, same_parts}
use Rattle.m4_bits.proofs.BitsLemmas.{length-row_sum, get_or-row_sum}
use Rattle.m4_mzd.specs.Window.{Window, content, showing}
use Rattle.m4_mzd.specs.Rows.{sum_from}
use Rattle.m4_mzd.specs.Parts.{part, with_part}
use Rattle.m4_mzd.proofs.PairLemmas.{upper, lower, stacked, rejoined}
use Rattle.m4_mzd.proofs.PlaceLemmas.{length-part, length-with_part, get_or-with_part_before, get_or-with_part_within, get_or-with_part_past}

-- tables with the same entries are equal
pub table_same : (m n : ℕ) (g h : ℕ → ℕ → ℕ) → ((i j : ℕ) → i < m → j < n → g i j ≡ h i j) → table m n g ≡ table m n h
table_same m n g h same =
    same_table m n h (table m n g) (length-table m n g) (λ i below. length-row-table m n g i below)
    (λ i j below within. at-table m n g i j below within ∙ same i j below within)

-- a row is that of a table, by its entries
row_of_table : (m n : ℕ) (g : ℕ → ℕ → ℕ) (i : ℕ) (entries : List ℕ) → i < m → length entries ≡ n → ((j : ℕ) → j < n → get_or entries j 0 ≡ g i j)
    → entries ≡ get_or (table m n g) i []
row_of_table m n g i entries below long same =
    ext_get_or 0 entries (get_or (table m n g) i []) (long ∙ sym (length-row-table m n g i below)) (λ j within.
    let inside : j < n = omega (arith, long) in same j inside ∙ sym (at-table m n g i j below inside))

-- a row of a sum
pub row_of_sum : (A B : Matrix) (r : ℕ) → IsMatrix A → IsMatrix B → B.rows ≡ A.rows → B.cols ≡ A.cols → r < A.rows
    → sum_from 0 (row A r) (row B r) ≡ get_or (added A B).entries r []
row_of_sum A B r is is_other rows cols below =
    let mine : length (row A r) ≡ A.cols = is.width r below in
    let theirs : length (row B r) ≡ B.cols = is_other.width r (omega arith) in
    row_of_table A.rows A.cols (λ i j. bit_xor (at A i j) (at B i j)) r (row_sum (row A r) (row B r)) below
    (length-row_sum (row A r) (row B r) ∙ mine)
    (λ j within. get_or-row_sum (row A r) (row B r) j (omega arith))

-- inside the columns of a rectangle that stands in all rows, and outside them
inside : (r m c n j : ℕ) → r < m → c ≤ j → j < c + n → ((nat_le 0 r && nat_lt r (0 + m)) && (nat_le c j && nat_lt j (c + n))) ≡ true
inside r m c n j below from within =
    rw (le-leb 0 r (omega arith), lt-ltb r (0 + m) (omega arith), le-leb c j from, lt-ltb j (c + n) within) refl

before : (r m c n j : ℕ) → r < m → j < c → ((nat_le 0 r && nat_lt r (0 + m)) && (nat_le c j && nat_lt j (c + n))) ≡ false
before r m c n j below first =
    rw (le-leb 0 r (omega arith), lt-ltb r (0 + m) (omega arith), lt-leb c j first) refl

past : (r m c n j : ℕ) → r < m → c ≤ j → c + n ≤ j → ((nat_le 0 r && nat_lt r (0 + m)) && (nat_le c j && nat_lt j (c + n))) ≡ false
past r m c n j below from after =
    rw (le-leb 0 r (omega arith), lt-ltb r (0 + m) (omega arith), le-leb c j from, le-ltb j (c + n) after) refl

-- the entries of a matrix whose columns from c on are those of another
abbrev pub placed : Matrix → Matrix → ℕ → ℕ → ℕ → ℕ
placed A W c i j = cond ((nat_le 0 i && nat_lt i (0 + W.rows)) && (nat_le c j && nat_lt j (c + W.cols))) (at W (i - 0) (j - c)) (at A i j)

module _ (A W : Matrix) (c i j : ℕ) (rows : W.rows ≡ A.rows) (below : i < A.rows) where
  pub placed_inside : c ≤ j → j < c + W.cols → placed A W c i j ≡ at W i (j - c)
  placed_inside from within =
      cond-true _ _ _ (inside i W.rows c W.cols j (omega arith) from within) ∙ (let e : i - 0 ≡ i = omega arith in ap (λ k. at W k (j - c)) e)

  pub placed_before : j < c → placed A W c i j ≡ at A i j
  placed_before first = cond-false _ _ _ (before i W.rows c W.cols j (omega arith) first)

  pub placed_past : c ≤ j → c + W.cols ≤ j → placed A W c i j ≡ at A i j
  placed_past from after = cond-false _ _ _ (past i W.rows c W.cols j (omega arith) from after)

-- a row with a part of another in it
pub row_of_placed : (A B : Matrix) (c r0 c0 n r : ℕ) → IsMatrix A → IsMatrix B → r < A.rows → c + n ≤ A.cols → r0 + A.rows ≤ B.rows → c0 + n ≤ B.cols
    → with_part c (part c0 n (row B (r0 + r))) (row A r) ≡ get_or (replace A 0 c (cut B r0 c0 (r0 + A.rows) (c0 + n))).entries r []
row_of_placed A B c r0 c0 n r is is_other below room rows cols =
    let W = cut B r0 c0 (r0 + A.rows) (c0 + n) in
    let high : W.rows ≡ A.rows = omega arith in
    let wide : W.cols ≡ n = omega arith in
    let xs = row A r in
    let ys = part c0 n (row B (r0 + r)) in
    let mine : length xs ≡ A.cols = is.width r below in
    let theirs : length (row B (r0 + r)) ≡ B.cols = is_other.width (r0 + r) (omega arith) in
    let many : length ys ≡ n = length-part c0 n (row B (r0 + r)) (omega arith) in
    let fits : c + length ys ≤ length xs = omega arith in
    row_of_table A.rows A.cols (λ i j. placed A W c i j) r (with_part c ys xs) below (length-with_part c ys xs fits ∙ mine)
    (λ j within. elim (cases_lt j c) [
      | inl first ↦ get_or-with_part_before c ys xs fits j first ∙ sym (placed_before A W c r j high below first)
      | inr from ↦ elim (cases_lt j (c + n)) [
        | inl inner ↦
            get_or-with_part_within c ys xs fits j from (omega arith)
            ∙ get_or-take n (drop c0 (row B (r0 + r))) (j - c) 0 (omega arith) ∙ get_or-drop c0 (row B (r0 + r)) (j - c) 0
            ∙ sym (placed_inside A W c r j high below from (omega arith)
            ∙ at-table W.rows W.cols (λ i k. at B (r0 + i) (c0 + k)) r (j - c) (omega arith) (omega arith))
        | inr after ↦ get_or-with_part_past c ys xs fits j (omega arith) ∙ sym (placed_past A W c r j high below from (omega arith))
      ]
    ])

-- ---- a window with columns of another matrix in it
abbrev pub laid : Window → ℕ → Matrix → ℕ → ℕ → ℕ → Window
laid w c B r0 c0 n = showing w (replace (content w) 0 c (cut B r0 c0 (r0 + w.rows) (c0 + n)))

module _ (w : Window) (c : ℕ) (B : Matrix) (r0 c0 n : ℕ) where
  abbrev W : Matrix
  W = cut B r0 c0 (r0 + w.rows) (c0 + n)

  pub length-laid : length (laid w c B r0 c0 n).bits ≡ w.rows
  length-laid = length-table w.rows w.cols (placed (content w) W c)

  pub length-row-laid : (i : ℕ) → i < w.rows → length (row (content (laid w c B r0 c0 n)) i) ≡ w.cols
  length-row-laid i below = length-row-table w.rows w.cols (placed (content w) W c) i below

  high : W.rows ≡ w.rows
  high = omega arith

  wide : W.cols ≡ n
  wide = omega arith

  pub at-laid_inside : (i j : ℕ) → i < w.rows → j < w.cols → c ≤ j → j < c + n → at (content (laid w c B r0 c0 n)) i j ≡ at B (r0 + i) (c0 + (j - c))
  at-laid_inside i j below within from inner =
      at-table w.rows w.cols (placed (content w) W c) i j below within
      ∙ placed_inside (content w) W c i j high below from (omega (arith, wide))
      ∙ at-table W.rows W.cols (λ i k. at B (r0 + i) (c0 + k)) i (j - c) (omega (arith, high)) (omega (arith, wide))

  pub at-laid_before : (i j : ℕ) → i < w.rows → j < w.cols → j < c → at (content (laid w c B r0 c0 n)) i j ≡ at (content w) i j
  at-laid_before i j below within first =
      at-table w.rows w.cols (placed (content w) W c) i j below within ∙ placed_before (content w) W c i j high below first

-- a rectangle in a matrix of its shape
pub whole_laid : (w : Window) (B : Matrix) (r0 c0 r1 c1 : ℕ) → B.field ≡ gf2 → r0 ≤ r1 → c0 ≤ c1 → w.rows ≡ r1 - r0 → w.cols ≡ c1 - c0
    → content (laid w 0 B r0 c0 (c1 - c0)) ≡ cut B r0 c0 r1 c1
whole_laid w B r0 c0 r1 c1 field down across rows cols =
    let now = laid w 0 B r0 c0 (c1 - c0) in
    same_matrix B.field (r1 - r0) (c1 - c0) (λ i j. at B (r0 + i) (c0 + j)) (content now) (sym field) rows cols
    (length-laid w 0 B r0 c0 (c1 - c0) ∙ rows)
    (λ i below. length-row-laid w 0 B r0 c0 (c1 - c0) i (omega arith) ∙ cols)
    (λ i j below within.
    at-laid_inside w 0 B r0 c0 (c1 - c0) i j (omega arith) (omega arith) (omega arith) (omega arith) ∙ (let e : j - 0 ≡ j = omega arith in ap (λ k. at B (r0 + i) (c0 + k)) e))

-- two matrices side by side
pub both_laid : (w one : Window) (A B : Matrix) → A.field ≡ gf2 → w.rows ≡ A.rows → w.cols ≡ A.cols + B.cols → one ≡ laid w 0 A 0 0 A.cols
    → content (laid one A.cols B 0 0 B.cols) ≡ beside A B
both_laid w one A B field rows cols is =
    rw is
    (let first = laid w 0 A 0 0 A.cols in
    let now = laid first A.cols B 0 0 B.cols in
    same_matrix A.field A.rows (A.cols + B.cols) (λ i j. cond (nat_lt j A.cols) (at A i j) (at B i (j - A.cols))) (content now) (sym field) rows cols
    (length-laid first A.cols B 0 0 B.cols ∙ rows)
    (λ i below. length-row-laid first A.cols B 0 0 B.cols i (omega arith) ∙ cols)
    (λ i j below within. elim (cases_lt j A.cols) [
      | inl left ↦
          at-laid_before first A.cols B 0 0 B.cols i j (omega arith) (omega arith) left
          ∙ at-laid_inside w 0 A 0 0 A.cols i j (omega arith) (omega arith) (omega arith) (omega arith)
          ∙ (let e : 0 + i ≡ i = omega arith in let f : 0 + (j - 0) ≡ j = omega arith in λ q. at A (e q) (f q))
          ∙ sym (cond-true _ _ _ (lt-ltb j A.cols left))
      | inr right ↦
          at-laid_inside first A.cols B 0 0 B.cols i j (omega arith) (omega arith) right (omega arith)
          ∙ (let e : 0 + i ≡ i = omega arith in let f : 0 + (j - A.cols) ≡ j - A.cols = omega arith in λ q. at B (e q) (f q))
          ∙ sym (cond-false _ _ _ (le-ltb j A.cols right))
    ]))

-- one matrix over another
entries_above : (A B : Matrix) → IsMatrix A → IsMatrix B → B.cols ≡ A.cols → A.entries ++ B.entries ≡ (above A B).entries
entries_above A B is is_other cols =
    let upper : (i : ℕ) → i < A.rows → get_or (A.entries ++ B.entries) i [] ≡ row A i =
    λ i below. get_or_append_left A.entries B.entries [] i (omega (arith, is.height)) in
    let lower : (i : ℕ) → A.rows ≤ i → get_or (A.entries ++ B.entries) i [] ≡ row B (i - A.rows) =
    λ i past. get_or-append_right A.entries B.entries A.rows i [] is.height past in
    same_table (A.rows + B.rows) A.cols (λ i j. cond (nat_lt i A.rows) (at A i j) (at B (i - A.rows) j)) (A.entries ++ B.entries)
    (omega (arith, length-append A.entries B.entries, is.height, is_other.height))
    (λ i below. elim (cases_lt i A.rows) [
      | inl first ↦ ap length (upper i first) ∙ is.width i first
      | inr second ↦ ap length (lower i second) ∙ (is_other.width (i - A.rows) (omega arith) ∙ cols)
    ])
    (λ i j below within. elim (cases_lt i A.rows) [
      | inl first ↦ ap (λ l. get_or l j 0) (upper i first) ∙ sym (cond-true _ _ _ (lt-ltb i A.rows first))
      | inr second ↦ ap (λ l. get_or l j 0) (lower i second) ∙ sym (cond-false _ _ _ (le-ltb i A.rows second))
    ])

pub stacked_is : (w top bottom whole : Window) (A B : Matrix) → IsMatrix A → IsMatrix B → B.cols ≡ A.cols → A.rows ≤ w.rows
    → top ≡ showing (upper w A.rows) A → bottom ≡ showing (lower w A.rows) B → whole ≡ stacked top bottom → whole ≡ showing w (above A B)
stacked_is w top bottom whole A B is is_other cols within up down joined =
    joined ∙ (λ i. stacked (up i) (down i)) ∙ rejoined w A.rows (A.entries ++ B.entries) (above A B).entries within (entries_above A B is is_other cols)

-- a window of a matrix's shape that shows it
pub content_showing : (w : Window) (A : Matrix) → A.field ≡ gf2 → w.rows ≡ A.rows → w.cols ≡ A.cols → content (showing w A) ≡ A
content_showing w A field rows cols = same_parts (content (showing w A)) A (sym field) rows cols refl
