-- A product by parts of the first factor's columns and the second's rows.
use Rattle.std.proofs.Common.{◌≡◌, ℕ, zero, suc, ◌+◌, ◌-◌, ◌*◌, ◌/◌, ◌%◌, ◌<◌, ◌≤◌, [], get_or, take, drop, map, refl, sym, ◌∙◌, ap, ap₂, arith, bit_xor}
use Rattle.std.specs.Int.Bits.{xor_assoc}
use Rattle.std.proofs.Math.Nat.{mul-add-mod_self_right, mod-add-div', zero-mod}
use Rattle.std.proofs.lemmas.List.{get_or-map, get_or-take, get_or-drop}
use Rattle.m4_model.specs.Field.{mul, sum_below}
use Rattle.m4_model.specs.Matrix.{Matrix, IsMatrix, row, at, table, added, product}
use Rattle.m4_model.proofs.FieldLemmas.{sum_below-same}
use Rattle.m4_model.proofs.SumLemmas.{sum_below-split}
use Rattle.m4_model.proofs.MatrixLemmas.{at-table, length-table, length-row-table, same_table}
use Rattle.m4_mzed.specs.EWindow.{EWindow, content, showing}

-- the parts of a matrix
abbrev pub first_rows : Matrix → ℕ → Matrix
first_rows A h = record A { rows = h; entries = take h A.entries }

abbrev pub other_rows : Matrix → ℕ → Matrix
other_rows A h = record A { rows = A.rows - h; entries = drop h A.entries }

abbrev pub first_cols : Matrix → ℕ → Matrix
first_cols A h = record A { cols = h; entries = map (take h) A.entries }

abbrev pub other_cols : Matrix → ℕ → Matrix
other_cols A h = record A { cols = A.cols - h; entries = map (drop h) A.entries }

at-first_cols : (A : Matrix) (h i j : ℕ) → IsMatrix A → i < A.rows → j < h → at (first_cols A h) i j ≡ at A i j
at-first_cols A h i j is below first =
    ap (λ l. get_or l j 0) (get_or-map (take h) A.entries i [] [] (omega (arith, is.height, below))) ∙ get_or-take h (row A i) j 0 first

at-other_cols : (A : Matrix) (h i j : ℕ) → IsMatrix A → i < A.rows → at (other_cols A h) i j ≡ at A i (h + j)
at-other_cols A h i j is below =
    ap (λ l. get_or l j 0) (get_or-map (drop h) A.entries i [] [] (omega (arith, is.height, below))) ∙ get_or-drop h (row A i) j 0

at-first_rows : (B : Matrix) (h i j : ℕ) → i < h → at (first_rows B h) i j ≡ at B i j
at-first_rows B h i j first = ap (λ l. get_or l j 0) (get_or-take h B.entries i [] first)

at-other_rows : (B : Matrix) (h i j : ℕ) → at (other_rows B h) i j ≡ at B (h + i) j
at-other_rows B h i j = ap (λ l. get_or l j 0) (get_or-drop h B.entries i [])

-- the product of the first columns and rows added, and that of the others
pub parts_added : (C A B : Matrix) (h : ℕ) → IsMatrix A → h ≤ A.cols → C.rows ≡ A.rows → C.cols ≡ B.cols
    → added (added C (product (first_cols A h) (first_rows B h))) (product (other_cols A h) (other_rows B h)) ≡ added C (product A B)
parts_added C A B h is within rows cols =
    ap (λ entries. record C { entries = entries })
    (same_table C.rows C.cols (λ i j. bit_xor (at C i j) (at (product A B) i j)) (table C.rows C.cols whole) (length-table C.rows C.cols whole)
    (λ i below. length-row-table C.rows C.cols whole i below)
    (λ i j below inside. at-table C.rows C.cols whole i j below inside ∙ entry i j below inside))
  where
    term : ℕ → ℕ → ℕ → ℕ
    term i j t = mul A.field (at A i t) (at B t j)

    first : ℕ → ℕ → ℕ
    first i j = bit_xor (at C i j) (at (product (first_cols A h) (first_rows B h)) i j)

    whole : ℕ → ℕ → ℕ
    whole i j = bit_xor (at (added C (product (first_cols A h) (first_rows B h))) i j) (at (product (other_cols A h) (other_rows B h)) i j)

    entry : (i j : ℕ) → i < C.rows → j < C.cols
        → bit_xor (at (added C (product (first_cols A h) (first_rows B h))) i j) (at (product (other_cols A h) (other_rows B h)) i j) ≡ bit_xor (at C i j) (at (product A B) i j)
    entry i j below inside =
        let in_a : i < A.rows = omega (arith, below, rows) in
        let in_b : j < B.cols = omega (arith, inside, cols) in
        let all : h + (A.cols - h) ≡ A.cols = omega (arith, within) in
        let one : at (product (first_cols A h) (first_rows B h)) i j ≡ sum_below h (λ t. mul A.field (at A i t) (at B t j))
        = at-table A.rows B.cols (λ i j. sum_below h (λ t. mul A.field (at (first_cols A h) i t) (at (first_rows B h) t j))) i j in_a in_b
        ∙ sum_below-same h _ _ (λ t less. ap₂ (mul A.field) (at-first_cols A h i t is in_a less) (at-first_rows B h t j less)) in
        let two : at (product (other_cols A h) (other_rows B h)) i j ≡ sum_below (A.cols - h) (λ t. mul A.field (at A i (h + t)) (at B (h + t) j))
        = at-table A.rows B.cols (λ i j. sum_below (A.cols - h) (λ t. mul A.field (at (other_cols A h) i t) (at (other_rows B h) t j))) i j in_a in_b
        ∙ sum_below-same (A.cols - h) _ _ (λ t less. ap₂ (mul A.field) (at-other_cols A h i t is in_a) (at-other_rows B h t j)) in
        ap₂ bit_xor (at-table C.rows C.cols (λ i j. bit_xor (at C i j) (at (product (first_cols A h) (first_rows B h)) i j)) i j below inside ∙ ap (bit_xor (at C i j)) one) two
        ∙ xor_assoc (at C i j) (sum_below h (λ t. mul A.field (at A i t) (at B t j))) (sum_below (A.cols - h) (λ t. mul A.field (at A i (h + t)) (at B (h + t) j)))
        ∙ ap (bit_xor (at C i j))
        (sym (sum_below-split h (A.cols - h) (λ t. mul A.field (at A i t) (at B t j)))
        ∙ ap (λ n. sum_below n (λ t. mul A.field (at A i t) (at B t j))) all
        ∙ sym (at-table A.rows B.cols (λ i j. sum_below A.cols (λ t. mul A.field (at A i t) (at B t j))) i j in_a in_b))

-- What is left to be added to a window: the product of the other columns and rows.
pub record IsLeft (first now : EWindow) (A B left below : Matrix) : Type 0 where
  pub kept : now ≡ showing first (content now)
  pub left_field : left.field ≡ now.field
  pub below_field : below.field ≡ now.field
  pub rows : left.rows ≡ now.rows
  pub inner : left.cols ≡ below.rows
  pub cols : below.cols ≡ now.cols
  pub sum : added (content now) (product left below) ≡ added (content first) (product A B)

pub all_left : (first : EWindow) (A B : Matrix) → A.field ≡ first.field → B.field ≡ first.field → A.rows ≡ first.rows → A.cols ≡ B.rows → B.cols ≡ first.cols → IsLeft first first A B A B
all_left first A B a b rows inner cols = record { kept = refl; left_field = a; below_field = b; rows = rows; inner = inner; cols = cols; sum = refl }

pub less_left : (first now next : EWindow) (A B left below columns others strip rest : Matrix) (h : ℕ) → IsMatrix left → h ≤ left.cols
    → columns ≡ first_cols left h → others ≡ other_cols left h → strip ≡ first_rows below h → rest ≡ other_rows below h
    → next ≡ showing now (added (content now) (product columns strip)) → IsLeft first now A B left below → IsLeft first next A B others rest
less_left first now next A B left below columns others strip rest h is within c o s r written so_far = record {
  kept = written ∙ ap (λ (v : EWindow). showing v (added (content now) (product columns strip))) so_far.kept ∙ ap (λ (M : Matrix). showing first M) (sym (ap content written));
  left_field = ap (λ (M : Matrix). M.field) o ∙ so_far.left_field ∙ sym (ap (λ (v : EWindow). v.field) written);
  below_field = ap (λ (M : Matrix). M.field) r ∙ so_far.below_field ∙ sym (ap (λ (v : EWindow). v.field) written);
  rows = ap (λ (M : Matrix). M.rows) o ∙ so_far.rows ∙ sym (ap (λ (v : EWindow). v.rows) written);
  inner = ap (λ (M : Matrix). M.cols) o ∙ ap (λ n. n - h) so_far.inner ∙ sym (ap (λ (M : Matrix). M.rows) r);
  cols = ap (λ (M : Matrix). M.cols) r ∙ so_far.cols ∙ sym (ap (λ (v : EWindow). v.cols) written);
  sum = (λ i. added (content (written i)) (product (o i) (r i))) ∙ (λ i. added (added (content now) (product (c i) (s i))) (product (other_cols left h) (other_rows below h)))
      ∙ parts_added (content now) left below h is within (sym so_far.rows) (sym so_far.cols)
      ∙ so_far.sum;
}

pub none_left : (first now next : EWindow) (A B left below : Matrix) → next ≡ showing now (added (content now) (product left below)) → IsLeft first now A B left below
    → next ≡ showing first (added (content first) (product A B))
none_left first now next A B left below written so_far =
    written ∙ ap (λ (v : EWindow). showing v (added (content now) (product left below))) so_far.kept ∙ ap (showing first) so_far.sum

-- so many columns of elements fill whole words
pub whole_strip : (w rows : ℕ) → 64 / w * w ≡ 64 → rows % 64 ≡ 0 → rows / w * w ≡ rows
whole_strip w rows whole words =
    let k : ℕ = rows / 64 * (64 / w) in
    let all : k * w + 0 ≡ rows = many (64 / w) (rows / 64) w whole (omega (arith, words)) in
    let none : rows % w ≡ 0 % w = ap (λ n. n % w) (sym all) ∙ mul-add-mod_self_right k w 0 in
    let nil : 0 % w ≡ 0 = zero-mod w in
    let split = mod-add-div' rows w in
    omega (arith, split, none, nil)
  where
    many : (a b w : ℕ) → a * w ≡ 64 → b * 64 ≡ rows → b * a * w + 0 ≡ rows
    many a b w one is = let m : b * a * w ≡ b * (a * w) = grind arith in omega (arith, m, ap (λ n. b * n) one, is)

-- rows that fit
pub strips_fit : (a b w room : ℕ) → a ≤ b → b * w ≡ room → a * w ≤ room
strips_fit a b w room less is = let m : a * w ≤ b * w = grind arith in omega (arith, m, is)

pub some_strip : (most w rows : ℕ) → most * w ≡ rows → 64 ≤ rows → 0 < most
some_strip zero w rows is some = let e : 0 * w ≡ 0 = omega arith in absurd (omega (arith, e, is, some))
some_strip (suc most) w rows is some = omega arith
