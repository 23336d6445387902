-- A row whose multiple by an entry clears the entry and leaves its factor, made of the row of a pivot and added to another row.
use Rattle.std.proofs.Common.{◌≡◌, ◌≢◌, ℕ, ◌+◌, ◌<◌, ◌≤◌, ⊎_elim, List, [], length, get_or, set, replicate, refl, sym, ◌∙◌, ap, ap₂, arith, bit_xor}
use Rattle.std.specs.Int.Bits.{xor_self, xor_zero_l, xor_zero_r, xor_assoc}
use Rattle.std.proofs.lemmas.Bool.{cases_lt, cases_eq}
use Rattle.std.proofs.lemmas.List.{ext_get_or, length-map, get_or-map, length-replicate, get_or-replicate, length-set, get_or-set_same, get_or-set_other}
use Rattle.m4_model.specs.Field.{Field, mul}
use Rattle.m4_model.specs.Matrix.{Matrix, IsMatrix, row, at, row_sum, with_row}
use Rattle.m4_model.proofs.FieldLaws.{FieldLaws}
use Rattle.m4_model.proofs.SumLemmas.{mul-zero_left, mul-xor_left}
use Rattle.m4_mzd.specs.Rows.{sum_from}
use Rattle.m4_mzd.proofs.RowLemmas.{length-row_sum, get_or-row_sum, length-sum_from, sum_from-before, sum_from-after}
use Rattle.m4_mzed.specs.EWindow.{EWindow, content, showing}
use Rattle.m4_mzed.specs.Rows.{multiples}
use Rattle.m4_ple.specs.Elimination.{cleared_entry, cleared_row}
use Rattle.m4_ple.proofs.Clearing.{length-cleared_row, get_or-cleared_row, cleared-none, cleared-factor, cleared-column, cleared-before, cleared-after}
use Rattle.m4_eple.specs.Clearing.{IsClearing}

-- a row of zeros to which a row's multiple by the inverse is added behind column c, with a one in column c
abbrev pub tail_of : Field → ℕ → ℕ → List ℕ → List ℕ
tail_of F inverse c xs = set (sum_from (c + 1) (replicate (length xs) 0) (multiples F inverse xs)) c 1

-- it clears, once the inverse is added in column r
pub clearing_made : (F : Field) (inverse r c : ℕ) (xs : List ℕ) → r ≤ c → c < length xs
    → IsClearing F inverse r c xs (set (tail_of F inverse c xs) r (bit_xor (get_or (tail_of F inverse c xs) r 0) inverse))
clearing_made F inverse r c xs behind within =
    let n = length xs in
    let zeros = replicate n 0 in
    let times : ℕ → ℕ = λ y. mul F y inverse in
    let added = multiples F inverse xs in
    let sum = sum_from (c + 1) zeros added in
    let tail = set sum c 1 in
    let made = set tail r (bit_xor (get_or tail r 0) inverse) in
    let zeros_long : length {A = ℕ} zeros ≡ n = length-replicate n 0 in
    let added_long : length added ≡ n = length-map xs times in
    let sum_long : length sum ≡ n = length-sum_from (c + 1) zeros added ∙ zeros_long in
    let tail_long : length tail ≡ n = length-set sum c 1 ∙ sum_long in
    let in_zeros : c + 1 ≤ length zeros = omega (arith, zeros_long, within) in
    let here : get_or tail c 0 ≡ 1 = get_or-set_same sum c 1 0 (omega (arith, sum_long, within)) in
    let early : (j : ℕ) → j < c → get_or tail j 0 ≡ 0
    = λ j before.
    get_or-set_other sum c j 1 0 (λ same. absurd (omega (arith, same, before)))
    ∙ sum_from-before (c + 1) j zeros added in_zeros (omega (arith, before)) ∙ get_or-replicate n j 0 0 (omega (arith, before, within)) in
    let written : get_or made r 0 ≡ bit_xor (get_or tail r 0) inverse = get_or-set_same tail r (bit_xor (get_or tail r 0) inverse) 0 (omega (arith, tail_long, behind, within)) in
    let kept : (j : ℕ) → j ≢ r → get_or made j 0 ≡ get_or tail j 0 = λ j other. get_or-set_other tail r j (bit_xor (get_or tail r 0) inverse) 0 other in
    record {
      long = length-set tail r (bit_xor (get_or tail r 0) inverse) ∙ tail_long;
      factor = λ apart. written ∙ ap (λ (x : ℕ). bit_xor x inverse) (early r (omega (arith, behind, apart))) ∙ xor_zero_l inverse;
      one = λ apart. kept c (λ same. apart (sym same)) ∙ here;
      both = λ same. ap (λ (j : ℕ). get_or made j 0) (sym same) ∙ written ∙ ap (λ (j : ℕ). bit_xor (get_or tail j 0) inverse) same ∙ ap (λ (x : ℕ). bit_xor x inverse) here;
      before = λ j before other. kept j other ∙ early j before;
      behind = λ j after inside.
          kept j (λ same. absurd (omega (arith, same, after, behind)))
          ∙ get_or-set_other sum c j 1 0 (λ same. absurd (omega (arith, same, after)))
          ∙ sum_from-after (c + 1) j zeros added (added_long ∙ sym zeros_long) in_zeros (omega (arith, after))
          ∙ ap₂ bit_xor (get_or-replicate n j 0 0 inside) (get_or-map times xs j 0 0 inside) ∙ xor_zero_l (times (get_or xs j 0));
    }

module _ (A : Matrix) (laws : FieldLaws A.field) (matrix : IsMatrix A) (inverse r c i : ℕ) (ys : List ℕ) (is : IsClearing A.field inverse r c (row A r) ys)
    (first : r < A.rows) (below : i < A.rows) (behind : r ≤ c) (within : c < A.cols) (blank : r < c → at A i r ≡ 0) where
  x : ℕ
  x = at A i c

  times : ℕ → ℕ
  times y = mul A.field y x

  -- an entry of the sum
  sum_at : ℕ → ℕ
  sum_at j = bit_xor (at A i j) (times (get_or ys j 0))

  zero_added : (j : ℕ) → get_or ys j 0 ≡ 0 → sum_at j ≡ at A i j
  unfolding sum_at times
  zero_added j zero = ap (λ (y : ℕ). bit_xor (at A i j) (mul A.field y x)) zero ∙ ap (bit_xor (at A i j)) (mul-zero_left A.field laws x) ∙ xor_zero_r (at A i j)

  -- a row with a zero in the column stays
  none_added : (j : ℕ) → x ≡ 0 → sum_at j ≡ at A i j
  unfolding sum_at times
  none_added j none = ap (λ (y : ℕ). bit_xor (at A i j) (mul A.field (get_or ys j 0) y)) none ∙ ap (bit_xor (at A i j)) (laws.annihilates (get_or ys j 0)) ∙ xor_zero_r (at A i j)

  one_times : times 1 ≡ x
  unfolding times x
  one_times = laws.unit x (matrix.elements i c below within)

  -- the factor
  left_factor : r ≡ c → sum_at r ≡ mul A.field x inverse
  unfolding sum_at times x
  left_factor same =
      ap₂ (λ (k : ℕ) (y : ℕ). bit_xor (at A i k) (times y)) same (ap (λ (k : ℕ). get_or ys k 0) same ∙ is.both same)
      ∙ ap (bit_xor x) (mul-xor_left A.field laws 1 inverse x ∙ ap (λ (y : ℕ). bit_xor y (times inverse)) one_times)
      ∙ sym (xor_assoc x x (times inverse)) ∙ ap (λ (y : ℕ). bit_xor y (times inverse)) (xor_self x) ∙ xor_zero_l (times inverse) ∙ laws.comm inverse x

  right_factor : r < c → sum_at r ≡ mul A.field x inverse
  unfolding sum_at times x
  right_factor left =
      ap₂ (λ (a y : ℕ). bit_xor a (times y)) (blank left) (is.factor (λ same. absurd (omega (arith, same, left))))
      ∙ xor_zero_l (times inverse) ∙ laws.comm inverse x

  -- each entry
  same_entry : (j : ℕ) → j < A.cols → sum_at j ≡ cleared_entry inverse r c A i j
  unfolding sum_at times x
  same_entry j in_cols = ⊎_elim
      (λ (none : x ≡ 0). none_added j none ∙ sym (cleared-none inverse r c A i j none))
      (λ (some : x ≢ 0). ⊎_elim
      (λ (here : j ≡ r). ap sum_at here ∙ (⊎_elim
      (λ (left : r < c). right_factor left)
      (λ (over : c ≤ r). left_factor (omega (arith, over, behind)))
      (cases_lt r c)) ∙ sym (cleared-factor inverse r c A i some j here))
      (λ (other : j ≢ r). ⊎_elim
      (λ (column : j ≡ c).
      ap sum_at column ∙ ap (λ (y : ℕ). bit_xor x (times y)) (is.one (λ same. other (column ∙ sym same))) ∙ ap (bit_xor x) one_times ∙ xor_self x
      ∙ sym (cleared-column inverse r c A i some j other column))
      (λ (not_column : j ≢ c). ⊎_elim
      (λ (before : j < c). zero_added j (is.before j before other) ∙ sym (cleared-before inverse r c A i some j other before))
      (λ (from : c ≤ j).
      let wide = matrix.width r first in
      let after : c < j = omega (arith, from, not_column) in
      ap (λ (y : ℕ). bit_xor (at A i j) (times y)) (is.behind j after (omega (arith, in_cols, wide)))
      ∙ ap (bit_xor (at A i j)) (laws.assoc (at A r j) inverse x ∙ ap (mul A.field (at A r j)) (laws.comm inverse x))
      ∙ sym (cleared-after inverse r c A i some j other after))
      (cases_lt j c))
      (cases_eq j c))
      (cases_eq j r))
      (cases_eq x 0)

  -- the multiple by the entry, added to the whole row, clears it
  pub cleared_by_multiple : row_sum (row A i) (multiples A.field (at A i c) ys) ≡ cleared_row inverse r c A i
  unfolding sum_at times x
  cleared_by_multiple =
      let added = multiples A.field x ys in
      let wide = matrix.width i below in
      let wide_first = matrix.width r first in
      let long = is.long in
      let added_long : length added ≡ length ys = length-map ys times in
      let sum_long = length-row_sum (row A i) added in
      let cleared_long = length-cleared_row inverse r c A i in
      ext_get_or 0 _ _ (omega (arith, sum_long, cleared_long, wide)) (λ j inside.
      let in_cols : j < A.cols = omega (arith, inside, sum_long, wide) in
      get_or-row_sum (row A i) added j (omega (arith, added_long, long, wide, wide_first))
      ∙ ap (bit_xor (at A i j)) (get_or-map times ys j 0 0 (omega (arith, in_cols, long, wide_first)))
      ∙ same_entry j in_cols
      ∙ sym (get_or-cleared_row inverse r c A i j in_cols))

-- a row is cleared alike in a matrix with the same two rows
pub cleared_row-same : (inverse r c : ℕ) (A B : Matrix) (i : ℕ) → B.field ≡ A.field → B.cols ≡ A.cols → row B i ≡ row A i → row B r ≡ row A r
    → cleared_row inverse r c A i ≡ cleared_row inverse r c B i
cleared_row-same inverse r c A B i over wide own first =
    ext_get_or 0 _ _ (length-cleared_row inverse r c A i ∙ sym wide ∙ sym (length-cleared_row inverse r c B i)) (λ j inside.
    let long = length-cleared_row inverse r c A i in
    get_or-cleared_row inverse r c A i j (omega (arith, inside, long))
    ∙ sym (get_or-cleared_row inverse r c B i j (omega (arith, inside, long, wide)) ∙ rw (over, own, first) refl))

-- a window with one row written: that row, how many there are, and that all else stays
pub row_written : (W V : EWindow) (i : ℕ) (xs : List ℕ) → V ≡ showing W (with_row (content W) i xs) → i < length W.entries → row (content V) i ≡ xs
row_written W V i xs made below = ap (λ (w : EWindow). row (content w) i) made ∙ get_or-set_same W.entries i xs [] below

pub rows_written : (W V : EWindow) (i : ℕ) (xs : List ℕ) → V ≡ showing W (with_row (content W) i xs) → length V.entries ≡ length W.entries
rows_written W V i xs made = ap (λ (w : EWindow). length w.entries) made ∙ length-set W.entries i xs

pub still_showing : (W V U : EWindow) (rows : List (List ℕ)) → V ≡ showing W (content V) → U ≡ record V { entries = rows } → U ≡ showing W (content U)
still_showing W V U rows kept made =
    let all : U ≡ record W { entries = rows } = made ∙ ap (λ (w : EWindow). record w { entries = rows }) kept in
    all ∙ sym (ap (λ (w : EWindow). showing W (content w)) all)
