-- A row that is cleared in one column by the row of the pivot, and the rows below the pivot, one by one.
use Rattle.std.proofs.Common.{[], Bool, true, false, ◌≡◌, ◌≢◌, ℕ, inl, inr, nat_lt, ◌&&◌, if◌then◌else◌, ◌+◌, ◌<◌, ◌≤◌, ◌⊎◌, ⊎_elim, refl, sym, ◌∙◌, ap, arith, List, length, get_or, set, bit_xor}
use Rattle.std.proofs.lemmas.Bool.{cases_lt, cases_eq, eq-eqb, ne_eqb, lt-ltb, le-ltb}
use Rattle.std.proofs.lemmas.List.{ext_get_or, length-map, get_or-map, length-set, get_or-set_same, get_or-set_other, set-set, set-get_or}
use Rattle.std.proofs.lemmas.List.FromFn.{length-map-range_with_len, get_or-map-range_with_len}
use Rattle.m4_model.specs.Field.{mul}
use Rattle.m4_model.specs.Matrix.{Matrix, IsMatrix, row, at, with_row, with_entry}
use Rattle.m4_model.proofs.MatrixLemmas.{at-table, length-row-table, same_matrix}
use Rattle.m4_mzd.specs.Rows.{sum_from}
use Rattle.m4_mzd.proofs.RowLemmas.{with_row-matrix_of}
pub use Rattle.m4_mzd.proofs.RowLemmas.{length-sum_from, sum_from-before, sum_from-after}
use Rattle.m4_mzed.specs.Rows.{multiples}
use Rattle.m4_ple.specs.Elimination.{factor_of, cleared_entry, cleared_row, cleared}

module _ (inverse r c : ℕ) (W : Matrix) (i : ℕ) where
  pub length-cleared_row : length (cleared_row inverse r c W i) ≡ W.cols
  length-cleared_row = length-map-range_with_len (cleared_entry inverse r c W i) 0 W.cols

  pub get_or-cleared_row : (j : ℕ) → j < W.cols → get_or (cleared_row inverse r c W i) j 0 ≡ cleared_entry inverse r c W i j
  get_or-cleared_row j within = get_or-map-range_with_len (cleared_entry inverse r c W i) 0 W.cols j j 0 within (omega arith)

  -- a row with a zero in the column stays
  pub cleared-none : (j : ℕ) → at W i c ≡ 0 → cleared_entry inverse r c W i j ≡ at W i j
  cleared-none j none = rw (eq-eqb (at W i c) 0 none) refl

  module _ (some : at W i c ≢ 0) where
    -- the factor
    pub cleared-factor : (j : ℕ) → j ≡ r → cleared_entry inverse r c W i j ≡ factor_of inverse c W i
    cleared-factor j here = rw (ne_eqb (at W i c) 0 some, eq-eqb j r here) refl

    -- the column is cleared
    pub cleared-column : (j : ℕ) → j ≢ r → j ≡ c → cleared_entry inverse r c W i j ≡ 0
    cleared-column j other here = rw (ne_eqb (at W i c) 0 some, ne_eqb j r other, eq-eqb j c here) refl

    -- before it nothing changes
    pub cleared-before : (j : ℕ) → j ≢ r → j < c → cleared_entry inverse r c W i j ≡ at W i j
    cleared-before j other before =
        rw (ne_eqb (at W i c) 0 some, ne_eqb j r other, ne_eqb j c (λ same. absurd (omega (arith, same, before))), lt-ltb j c before) refl

    -- behind it the multiple of row r is added
    pub cleared-after : (j : ℕ) → j ≢ r → c < j
        → cleared_entry inverse r c W i j ≡ bit_xor (at W i j) (mul W.field (at W r j) (factor_of inverse c W i))
    cleared-after j other after =
        rw (ne_eqb (at W i c) 0 some, ne_eqb j r other, ne_eqb j c (λ same. absurd (omega (arith, same, after))), le-ltb j c (omega (arith, after))) refl

  -- the calls that clear the row
  pub cleared_row-made : IsMatrix W → i < W.rows → r < W.rows → c < W.cols → r ≤ c → at W i c ≢ 0
      → set (set (sum_from (c + 1) (row W i) (multiples W.field (factor_of inverse c W i) (row W r))) c 0) r (factor_of inverse c W i)
      ≡ cleared_row inverse r c W i
  cleared_row-made matrix below first within behind some =
      let wide = matrix.width i below in
      let wide_first = matrix.width r first in
      let factor = factor_of inverse c W i in
      let added = multiples W.field factor (row W r) in
      let wide_added : length added ≡ W.cols = length-map (row W r) (λ (y : ℕ). mul W.field y factor) ∙ wide_first in
      let sum = sum_from (c + 1) (row W i) added in
      let long : length (set (set sum c 0) r factor) ≡ W.cols
      = length-set (set sum c 0) r factor ∙ length-set sum c 0 ∙ length-sum_from (c + 1) (row W i) added ∙ wide in
      let long_sum : length sum ≡ W.cols = length-sum_from (c + 1) (row W i) added ∙ wide in
      let long_set : length (set sum c 0) ≡ W.cols = length-set sum c 0 ∙ long_sum in
      ext_get_or 0 _ _ (long ∙ sym length-cleared_row) (λ j inside.
      let in_cols : j < W.cols = omega (arith, inside, long) in
      (⊎_elim
      (λ (here : j ≡ r). rw here (get_or-set_same (set sum c 0) r factor 0 (omega (arith, long_set, behind, within))) ∙ sym (cleared-factor some j here))
      (λ (other : j ≢ r). get_or-set_other (set sum c 0) r j factor 0 other ∙ (⊎_elim
      (λ (column : j ≡ c). rw column (get_or-set_same sum c 0 0 (omega (arith, long_sum, within))) ∙ sym (cleared-column some j other column))
      (λ (not_column : j ≢ c). get_or-set_other sum c j 0 0 not_column ∙ (⊎_elim
      (λ (before : j < c). sum_from-before (c + 1) j (row W i) added (omega (arith, wide, within)) (omega (arith, before)) ∙ sym (cleared-before some j other before))
      (λ (from : c ≤ j).
      let after : c < j = omega (arith, from, not_column) in
      sum_from-after (c + 1) j (row W i) added (wide_added ∙ sym wide) (omega (arith, wide, within)) (omega (arith, after))
      ∙ ap (bit_xor (at W i j)) (get_or-map (λ (y : ℕ). mul W.field y factor) (row W r) j 0 0 (omega (arith, wide_first, in_cols)))
      ∙ sym (cleared-after some j other after))
      (cases_lt j c)))
      (cases_eq j c)))
      (cases_eq j r))
      ∙ sym (get_or-cleared_row j in_cols))

  -- a row that has nothing to clear
  pub cleared_row-none : IsMatrix W → i < W.rows → at W i c ≡ 0 → row W i ≡ cleared_row inverse r c W i
  cleared_row-none matrix below none =
      let wide = matrix.width i below in
      ext_get_or 0 _ _ (wide ∙ sym length-cleared_row) (λ j inside.
      sym (get_or-cleared_row j (omega (arith, inside, wide)) ∙ cleared-none j none))

-- the entries while the rows below the pivot are cleared
cleared_to : ℕ → ℕ → ℕ → Matrix → ℕ → ℕ → ℕ → ℕ
cleared_to inverse r c W k i j = if nat_lt r i && nat_lt i k then cleared_entry inverse r c W i j else at W i j

module _ (inverse r c : ℕ) (W : Matrix) where
  -- a row that isn't reached yet
  to-other : (k i j : ℕ) → (i ≤ r) ⊎ (k ≤ i) → cleared_to inverse r c W k i j ≡ at W i j
  unfolding cleared_to
  to-other k i j side = from_tests (nat_lt r i) (nat_lt i k) (⊎_elim (λ (high : i ≤ r). inl (le-ltb r i high)) (λ (past : k ≤ i). inr (le-ltb i k past)) side)
    where
      from_tests : (a b : Bool) → (a ≡ false) ⊎ (b ≡ false) → (if a && b then cleared_entry inverse r c W i j else at W i j) ≡ at W i j
      from_tests a b (inl none) = rw none refl
      from_tests true b (inr none) = rw none refl
      from_tests false b (inr none) = refl

  -- a row that is
  to-row : (k i j : ℕ) → r < i → i < k → cleared_to inverse r c W k i j ≡ cleared_entry inverse r c W i j
  unfolding cleared_to
  to-row k i j below before = rw (lt-ltb r i below, lt-ltb i k before) refl

  pub at-cleared_other : (k i j : ℕ) → i < W.rows → j < W.cols → (i ≤ r) ⊎ (k ≤ i) → at (cleared inverse r c k W) i j ≡ at W i j
  unfolding cleared_to
  at-cleared_other k i j in_rows in_cols side = at-table W.rows W.cols (cleared_to inverse r c W k) i j in_rows in_cols ∙ to-other k i j side

  pub at-cleared_row : (k i j : ℕ) → i < W.rows → j < W.cols → r < i → i < k → at (cleared inverse r c k W) i j ≡ cleared_entry inverse r c W i j
  unfolding cleared_to
  at-cleared_row k i j in_rows in_cols below before = at-table W.rows W.cols (cleared_to inverse r c W k) i j in_rows in_cols ∙ to-row k i j below before

  pub row-cleared_other : IsMatrix W → (k i : ℕ) → i < W.rows → (i ≤ r) ⊎ (k ≤ i) → row (cleared inverse r c k W) i ≡ row W i
  unfolding cleared_to
  row-cleared_other matrix k i below side =
      let long = length-row-table W.rows W.cols (cleared_to inverse r c W k) i below in
      ext_get_or 0 _ _ (long ∙ sym (matrix.width i below)) (λ j inside. at-cleared_other k i j below (omega (arith, inside, long)) side)

  -- no row is cleared at first
  pub cleared-start : IsMatrix W → W ≡ cleared inverse r c (r + 1) W
  unfolding cleared_to
  cleared-start matrix =
      same_matrix W.field W.rows W.cols (cleared_to inverse r c W (r + 1)) W refl refl refl matrix.height matrix.width (λ i j in_rows in_cols.
      sym (to-other (r + 1) i j (⊎_elim (λ (high : i < r + 1). inl (omega (arith, high))) (λ (low : r + 1 ≤ i). inr low) (cases_lt i (r + 1)))))

  -- an entry of a row is cleared alike in a matrix with the same two rows
  cleared_entry-same : (V : Matrix) (i j : ℕ) → V.field ≡ W.field → c < W.cols → j < W.cols → ((j : ℕ) → j < W.cols → at V i j ≡ at W i j)
      → ((j : ℕ) → j < W.cols → at V r j ≡ at W r j) → cleared_entry inverse r c V i j ≡ cleared_entry inverse r c W i j
  cleared_entry-same V i j over column within own first = rw (over, own c column, own j within, first j within) refl

  -- one row more
  pub cleared-more : (i : ℕ) → r < i → i < W.rows → c < W.cols
      → with_row (cleared inverse r c i W) i (cleared_row inverse r c (cleared inverse r c i W) i) ≡ cleared inverse r c (i + 1) W
  unfolding cleared_to
  cleared-more k below in_rows column =
      sym (with_row-matrix_of W.field W.rows W.cols (cleared_to inverse r c W k) (cleared_to inverse r c W (k + 1)) k (cleared_row inverse r c (cleared inverse r c k W) k)
      in_rows (length-cleared_row inverse r c (cleared inverse r c k W) k)
      (λ j within.
      get_or-cleared_row inverse r c (cleared inverse r c k W) k j within
      ∙ cleared_entry-same (cleared inverse r c k W) k j refl column within
      (λ j inside. at-cleared_other k k j in_rows inside (inr (omega arith)))
      (λ j inside. at-cleared_other k r j (omega (arith, below, in_rows)) inside (inl (omega arith)))
      ∙ sym (to-row (k + 1) k j below (omega arith)))
      (λ i j in_rows in_cols away. ⊎_elim
      (λ (low : r < i). ⊎_elim
      (λ (done : i < k). to-row (k + 1) i j low (omega (arith, done)) ∙ sym (to-row k i j low done))
      (λ (later : k ≤ i). to-other (k + 1) i j (inr (omega (arith, later, away))) ∙ sym (to-other k i j (inr later)))
      (cases_lt i k))
      (λ (high : i ≤ r). to-other (k + 1) i j (inl high) ∙ sym (to-other k i j (inl high)))
      (cases_lt r i)))

-- a matrix with one row written three times is written once
pub written_thrice : (A : Matrix) (i c r x : ℕ) (entries : List ℕ) → IsMatrix A → i < A.rows
    → with_entry (with_entry (with_row A i entries) i c 0) i r x ≡ with_row A i (set (set entries c 0) r x)
written_thrice A i c r x entries matrix below =
    let height = matrix.height in
    let inside : i < length A.entries = omega (arith, below, height) in
    let first : row (with_row A i entries) i ≡ entries = get_or-set_same A.entries i entries [] inside in
    let second : with_entry (with_row A i entries) i c 0 ≡ with_row A i (set entries c 0)
    = ap (λ (xs : List ℕ). with_row (with_row A i entries) i (set xs c 0)) first ∙ ap (λ (rows : List (List ℕ)). record A { entries = rows }) (set-set A.entries i entries (set entries c 0)) in
    ap (λ (B : Matrix). with_entry B i r x) second
    ∙ ap (λ (xs : List ℕ). with_row (with_row A i (set entries c 0)) i (set xs r x)) (get_or-set_same A.entries i (set entries c 0) [] inside)
    ∙ ap (λ (rows : List (List ℕ)). record A { entries = rows }) (set-set A.entries i (set entries c 0) (set (set entries c 0) r x))

-- a row written as it was
pub with_row-same : (A : Matrix) (i : ℕ) → A ≡ with_row A i (row A i)
with_row-same A i =
    ap (λ (rows : List (List ℕ)). record A { entries = rows }) (sym (set-get_or A.entries i []))
