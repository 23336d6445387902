-- A row out of which one entry is taken, and rows to which multiples of another are added.
use Rattle.std.proofs.Common.{◌≡◌, ℕ, ◌+◌, ◌-◌, ◌<◌, ◌≤◌, cond, ltb, inl, inr, List, [], length, get_or, take, drop, set, map, refl, sym, ◌∙◌, ap, ap₂, arith, bit_xor, ext_get_or, length-append, length-drop, get_or-take, get_or-drop}
use Rattle.std.specs.Int.Bits.{xor_assoc, xor_self, xor_zero_r}
use Rattle.std.proofs.lemmas.Bool.{cases_lt, cond-true, cond-false, lt-ltb, le-ltb}
use Rattle.std.proofs.lemmas.List.{length-map, get_or-map, get_or_append_left, get_or-append_right, length-take-le, set-get_or, set-set, get_or-set_same}
use Rattle.std.proofs.lemmas.List.FromFn.{length-map-range_with_len, get_or-map-range_with_len}
use Rattle.m4_model.specs.Field.{Field, IsField, mul}
use Rattle.m4_model.specs.Matrix.{Matrix, IsMatrix, row, at, matrix_of, with_row, row_sum}
use Rattle.m4_model.proofs.FieldProofs.{field_laws}
use Rattle.m4_model.proofs.FieldLaws.{FieldLaws}
use Rattle.m4_model.proofs.MatrixLemmas.{at-table, same_matrix, length-table, length-row-table}
use Rattle.m4_mzd.proofs.RowLemmas.{length-row_sum, get_or-row_sum, with_row-matrix_of}
use Rattle.m4_mzed.specs.Rows.{multiples}
use Rattle.m4_mzed.specs.EWindow.{EWindow, content, showing}
use Rattle.m4_mzd.specs.Rows.{sum_from}
use Rattle.m4_trsm.specs.Triangles.{inside}
use Rattle.m4_trsm.specs.Elimination.{without_entry}
use Rattle.m4_trsm.specs.declared.side.Side.{Side}
use Rattle.m4_trsm.specs.declared.side.Side.TheVariants.{Lower, Upper}

-- the entries of a row to which another is added from column c on
module _ (c : ℕ) (xs ys : List ℕ) (same : length xs ≡ length ys) (within : c ≤ length xs) where
  front_long : length (take c xs) ≡ c
  front_long = length-take-le c xs within

  length-sum_from : length (sum_from c xs ys) ≡ length xs
  length-sum_from =
      omega (arith, length-append (take c xs) (row_sum (drop c xs) (drop c ys)), front_long, length-row_sum (drop c xs) (drop c ys), length-drop c xs)

  before-sum_from : (k : ℕ) → k < c → get_or (sum_from c xs ys) k 0 ≡ get_or xs k 0
  before-sum_from k before =
      get_or_append_left (take c xs) (row_sum (drop c xs) (drop c ys)) 0 k (omega (arith, front_long)) ∙ get_or-take c xs k 0 before

  behind-sum_from : (k : ℕ) → c ≤ k → get_or (sum_from c xs ys) k 0 ≡ bit_xor (get_or xs k 0) (get_or ys k 0)
  behind-sum_from k behind =
      let place : c + (k - c) ≡ k = omega arith in
      get_or-append_right (take c xs) (row_sum (drop c xs) (drop c ys)) c k 0 front_long behind
      ∙ get_or-row_sum (drop c xs) (drop c ys) (k - c) (omega (arith, length-drop c xs, length-drop c ys))
      ∙ ap₂ bit_xor (get_or-drop c xs (k - c) 0 ∙ ap (λ i. get_or xs i 0) place) (get_or-drop c ys (k - c) 0 ∙ ap (λ i. get_or ys i 0) place)

module _ (side : Side) (T : Matrix) (xs : List ℕ) (j : ℕ) where
  pub length-without_entry : length (without_entry side T xs j) ≡ length xs
  length-without_entry = length-map-range_with_len (λ k. bit_xor (get_or xs k 0) (mul T.field (get_or xs j 0) (inside side T j k))) 0 (length xs)

  pub get_or-without_entry : (k : ℕ) → k < length xs → get_or (without_entry side T xs j) k 0 ≡ bit_xor (get_or xs k 0) (mul T.field (get_or xs j 0) (inside side T j k))
  get_or-without_entry k below =
      get_or-map-range_with_len (λ k. bit_xor (get_or xs k 0) (mul T.field (get_or xs j 0) (inside side T j k))) 0 (length xs) k k 0 below (omega arith)

  -- an entry that is 0 changes nothing
  pub without_zero : IsField T.field → get_or xs j 0 ≡ 0 → without_entry side T xs j ≡ xs
  without_zero is_field none =
      ext_get_or 0 (without_entry side T xs j) xs length-without_entry (λ k below.
      get_or-without_entry k (omega (arith, length-without_entry))
      ∙ ap (λ x. bit_xor (get_or xs k 0) (mul T.field x (inside side T j k))) none
      ∙ ap (bit_xor (get_or xs k 0)) ((field_laws T.field is_field).comm 0 (inside side T j k) ∙ (field_laws T.field is_field).annihilates (inside side T j k)) ∙ xor_zero_r (get_or xs k 0))

module _ (T : Matrix) (xs : List ℕ) (j x : ℕ) (matrix : IsMatrix T) (wide : length xs ≡ T.cols) (below : j < T.rows)
    (in_row : j < length xs) (entry : get_or xs j 0 ≡ x) where
  laws : FieldLaws T.field
  laws = field_laws T.field matrix.over_field

  abbrev scaled : List ℕ
  scaled = multiples T.field x (row T j)

  same_long : length xs ≡ length scaled
  same_long = wide ∙ sym (length-map (row T j) (λ y. mul T.field y x) ∙ matrix.width j below)

  at_scaled : (k : ℕ) → k < length xs → get_or scaled k 0 ≡ mul T.field (at T j k) x
  at_scaled k within = get_or-map (λ y. mul T.field y x) (row T j) k 0 0 (omega (arith, wide, matrix.width j below))

  -- an entry of the triangle's row, and one on its other side
  entry_inside : (side : Side) (k : ℕ) → k < length xs → inside side T j k ≡ at T j k
      → bit_xor (get_or xs k 0) (get_or scaled k 0) ≡ bit_xor (get_or xs k 0) (mul T.field (get_or xs j 0) (inside side T j k))
  entry_inside side k within is =
      ap (bit_xor (get_or xs k 0))
      (at_scaled k within ∙ laws.comm (at T j k) x ∙ ap₂ (mul T.field) (sym entry) (sym is))

  entry_outside : (side : Side) (k : ℕ) → inside side T j k ≡ 0
      → get_or xs k 0 ≡ bit_xor (get_or xs k 0) (mul T.field (get_or xs j 0) (inside side T j k))
  entry_outside side k is =
      sym (ap (λ y. bit_xor (get_or xs k 0) (mul T.field (get_or xs j 0) y)) is
      ∙ ap (bit_xor (get_or xs k 0)) (laws.annihilates (get_or xs j 0)) ∙ xor_zero_r (get_or xs k 0))

  -- one that is taken out of those behind it
  pub without_behind : sum_from (j + 1) xs scaled ≡ without_entry Upper T xs j
  without_behind =
      let long = length-sum_from (j + 1) xs scaled same_long (omega arith) in
      ext_get_or 0 (sum_from (j + 1) xs scaled) (without_entry Upper T xs j) (long ∙ sym (length-without_entry Upper T xs j)) (λ k inside_sum.
      let within : k < length xs = omega (arith, long) in
      elim (cases_lt k (j + 1)) [
        | inl before ↦
            before-sum_from (j + 1) xs scaled same_long (omega arith) k before
            ∙ entry_outside Upper k (cond-false (ltb j k) _ _ (le-ltb j k (omega arith)))
            ∙ sym (get_or-without_entry Upper T xs j k within)
        | inr behind ↦
            behind-sum_from (j + 1) xs scaled same_long (omega arith) k behind
            ∙ entry_inside Upper k within (cond-true (ltb j k) _ _ (lt-ltb j k (omega arith)))
            ∙ sym (get_or-without_entry Upper T xs j k within)
      ])

  -- one that is taken out of those before it
  pub without_before : sum_from j (row_sum xs scaled) scaled ≡ without_entry Lower T xs j
  without_before =
      let ys = row_sum xs scaled in
      let ys_long : length ys ≡ length xs = length-row_sum xs scaled in
      let same : length ys ≡ length scaled = ys_long ∙ same_long in
      let long = length-sum_from j ys scaled same (omega arith) in
      ext_get_or 0 (sum_from j ys scaled) (without_entry Lower T xs j) (long ∙ ys_long ∙ sym (length-without_entry Lower T xs j)) (λ k inside_sum.
      let within : k < length xs = omega (arith, long, ys_long) in
      elim (cases_lt k j) [
        | inl before ↦
            before-sum_from j ys scaled same (omega arith) k before
            ∙ get_or-row_sum xs scaled k same_long
            ∙ entry_inside Lower k within (cond-true (ltb k j) _ _ (lt-ltb k j before))
            ∙ sym (get_or-without_entry Lower T xs j k within)
        | inr behind ↦
            behind-sum_from j ys scaled same (omega arith) k behind
            ∙ ap (λ y. bit_xor y (get_or scaled k 0)) (get_or-row_sum xs scaled k same_long)
            ∙ xor_assoc (get_or xs k 0) (get_or scaled k 0) (get_or scaled k 0) ∙ ap (bit_xor (get_or xs k 0)) (xor_self (get_or scaled k 0)) ∙ xor_zero_r (get_or xs k 0)
            ∙ entry_outside Lower k (cond-false (ltb k j) _ _ (le-ltb k j behind))
            ∙ sym (get_or-without_entry Lower T xs j k within)
      ])

-- a window whose row is written as it was
pub row_kept : (w : EWindow) (r : ℕ) → showing w (with_row (content w) r (row (content w) r)) ≡ w
row_kept w r = ap (λ (rows : List (List ℕ)). record w { entries = rows }) (set-get_or w.entries r [])

-- a window of which a row is written twice
pub row_twice : (w : EWindow) (r : ℕ) (x : List ℕ) (f : List ℕ → List ℕ) → r < length w.entries
    → showing (showing w (with_row (content w) r x)) (with_row (content (showing w (with_row (content w) r x))) r (f (row (content (showing w (with_row (content w) r x))) r)))
    ≡ showing w (with_row (content w) r (f x))
row_twice w r x f below =
    ap (λ (rows : List (List ℕ)). record w { entries = rows })
    (ap (λ l. set (set w.entries r x) r (f l)) (get_or-set_same w.entries r x [] below) ∙ set-set w.entries r x (f x))

module _ (K : Field) where
  -- To the first k rows of C is added the multiple of row s of F by the triangle's entry in this column.
  abbrev pub added_where : Matrix → Matrix → Matrix → ℕ → ℕ → ℕ → ℕ → Matrix
  added_where C F T first column s k = matrix_of K C.rows C.cols (λ r j.
      cond (ltb r k) (bit_xor (at C r j) (mul K (at F s j) (at T (first + r) column))) (at C r j))

module _ (K : Field) (is_field : IsField K) where
  module _ (C F T : Matrix) (first column s : ℕ) (matrix : IsMatrix C) (field : C.field ≡ K) (source : IsMatrix F)
      (same : F.cols ≡ C.cols) (in_source : s < F.rows) where
    pub added_where-none : C ≡ added_where K C F T first column s 0
    added_where-none =
        same_matrix K C.rows C.cols (λ r j. cond (ltb r 0) (bit_xor (at C r j) (mul K (at F s j) (at T (first + r) column))) (at C r j)) C field refl refl
        matrix.height matrix.width (λ r j below within. sym (cond-false (ltb r 0) _ _ (le-ltb r 0 (omega arith))))

    pub added_where-more : (k x : ℕ) → k < C.rows → at T (first + k) column ≡ x
        → with_row (added_where K C F T first column s k) k (row_sum (row (added_where K C F T first column s k) k) (multiples K x (row F s))) ≡ added_where K C F T first column s (k + 1)
    added_where-more k x below is =
        let f : ℕ → ℕ → ℕ → ℕ = λ n r j. cond (ltb r n) (bit_xor (at C r j) (mul K (at F s j) (at T (first + r) column))) (at C r j) in
        let mine = row (added_where K C F T first column s k) k in
        let scaled = multiples K x (row F s) in
        let width : length mine ≡ C.cols = length-row-table C.rows C.cols (f k) k below in
        let source_width : length (row F s) ≡ C.cols = source.width s in_source ∙ same in
        let even : length mine ≡ length scaled = width ∙ sym (length-map (row F s) (λ y. mul K y x) ∙ source_width) in
        sym (with_row-matrix_of K C.rows C.cols (f k) (f (k + 1)) k (row_sum mine scaled) below (length-row_sum mine scaled ∙ width)
        (λ j within.
        get_or-row_sum mine scaled j even
        ∙ ap₂ bit_xor (at-table C.rows C.cols (f k) k j below within ∙ cond-false (ltb k k) _ _ (le-ltb k k (omega arith)))
        (get_or-map (λ y. mul K y x) (row F s) j 0 0 (omega (arith, source_width)))
        ∙ sym (cond-true (ltb k (k + 1)) _ _ (lt-ltb k (k + 1) (omega arith)) ∙ ap (λ x. bit_xor (at C k j) (mul K (at F s j) x)) is))
        (λ r j inside_rows within away. elim (cases_lt r k) [
          | inl early ↦ cond-true (ltb r (k + 1)) _ _ (lt-ltb r (k + 1) (omega arith)) ∙ sym (cond-true (ltb r k) _ _ (lt-ltb r k early))
          | inr late ↦ cond-false (ltb r (k + 1)) _ _ (le-ltb r (k + 1) (omega (arith, away))) ∙ sym (cond-false (ltb r k) _ _ (le-ltb r k late))
        ]))

    pub added_where-zero : (k : ℕ) → k < C.rows → at T (first + k) column ≡ 0 → added_where K C F T first column s k ≡ added_where K C F T first column s (k + 1)
    added_where-zero k below none =
        let f : ℕ → ℕ → ℕ → ℕ = λ n r j. cond (ltb r n) (bit_xor (at C r j) (mul K (at F s j) (at T (first + r) column))) (at C r j) in
        same_matrix K C.rows C.cols (f (k + 1)) (added_where K C F T first column s k) refl refl refl (length-table C.rows C.cols (f k)) (length-row-table C.rows C.cols (f k))
        (λ r j inside_rows within. at-table C.rows C.cols (f k) r j inside_rows within ∙ elim (cases_lt r k) [
          | inl early ↦ cond-true (ltb r k) _ _ (lt-ltb r k early) ∙ sym (cond-true (ltb r (k + 1)) _ _ (lt-ltb r (k + 1) (omega arith)))
          | inr late ↦ cond-false (ltb r k) _ _ (le-ltb r k late) ∙ elim (cases_lt r (k + 1)) [
            | inl here ↦
                let is : r ≡ k = omega arith in
                sym (cond-true (ltb r (k + 1)) _ _ (lt-ltb r (k + 1) here)
                ∙ ap (λ i. bit_xor (at C r j) (mul K (at F s j) (at T (first + i) column))) is
                ∙ ap (λ x. bit_xor (at C r j) (mul K (at F s j) x)) none
                ∙ ap (bit_xor (at C r j)) ((field_laws K is_field).annihilates (at F s j)) ∙ xor_zero_r (at C r j))
            | inr later ↦ sym (cond-false (ltb r (k + 1)) _ _ (le-ltb r (k + 1) later))
          ]
        ])

    pub added_where-all : (k : ℕ) → C.rows ≤ k → added_where K C F T first column s k ≡ matrix_of K C.rows C.cols (λ r j. bit_xor (at C r j) (mul K (at F s j) (at T (first + r) column)))
    added_where-all k all =
        let f : ℕ → ℕ → ℕ = λ r j. cond (ltb r k) (bit_xor (at C r j) (mul K (at F s j) (at T (first + r) column))) (at C r j) in
        same_matrix K C.rows C.cols (λ r j. bit_xor (at C r j) (mul K (at F s j) (at T (first + r) column))) (added_where K C F T first column s k) refl refl refl
        (length-table C.rows C.cols f) (length-row-table C.rows C.cols f)
        (λ r j below within. at-table C.rows C.cols f r j below within ∙ cond-true (ltb r k) _ _ (lt-ltb r k (omega arith)))
