-- A row of a product over GF(2), term by term, and the rows of a product, added one by one.
use Rattle.std.proofs.Common.{◌≡◌, ℕ, ◌+◌, ◌<◌, ◌≤◌, lit<, List, [], ◌∷◌, length, get_or, map, refl, sym, ◌∙◌, ap, ap₂, arith, bit_xor}
use Rattle.std.specs.List.{range_with_len}
use Rattle.std.specs.Int.Bits.{xor_assoc, xor_zero_r}
use Rattle.std.proofs.lemmas.List.FromFn.{length-map-range_with_len, get_or-map-range_with_len}
use Rattle.std.proofs.lemmas.List.{ext_get_or, get_or-set_same, set-set, set-get_or}
use Rattle.m4_model.specs.Field.{gf2, sum_below, mul}
use Rattle.m4_model.specs.Matrix.{Matrix, IsMatrix, row, at, matrix_of, product, added, with_row, row_sum}
use Rattle.m4_model.proofs.FieldLemmas.{mul_gf2, sum_below-more}
use Rattle.m4_model.proofs.MatrixLemmas.{row-table, length-table, length-row-table, at-table, same_matrix}
use Rattle.m4_bits.proofs.BitsLemmas.{length-row_sum, get_or-row_sum}
use Rattle.m4_mul.proofs.AddedLemmas.{added_rows, length-added_row, at-added_row, added_rows-more, added_rows-all}

-- the sum of the first t terms of entry (i, j) of the product
abbrev pub terms : Matrix → Matrix → ℕ → ℕ → ℕ → ℕ
terms A B i t j = sum_below t (λ s. mul A.field (at A i s) (at B s j))

-- those sums along row i
unfoldable pub row_terms : Matrix → Matrix → ℕ → ℕ → List ℕ
row_terms A B i t = map (terms A B i t) (range_with_len 0 B.cols)

-- their number
pub length-row_terms : (A B : Matrix) (i t : ℕ) → length (row_terms A B i t) ≡ B.cols
unfolding row_terms
length-row_terms A B i t = length-map-range_with_len (terms A B i t) 0 B.cols

-- one of them
pub get_or-row_terms : (A B : Matrix) (i t j : ℕ) → j < B.cols → get_or (row_terms A B i t) j 0 ≡ terms A B i t j
unfolding row_terms
get_or-row_terms A B i t j within = get_or-map-range_with_len (terms A B i t) 0 B.cols j j 0 within (omega arith)

-- all the terms make the row of the product
pub row_terms-all : (A B : Matrix) (i : ℕ) → i < A.rows → row_terms A B i A.cols ≡ row (product A B) i
unfolding row_terms
row_terms-all A B i in_rows = sym (row-table A.rows B.cols (λ r j. terms A B r A.cols j) i in_rows)

-- no term makes a row of zeros
pub row_terms-none : (A B : Matrix) (i : ℕ) (xs : List ℕ) → length xs ≡ B.cols → row_sum xs (row_terms A B i 0) ≡ xs
unfolding sum_below
row_terms-none A B i xs long =
    let same : length xs ≡ length (row_terms A B i 0) = long ∙ sym (length-row_terms A B i 0) in
    ext_get_or 0 _ _ (length-row_sum xs (row_terms A B i 0)) (λ j inside.
    let within : j < B.cols = omega (arith, length-row_sum xs (row_terms A B i 0), inside, long) in
    rw (get_or-row_sum xs (row_terms A B i 0) j same, get_or-row_terms A B i 0 j within)
    (xor_zero_r (get_or xs j 0)))

-- a term with a one adds the row of the second matrix
pub row_terms-one : (A B : Matrix) (i t : ℕ) → A.field ≡ gf2 → B.field ≡ gf2 → IsMatrix B → t < B.rows → at A i t ≡ 1
    → row_terms A B i (t + 1) ≡ row_sum (row_terms A B i t) (row B t)
row_terms-one A B i t field field2 matrix in_rows one =
    let same : length (row_terms A B i t) ≡ length (row B t) = length-row_terms A B i t ∙ sym (matrix.width t in_rows) in
    let lengths = length-row_terms A B i (t + 1) ∙ sym (length-row_sum (row_terms A B i t) (row B t) ∙ length-row_terms A B i t) in
    ext_get_or 0 _ _ lengths (λ j inside.
    let within : j < B.cols = omega (arith, length-row_terms A B i (t + 1), inside) in
    rw (get_or-row_terms A B i (t + 1) j within, get_or-row_sum (row_terms A B i t) (row B t) j same, get_or-row_terms A B i t j within)
    (sum_below-more t (λ s. mul A.field (at A i s) (at B s j))
    ∙ (rw (field, one, mul_gf2 1 (at B t j) (lit< tt) (rw field2 at matrix.elements t j in_rows within))
    (ap (λ x. bit_xor (sum_below t (λ s. mul gf2 (at A i s) (at B s j))) x) (omega arith)))))

-- a term with a zero adds nothing
pub row_terms-zero : (A B : Matrix) (i t : ℕ) → A.field ≡ gf2 → B.field ≡ gf2 → IsMatrix B → t < B.rows → at A i t ≡ 0
    → row_terms A B i (t + 1) ≡ row_terms A B i t
row_terms-zero A B i t field field2 matrix in_rows none =
    ext_get_or 0 _ _ (length-row_terms A B i (t + 1) ∙ sym (length-row_terms A B i t)) (λ j inside.
    let within : j < B.cols = omega (arith, length-row_terms A B i (t + 1), inside) in
    rw (get_or-row_terms A B i (t + 1) j within, get_or-row_terms A B i t j within)
    (sum_below-more t (λ s. mul A.field (at A i s) (at B s j))
    ∙ (rw (field, none, mul_gf2 0 (at B t j) (lit< tt) (rw field2 at matrix.elements t j in_rows within))
    (ap (λ x. bit_xor (sum_below t (λ s. mul gf2 (at A i s) (at B s j))) x) (omega arith)
    ∙ xor_zero_r _))))

-- a sum of three rows of one length
pub row_sum_assoc : (xs ys zs : List ℕ) → length ys ≡ length xs → length zs ≡ length xs
    → row_sum (row_sum xs ys) zs ≡ row_sum xs (row_sum ys zs)
row_sum_assoc [] ys zs long long2 = refl
row_sum_assoc (x ∷ xs) [] zs long long2 = absurd (omega arith)
row_sum_assoc (x ∷ xs) (y ∷ ys) [] long long2 = absurd (omega arith)
row_sum_assoc (x ∷ xs) (y ∷ ys) (z ∷ zs) long long2 =
    ap₂ ◌∷◌ (xor_assoc x y z) (row_sum_assoc xs ys zs (omega arith) (omega arith))

-- c with the first t terms added to its row i
abbrev pub with_terms : Matrix → ℕ → Matrix → Matrix → ℕ → Matrix
with_terms C i A B t = with_row C i (row_sum (row C i) (row_terms A B i t))

-- no term leaves c
pub with_terms-none : (C A B : Matrix) (i : ℕ) → IsMatrix C → i < C.rows → C.cols ≡ B.cols → C ≡ with_terms C i A B 0
with_terms-none C A B i matrix in_rows same_cols =
    sym (ap (with_row C i) (row_terms-none A B i (row C i) (matrix.width i in_rows ∙ same_cols))
    ∙ ap (λ (rows : List (List ℕ)). record C { entries = rows }) (set-get_or C.entries i []))

-- a row written twice
pub with_row-with_row : (C : Matrix) (i : ℕ) (xs ys : List ℕ) → with_row (with_row C i xs) i ys ≡ with_row C i ys
with_row-with_row C i xs ys = ap (λ (rows : List (List ℕ)). record C { entries = rows }) (set-set C.entries i xs ys)

-- the row of the second matrix added to c with t terms gives c with one term more
pub with_terms-one : (C A B : Matrix) (i t : ℕ) → IsMatrix C → i < C.rows → C.cols ≡ B.cols
    → A.field ≡ gf2 → B.field ≡ gf2 → IsMatrix B → t < B.rows → at A i t ≡ 1
    → with_row (with_terms C i A B t) i (row_sum (row (with_terms C i A B t) i) (row B t)) ≡ with_terms C i A B (t + 1)
with_terms-one C A B i t shape in_sum same_cols field field2 matrix in_rows one =
    let high : i < length C.entries = rw shape.height in_sum in
    let wide : length (row C i) ≡ B.cols = shape.width i in_sum ∙ same_cols in
    with_row-with_row C i _ _
    ∙ ap (with_row C i)
    (rw (get_or-set_same C.entries i (row_sum (row C i) (row_terms A B i t)) [] high, row_terms-one A B i t field field2 matrix in_rows one)
    (row_sum_assoc (row C i) (row_terms A B i t) (row B t)
    (length-row_terms A B i t ∙ sym wide) (matrix.width t in_rows ∙ sym wide)))

-- a term with a zero leaves c with the terms that it has
pub with_terms-zero : (C A B : Matrix) (i t : ℕ) → A.field ≡ gf2 → B.field ≡ gf2 → IsMatrix B → t < B.rows → at A i t ≡ 0
    → with_terms C i A B t ≡ with_terms C i A B (t + 1)
with_terms-zero C A B i t field field2 matrix in_rows none =
    ap (λ (xs : List ℕ). with_row C i (row_sum (row C i) xs)) (sym (row_terms-zero A B i t field field2 matrix in_rows none))

-- with all the terms, the row of the product is added
pub with_terms-all : (C A B : Matrix) (i t : ℕ) → i < A.rows → t ≡ A.cols
    → with_terms C i A B t ≡ with_row C i (row_sum (row C i) (row (product A B) i))
with_terms-all C A B i t in_rows end =
    ap (λ (xs : List ℕ). with_row C i (row_sum (row C i) xs)) (ap (row_terms A B i) end ∙ row_terms-all A B i in_rows)

-- ---- what is added to each row of c
abbrev pub all_terms : Matrix → Matrix → ℕ → ℕ → ℕ
all_terms A B r j = terms A B r A.cols j

-- one row more is added
pub product_rows-more : (C A B : Matrix) (i : ℕ) → i < C.rows → A.rows ≡ C.rows → B.cols ≡ C.cols
    → with_row (added_rows C (all_terms A B) i) i (row_sum (row (added_rows C (all_terms A B) i) i) (row (product A B) i))
    ≡ added_rows C (all_terms A B) (i + 1)
product_rows-more C A B i in_rows rows cols =
    let h = all_terms A B in
    let mine = row (added_rows C h i) i in
    let more = row (product A B) i in
    let below : i < A.rows = omega (arith, rows, in_rows) in
    let width : length mine ≡ C.cols = length-added_row C h i in_rows in
    let width2 : length more ≡ C.cols = length-row-table A.rows B.cols h i below ∙ cols in
    added_rows-more C h i (row_sum mine more) in_rows (length-row_sum mine more ∙ width)
    (λ j within.
    get_or-row_sum mine more j (width ∙ sym width2)
    ∙ (λ n. bit_xor (at-added_row C h i j in_rows within n) (at-table A.rows B.cols h i j below (rw cols within) n)))

-- with every row, the product is added
pub product_rows-all : (C A B : Matrix) (i : ℕ) → A.rows ≡ C.rows → B.cols ≡ C.cols → C.rows ≤ i
    → added_rows C (all_terms A B) i ≡ added C (product A B)
product_rows-all C A B i rows cols end =
    let h = all_terms A B in
    added_rows-all C h i end
    ∙ same_matrix C.field C.rows C.cols (λ r j. bit_xor (at C r j) (at (product A B) r j)) (matrix_of C.field C.rows C.cols (λ r j. bit_xor (at C r j) (h r j))) refl refl refl
    (length-table C.rows C.cols (λ r j. bit_xor (at C r j) (h r j))) (length-row-table C.rows C.cols (λ r j. bit_xor (at C r j) (h r j)))
    (λ r j below within.
    at-table C.rows C.cols (λ r j. bit_xor (at C r j) (h r j)) r j below within
    ∙ ap (bit_xor (at C r j)) (sym (at-table A.rows B.cols h r j (rw rows below) (rw cols within))))
