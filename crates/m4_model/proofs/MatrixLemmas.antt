-- Entries, rows and shapes of matrices made entry by entry, and equality of matrices by their entries.
use Rattle.std.proofs.Common.{◌≡◌, ℕ, ◌<◌, List, [], length, get_or, map, sym, ◌∙◌, arith}
use Rattle.std.specs.List.{range_with_len}
use Rattle.std.proofs.lemmas.List.FromFn.{length-map-range_with_len, get_or-map-range_with_len}
use Rattle.std.proofs.lemmas.List.{same_lists, get_or_default}
use Rattle.m4_model.specs.Field.{Field, IsField, IsElement}
use Rattle.m4_model.specs.Matrix.{Matrix, IsMatrix, row, at, table, matrix_of}

-- a table has as many rows as said
pub length-table : (m n : ℕ) (g : ℕ → ℕ → ℕ) → length (table m n g) ≡ m
unfolding table
length-table m n g = length-map-range_with_len _ 0 m

-- row i of a table
pub row-table : (m n : ℕ) (g : ℕ → ℕ → ℕ) (i : ℕ) → i < m → get_or (table m n g) i [] ≡ map (g i) (range_with_len 0 n)
unfolding table
row-table m n g i below = get_or-map-range_with_len _ 0 m i i [] below (omega arith)

-- each row is as long as said
pub length-row-table : (m n : ℕ) (g : ℕ → ℕ → ℕ) (i : ℕ) → i < m → length (get_or (table m n g) i []) ≡ n
length-row-table m n g i below = rw (row-table m n g i below) (length-map-range_with_len (g i) 0 n)

-- its entries are those of the function
pub at-table : (m n : ℕ) (g : ℕ → ℕ → ℕ) (i j : ℕ) → i < m → j < n → get_or (get_or (table m n g) i []) j 0 ≡ g i j
at-table m n g i j in_rows in_cols =
    rw (row-table m n g i in_rows) (get_or-map-range_with_len (g i) 0 n j j 0 in_cols (omega arith))

-- a list of rows with these entries is the table
pub same_table : (m n : ℕ) (g : ℕ → ℕ → ℕ) (rows : List (List ℕ)) → length rows ≡ m
    → ((i : ℕ) → i < m → length (get_or rows i []) ≡ n)
    → ((i j : ℕ) → i < m → j < n → get_or (get_or rows i []) j 0 ≡ g i j) → rows ≡ table m n g
same_table m n g rows height width entries =
    same_lists rows (table m n g) (height ∙ sym (length-table m n g)) (λ i d below.
    let in_rows : i < m = omega (arith, height) in
    let in_table : i < length (table m n g) = rw (length-table m n g) in_rows in
    get_or_default rows i d [] below
    ∙ same_lists _ _ (width i in_rows ∙ sym (length-row-table m n g i in_rows)) (λ j e within.
    let in_cols : j < n = rw (width i in_rows) at within in
    let in_row : j < length (get_or (table m n g) i []) = rw (length-row-table m n g i in_rows) in_cols in
    get_or_default (get_or rows i []) j e 0 within
    ∙ entries i j in_rows in_cols
    ∙ sym (at-table m n g i j in_rows in_cols)
    ∙ get_or_default (get_or (table m n g) i []) j 0 e in_row)
    ∙ get_or_default (table m n g) i [] d in_table)

-- matrices with the same parts are equal
pub same_parts : (A B : Matrix) → A.field ≡ B.field → A.rows ≡ B.rows → A.cols ≡ B.cols → A.entries ≡ B.entries → A ≡ B
same_parts A B field rows cols entries = λ i. record { field = field i; rows = rows i; cols = cols i; entries = entries i }

-- a matrix of that shape with these entries is the matrix of the function
pub same_matrix : (F : Field) (m n : ℕ) (g : ℕ → ℕ → ℕ) (A : Matrix) → A.field ≡ F → A.rows ≡ m → A.cols ≡ n
    → length A.entries ≡ m → ((i : ℕ) → i < m → length (row A i) ≡ n)
    → ((i j : ℕ) → i < m → j < n → at A i j ≡ g i j) → A ≡ matrix_of F m n g
same_matrix F m n g A field rows cols height width entries =
    same_parts A (matrix_of F m n g) field rows cols (same_table m n g A.entries height width entries)

-- a matrix made of elements of a field is one
pub IsMatrix-matrix_of : (F : Field) (m n : ℕ) (g : ℕ → ℕ → ℕ) → IsField F
    → ((i j : ℕ) → i < m → j < n → IsElement F (g i j)) → IsMatrix (matrix_of F m n g)
IsMatrix-matrix_of F m n g field elements = record {
  over_field = field;
  height = length-table m n g;
  width = length-row-table m n g;
  elements = λ i j in_rows in_cols. rw (at-table m n g i j in_rows in_cols) (elements i j in_rows in_cols);
}
