-- A row of a product over any field, term by term.
use Rattle.std.proofs.Common.{◌≡◌, ℕ, ◌+◌, ◌<◌, [], length, get_or, sym, ◌∙◌, ap, arith, bit_xor}
use Rattle.std.proofs.lemmas.List.{ext_get_or, get_or-set_same, get_or-map, length-map}
use Rattle.m4_model.specs.Field.{IsField, mul}
use Rattle.m4_model.specs.Matrix.{Matrix, IsMatrix, row, at, with_row, row_sum}
use Rattle.m4_model.proofs.FieldLemmas.{sum_below-more}
use Rattle.m4_model.proofs.FieldProofs.{field_laws}
use Rattle.m4_bits.proofs.BitsLemmas.{length-row_sum, get_or-row_sum}
use Rattle.m4_mul.proofs.PlainLemmas.{terms, row_terms, length-row_terms, get_or-row_terms, row_sum_assoc, with_terms, with_row-with_row}
use Rattle.m4_mzed.specs.Rows.{multiples}

-- a term adds a multiple of the row of the second matrix
row_terms-more : (A B : Matrix) (i t : ℕ) → IsField A.field → IsMatrix B → t < B.rows
    → row_terms A B i (t + 1) ≡ row_sum (row_terms A B i t) (multiples A.field (at A i t) (row B t))
row_terms-more A B i t field matrix in_rows =
    let long = matrix.width t in_rows in
    let more = multiples A.field (at A i t) (row B t) in
    let same : length (row_terms A B i t) ≡ length more = length-row_terms A B i t ∙ sym (length-map (row B t) (λ y. mul A.field y (at A i t)) ∙ long) in
    let lengths = length-row_terms A B i (t + 1) ∙ sym (length-row_sum (row_terms A B i t) more ∙ length-row_terms A B i t) in
    ext_get_or 0 _ _ lengths (λ j inside.
    let within : j < B.cols = omega (arith, length-row_terms A B i (t + 1), inside) in
    get_or-row_terms A B i (t + 1) j within
    ∙ sum_below-more t (λ s. mul A.field (at A i s) (at B s j))
    ∙ ap (bit_xor (terms A B i t j)) ((field_laws A.field field).comm (at A i t) (at B t j) ∙ sym (get_or-map (λ y. mul A.field y (at A i t)) (row B t) j 0 0 (omega (arith, long, within))))
    ∙ sym (get_or-row_sum (row_terms A B i t) more j same ∙ ap (λ x. bit_xor x (get_or more j 0)) (get_or-row_terms A B i t j within)))

-- c with t terms of a row, and the multiple that is the next term
pub with_terms-more : (C A B : Matrix) (i t : ℕ) → IsMatrix C → i < C.rows → C.cols ≡ B.cols → IsField A.field → IsMatrix B → t < B.rows
    → with_row (with_terms C i A B t) i (row_sum (row (with_terms C i A B t) i) (multiples A.field (at A i t) (row B t))) ≡ with_terms C i A B (t + 1)
with_terms-more C A B i t shape in_sum same_cols field matrix in_rows =
    let high : i < length C.entries = rw shape.height in_sum in
    let wide : length (row C i) ≡ B.cols = shape.width i in_sum ∙ same_cols in
    let more_long : length (multiples A.field (at A i t) (row B t)) ≡ length (row C i) = length-map (row B t) (λ y. mul A.field y (at A i t)) ∙ matrix.width t in_rows ∙ sym wide in
    with_row-with_row C i _ _
    ∙ ap (with_row C i)
    (rw (get_or-set_same C.entries i (row_sum (row C i) (row_terms A B i t)) [] high, row_terms-more A B i t field matrix in_rows)
    (row_sum_assoc (row C i) (row_terms A B i t) (multiples A.field (at A i t) (row B t)) (length-row_terms A B i t ∙ sym wide) more_long))
