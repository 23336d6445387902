-- Rows of matrices over any field.
use Rattle.std.proofs.Common.{ℕ, ◌<◌, List, [], length, get_or, set, sym, ◌∙◌, ap, subst, arith, inl, inr, get_or-set_same, get_or-set_other}
use Rattle.std.proofs.lemmas.List.{length-set}
use Rattle.std.proofs.lemmas.Bool.{cases_eq}
use Rattle.m4_model.specs.Matrix.{Matrix, IsMatrix, with_row}
use Rattle.m4_etext.specs.Pieces.{IsRow}

-- a row of a matrix
pub row_is : (A : Matrix) (r : ℕ) → IsMatrix A → r < A.rows → IsRow A.field A.cols (get_or A.entries r [])
row_is A r matrix below = record { wide = matrix.width r below; elements = λ j inside. matrix.elements r j below inside }

-- a matrix with another row
pub IsMatrix-with_row : (A : Matrix) (r : ℕ) (es : List ℕ) → IsMatrix A → IsRow A.field A.cols es → IsMatrix (with_row A r es)
IsMatrix-with_row A r es matrix is =
    let at : (i : ℕ) → i < A.rows → IsRow A.field A.cols (get_or (set A.entries r es) i []) =
    λ i below. elim (cases_eq i r) [
      | inl same ↦
          let inside : r < length A.entries = omega (arith, matrix.height, same) in
          subst (IsRow A.field A.cols) (sym (ap (λ k. get_or (set A.entries r es) k []) same ∙ get_or-set_same A.entries r es [] inside)) is
      | inr other ↦ subst (IsRow A.field A.cols) (sym (get_or-set_other A.entries r i es [] other)) (row_is A i matrix below)
    ] in
    record {
      over_field = matrix.over_field;
      height = length-set A.entries r es ∙ matrix.height;
      width = λ i below. (at i below).wide;
      elements = λ i j in_rows in_cols. (at i in_rows).elements j in_cols;
    }
