-- A product that is added by panels of the inner index.
use Rattle.std.proofs.Common.{◌≡◌, ℕ, ◌+◌, ◌-◌, ◌/◌, ◌<◌, ◌≤◌, List, [], ◌++◌, length, get_or, take, drop, map, refl, sym, ◌∙◌, ap, ap₂, subst, arith, bit_xor, get_or-take, get_or-drop, take-append-drop}
use Rattle.std.specs.Simd.Lanes.{zip2}
use Rattle.std.proofs.lemmas.List.{get_or-map, length-map}
use Rattle.m4_model.specs.Field.{Field, gf2, sum_below, mul}
use Rattle.m4_model.specs.Matrix.{Matrix, HasShape, row, at, added, product}
use Rattle.m4_model.specs.Shapes.{above, beside}
use Rattle.m4_model.proofs.FieldLemmas.{sum_below-same}
use Rattle.m4_model.proofs.MatrixLemmas.{length-table, length-row-table, at-table, same_matrix}
use Rattle.m4_model.proofs.Gf2Lemmas.{gf2_laws}
use Rattle.m4_model.proofs.ShapeLemmas.{HasShape-product, HasShape-added, at-added}
use Rattle.m4_model.proofs.BlockLemmas.{same_rows, same_cols, HasShape-above, HasShape-beside, at-above_top, at-above_bottom, at-beside_left, at-beside_right, product-above, product-beside, added-beside}
use Rattle.m4_mzd.specs.Window.{Window, IsWindow, content, showing}
use Rattle.m4_mzd.proofs.PairLemmas.{upper, lower, stacked}
use Rattle.m4_mzd.proofs.ContentLemmas.{content_above, content_beside}
use Rattle.m4_mzd.proofs.WindowLemmas.{same_window}
use Rattle.m4_mul.specs.Parts.{part_of_entry, with_part}

-- the product of some columns of A and the rows of B of the same numbers is a part of the product of A and B
pub part_same : (C A B P R : Matrix) (first width : ℕ) → C.field ≡ gf2 → P.field ≡ A.field → P.rows ≡ C.rows → P.cols ≡ width → R.cols ≡ C.cols
    → ((i t : ℕ) → i < C.rows → t < width → at P i t ≡ at A i (first + t)) → ((t j : ℕ) → t < width → j < C.cols → at R t j ≡ at B (first + t) j)
    → added C (product P R) ≡ with_part C A B first width
part_same C A B P R first width field over rows cols wide left right =
    let g = λ (i j : ℕ). bit_xor (at C i j) (at (product P R) i j) in
    let terms = λ (i j : ℕ). sum_below P.cols (λ t. mul P.field (at P i t) (at R t j)) in
    same_matrix gf2 C.rows C.cols (λ i j. bit_xor (at C i j) (part_of_entry A B first width i j)) (added C (product P R)) field refl refl
    (length-table C.rows C.cols g) (length-row-table C.rows C.cols g)
    (λ i j below within.
    at-table C.rows C.cols g i j below within
    ∙ ap (bit_xor (at C i j))
    (at-table P.rows R.cols terms i j (omega (arith, below, rows)) (omega (arith, within, wide))
    ∙ (λ n. sum_below (cols n) (λ t. mul (over n) (at P i t) (at R t j)))
    ∙ sum_below-same width (λ t. mul A.field (at P i t) (at R t j)) (λ t. mul A.field (at A i (first + t)) (at B (first + t) j))
    (λ t inside. ap₂ (mul A.field) (left i t below inside) (right t j inside within))))

-- an entry of some columns
pub at-columns : (rows : List (List ℕ)) (first width i t : ℕ) → i < length rows → t < width
    → get_or (get_or (map (take width) (map (drop first) rows)) i []) t 0 ≡ get_or (get_or rows i []) (first + t) 0
at-columns rows first width i t below inside =
    ap (λ r. get_or r t 0) (get_or-map (take width) (map (drop first) rows) i [] [] (omega (arith, below, length-map rows (drop first)))
    ∙ ap (take width) (get_or-map (drop first) rows i [] [] below))
    ∙ get_or-take width (drop first (get_or rows i [])) t 0 inside ∙ get_or-drop first (get_or rows i []) t 0

-- an entry of some rows
pub at-rows : (rows : List (List ℕ)) (first width t j : ℕ) → t < width
    → get_or (get_or (take width (drop first rows)) t []) j 0 ≡ get_or (get_or rows (first + t) []) j 0
at-rows rows first width t j inside =
    ap (λ r. get_or r j 0) (get_or-take width (drop first rows) t [] inside ∙ get_or-drop first rows t [])
