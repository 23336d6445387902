-- The echelon form in place: a row that keeps its tail, and the form that a PLE in place holds.
use Rattle.std.proofs.Common.{◌≡◌, ℕ, ◌+◌, ◌-◌, ◌<◌, ◌≤◌, inl, inr, ⊎_elim, refl, sym, ◌∙◌, ap, arith, List, length, slice_index, drop, replicate, ◌++◌, nat_lt, nat_le, ◌&&◌, if◌then◌else◌, length-append, length-drop, get_or-drop}
use Rattle.std.proofs.lemmas.Bool.{cases_lt, lt-ltb, le-ltb, le-leb, lt-leb}
use Rattle.std.proofs.lemmas.List.{ext_get_or, length-replicate, get_or-replicate, get_or_append_left, get_or-append_right, take-replicate}
use Rattle.m4_model.specs.Field.{Field}
use Rattle.m4_model.specs.Matrix.{Matrix, IsMatrix, HasShape, row, at, matrix_of, with_row}
use Rattle.m4_model.specs.Factors.{Stored}
use Rattle.m4_model.specs.Rank.{IsRising}
use Rattle.m4_model.proofs.MatrixLemmas.{at-table, length-row-table}
use Rattle.m4_model.proofs.ExchangeLemmas.{rising-at_least}
use Rattle.m4_model.proofs.ShapeLemmas.{at_shape, same_from_entries}
use Rattle.m4_model.proofs.FactorLemmas.{at-stored_upper}
use Rattle.m4_mzd.specs.Parts.{part, with_part}
use Rattle.m4_ple.specs.Parts.{echelon_entry, echelon_part}
use Rattle.m4_ple.proofs.RowByRow.{done_to, done_to-more, at-done_later}

-- zeros over the front of a row
pub front_cleared : (c n : ℕ) (xs : List ℕ) → c ≤ n → with_part 0 (part 0 c (replicate n 0)) xs ≡ replicate c 0 ++ drop c xs
front_cleared c n xs within =
    let front = length-replicate {A = ℕ} c 0 in
    ap (λ (ys : List ℕ). with_part 0 ys xs) (take-replicate c n 0 within)
    ∙ ap (λ (k : ℕ). replicate c 0 ++ drop k xs) (let e : 0 + length (replicate {A = ℕ} c 0) ≡ c = omega (arith, front) in e)

-- row i of the echelon form
module _ (q : List ℕ) (W : Matrix) where
  -- with a pivot
  pub row-with_pivot : IsMatrix W → (i : ℕ) → i < W.rows → i < length q → slice_index q i ≤ W.cols
      → replicate (slice_index q i) 0 ++ drop (slice_index q i) (row W i) ≡ row (echelon_part q W) i
  row-with_pivot matrix i below pivoted within =
      let c = slice_index q i in
      let wide = matrix.width i below in
      let front = length-replicate {A = ℕ} c 0 in
      let rest = length-drop c (row W i) in
      let whole = length-append (replicate c 0) (drop c (row W i)) in
      let made = length-row-table W.rows W.cols (echelon_entry q W) i below in
      ext_get_or 0 _ _ (omega (arith, front, rest, whole, made, wide, within)) (λ j inside.
      let in_cols : j < W.cols = omega (arith, inside, whole, rest, wide, within, length-replicate {A = ℕ} (slice_index q i) 0) in
      ⊎_elim
      (λ (before : j < c).
      get_or_append_left (replicate c 0) (drop c (row W i)) 0 j (omega (arith, before, front)) ∙ get_or-replicate c j 0 0 before
      ∙ sym (at-table W.rows W.cols (echelon_entry q W) i j below in_cols ∙ rw (lt-ltb i (length q) pivoted, lt-leb c j before) refl))
      (λ (behind : c ≤ j).
      let place : c + (j - c) ≡ j = omega (arith, behind) in
      get_or-append_right (replicate c 0) (drop c (row W i)) c j 0 front behind ∙ get_or-drop c (row W i) (j - c) 0 ∙ ap (λ (j : ℕ). at W i j) place
      ∙ sym (at-table W.rows W.cols (echelon_entry q W) i j below in_cols ∙ rw (lt-ltb i (length q) pivoted, le-leb c j behind) refl))
      (cases_lt j c))

  -- without one
  pub row-without_pivot : (i : ℕ) → i < W.rows → length q ≤ i → replicate W.cols 0 ≡ row (echelon_part q W) i
  row-without_pivot i below past =
      let front = length-replicate {A = ℕ} W.cols 0 in
      let made = length-row-table W.rows W.cols (echelon_entry q W) i below in
      ext_get_or 0 _ _ (front ∙ sym made) (λ j inside.
      let in_cols : j < W.cols = omega (arith, inside, front) in
      get_or-replicate W.cols j 0 0 in_cols
      ∙ sym (at-table W.rows W.cols (echelon_entry q W) i j below in_cols ∙ rw (le-ltb i (length q) past) refl))

-- one row more of it
pub echelon_part-more : (q : List ℕ) (W : Matrix) (k : ℕ) → IsMatrix W → k < W.rows
    → with_row (done_to (echelon_entry q W) W k) k (row (echelon_part q (done_to (echelon_entry q W) W k)) k) ≡ done_to (echelon_entry q W) W (k + 1)
echelon_part-more q W k matrix inside =
    let V = done_to (echelon_entry q W) W k in
    done_to-more (echelon_entry q W) W k (row (echelon_part q V) k) inside (length-row-table V.rows V.cols (echelon_entry q V) k inside)
    (λ j within.
    at-table V.rows V.cols (echelon_entry q V) k j inside within
    ∙ ap (λ (x : ℕ). if nat_lt k (length q) && nat_le (slice_index q k) j then x else 0) (at-done_later (echelon_entry q W) W k k j inside within (omega arith)))

-- a PLE in place holds the echelon form
pub echelon_held : {F : Field} {m n : ℕ} (q : List ℕ) (L E W : Matrix) → HasShape F m n E → IsRising q → HasShape F m n W → Stored W q L E
    → E ≡ echelon_part q W
echelon_held {F} {m} {n} q L E W e rising w held =
    same_from_entries e (echelon_entry q W) (λ i j below within.
    let rows = e.rows in
    let cols = e.cols in
    ⊎_elim
    (λ (pivoted : i < length q). ⊎_elim
    (λ (before : j < slice_index q i).
    held.e_zeros i j (omega (arith, below, rows)) (omega (arith, within, cols)) (inr before)
    ∙ sym (rw (lt-ltb i (length q) pivoted, lt-leb (slice_index q i) j before) refl))
    (λ (behind : slice_index q i ≤ j).
    let high = rising-at_least q i rising pivoted in
    sym (at-stored_upper e q L W held i j below within pivoted (omega (arith, high, behind)) behind)
    ∙ sym (rw (lt-ltb i (length q) pivoted, le-leb (slice_index q i) j behind) refl))
    (cases_lt j (slice_index q i)))
    (λ (rest : length q ≤ i).
    held.e_zeros i j (omega (arith, below, rows)) (omega (arith, within, cols)) (inl rest)
    ∙ sym (rw (le-ltb i (length q) rest) refl))
    (cases_lt i (length q)))
    ∙ (same_whole w)
  where
    same_whole : HasShape F m n W → matrix_of F m n (echelon_entry q W) ≡ echelon_part q W
    same_whole shape = at_shape shape (λ F m n. matrix_of F m n (echelon_entry q W) ≡ echelon_part q W) refl
