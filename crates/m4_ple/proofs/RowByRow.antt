-- A matrix whose rows are made anew one by one.
use Rattle.std.proofs.Common.{◌≡◌, ℕ, ◌+◌, ◌<◌, ◌≤◌, ⊎_elim, refl, sym, ◌∙◌, ap, arith, List, length, get_or, nat_lt, if◌then◌else◌}
use Rattle.std.proofs.lemmas.Bool.{cases_lt, lt-ltb, le-ltb}
use Rattle.std.proofs.lemmas.List.{ext_get_or}
use Rattle.m4_model.specs.Field.{Field}
use Rattle.m4_model.specs.Matrix.{Matrix, IsMatrix, row, at, table, matrix_of, with_row}
use Rattle.m4_model.proofs.MatrixLemmas.{length-table, length-row-table, at-table, same_table}
use Rattle.m4_mzd.proofs.RowLemmas.{with_row-matrix_of}

-- matrices made of the same entries
pub same_made_entries : (F : Field) (m n : ℕ) (g h : ℕ → ℕ → ℕ) → ((i j : ℕ) → i < m → j < n → g i j ≡ h i j) → matrix_of F m n g ≡ matrix_of F m n h
same_made_entries F m n g h same =
    ap (λ (rows : List (List ℕ)). record { field = F; rows = m; cols = n; entries = rows })
    (same_table m n h (table m n g) (length-table m n g) (length-row-table m n g) (λ i j below within. at-table m n g i j below within ∙ same i j below within))

-- W with the entries of g in its first k rows
abbrev pub done_to : (ℕ → ℕ → ℕ) → Matrix → ℕ → Matrix
done_to g W k = matrix_of W.field W.rows W.cols (λ i j. if nat_lt i k then g i j else at W i j)

module _ (g : ℕ → ℕ → ℕ) (W : Matrix) where
  entry : ℕ → ℕ → ℕ → ℕ
  entry k i j = if nat_lt i k then g i j else at W i j

  -- none is made at first
  pub done_to-start : IsMatrix W → W ≡ done_to g W 0
  unfolding entry
  done_to-start matrix =
      ap (λ (rows : List (List ℕ)). record W { entries = rows })
      (same_table W.rows W.cols (entry 0) W.entries matrix.height matrix.width (λ i j below within. sym (rw (le-ltb i 0 (omega arith)) refl)))

  -- the others stay
  pub at-done_later : (k i j : ℕ) → i < W.rows → j < W.cols → k ≤ i → at (done_to g W k) i j ≡ at W i j
  unfolding entry
  at-done_later k i j below within later = at-table W.rows W.cols (entry k) i j below within ∙ rw (le-ltb i k later) refl

  pub row-done_later : IsMatrix W → (k i : ℕ) → i < W.rows → k ≤ i → row (done_to g W k) i ≡ row W i
  unfolding entry
  row-done_later matrix k i below later =
      let long = length-row-table W.rows W.cols (entry k) i below in
      ext_get_or 0 _ _ (long ∙ sym (matrix.width i below)) (λ j inside. at-done_later k i j below (omega (arith, inside, long)) later)

  -- one row more
  pub done_to-more : (k : ℕ) (xs : List ℕ) → k < W.rows → length xs ≡ W.cols → ((j : ℕ) → j < W.cols → get_or xs j 0 ≡ g k j)
      → with_row (done_to g W k) k xs ≡ done_to g W (k + 1)
  unfolding entry
  done_to-more k xs inside long made =
      sym (with_row-matrix_of W.field W.rows W.cols (entry k) (entry (k + 1)) k xs inside long
      (λ j within. made j within ∙ sym (rw (lt-ltb k (k + 1) (omega arith)) refl))
      (λ i j below within away. ⊎_elim
      (λ (before : i < k). rw (lt-ltb i k before, lt-ltb i (k + 1) (omega (arith, before))) refl)
      (λ (later : k ≤ i). rw (le-ltb i k later, le-ltb i (k + 1) (omega (arith, later, away))) refl)
      (cases_lt i k)))

  -- all are made
  pub done_to-all : (k : ℕ) → W.rows ≤ k → done_to g W k ≡ matrix_of W.field W.rows W.cols g
  unfolding entry
  done_to-all k all =
      same_made_entries W.field W.rows W.cols (entry k) g (λ i j below within. rw (lt-ltb i k (omega (arith, below, all))) refl)
