-- Rows of which L's entries are moved, one after another.
use Rattle.std.proofs.Common.{◌≡◌, ℕ, min, false, ◌+◌, ◌-◌, ◌<◌, ◌≤◌, ◌⊎◌, cond, inl, inr, List, length, get_or, drop, replicate, refl, sym, ◌∙◌, arith, get_or-take, get_or-drop, ap}
use Rattle.std.specs.Prelude.{nat_lt, ◌&&◌}
use Rattle.std.proofs.lemmas.Bool.{cases_lt, cond-false, cond-true, lt-ltb, le-ltb}
use Rattle.std.proofs.lemmas.List.{length-take-le, length-drop, length-replicate, get_or-replicate, take-replicate}
use Rattle.m4_model.specs.Matrix.{Matrix, IsMatrix, row, at, matrix_of, with_row}
use Rattle.m4_model.proofs.MatrixLemmas.{at-table, same_matrix, length-table, length-row-table}
use Rattle.m4_mzd.specs.Parts.{part, with_part}
use Rattle.m4_mzd.proofs.PlaceLemmas.{length-with_part, get_or-with_part_before, get_or-with_part_within, get_or-with_part_past}
use Rattle.m4_mzd.proofs.RowLemmas.{with_row-matrix_of}
use Rattle.m4_eple.specs.Halves.{moved_entry, lower_moved, moved_row}
use Rattle.m4_eple.proofs.TableLemmas.{not_both, both_or_not, moved_above, moved_away}
use Rattle.m4_eple.proofs.TableLemmas as Table

-- a part of a row of zeros
pub part-zeros : (n cols : ℕ) → n ≤ cols → part 0 n (replicate cols 0) ≡ replicate n 0
part-zeros n cols within = take-replicate n cols 0 within

-- the entries of a row of which some were moved
module _ (r left count : ℕ) (entries : List ℕ) (fits : r ≤ left) (room : left + count ≤ length entries) where
  some_long : length (part left count entries) ≡ count
  some_long = length-take-le count (drop left entries) (omega (arith, length-drop left entries, room))

  zeros_long : length {A = ℕ} (replicate (left - r) 0) ≡ left - r
  zeros_long = length-replicate (left - r) 0

  first_fits : r + length (part left count entries) ≤ length entries
  first_fits = omega (arith, some_long, fits, room)

  first_long : length (with_part r (part left count entries) entries) ≡ length entries
  first_long = length-with_part r (part left count entries) entries first_fits

  second_fits : r + count + length {A = ℕ} (replicate (left - r) 0) ≤ length (with_part r (part left count entries) entries)
  second_fits = omega (arith, zeros_long, first_long, fits, room)

  pub length-moved_row : length (moved_row r left count entries) ≡ length entries
  length-moved_row = length-with_part (r + count) (replicate (left - r) 0) (with_part r (part left count entries) entries) second_fits ∙ first_long

  pub moved_front : (j : ℕ) → j < r → get_or (moved_row r left count entries) j 0 ≡ get_or entries j 0
  moved_front j before =
      get_or-with_part_before (r + count) (replicate (left - r) 0) (with_part r (part left count entries) entries) second_fits j (omega (arith, before))
      ∙ get_or-with_part_before r (part left count entries) entries first_fits j before

  pub moved_here : (j : ℕ) → r ≤ j → j < r + count → get_or (moved_row r left count entries) j 0 ≡ get_or entries (left + (j - r)) 0
  moved_here j from below =
      get_or-with_part_before (r + count) (replicate (left - r) 0) (with_part r (part left count entries) entries) second_fits j below
      ∙ get_or-with_part_within r (part left count entries) entries first_fits j from (omega (arith, below, some_long))
      ∙ get_or-take count (drop left entries) (j - r) 0 (omega (arith, below, from)) ∙ get_or-drop left entries (j - r) 0

  pub moved_zero : (j : ℕ) → r + count ≤ j → j < left + count → get_or (moved_row r left count entries) j 0 ≡ 0
  moved_zero j from below =
      get_or-with_part_within (r + count) (replicate (left - r) 0) (with_part r (part left count entries) entries) second_fits j from (omega (arith, below, zeros_long, fits))
      ∙ get_or-replicate (left - r) (j - (r + count)) 0 0 (omega (arith, below, from, fits))

  pub moved_past : (j : ℕ) → left + count ≤ j → get_or (moved_row r left count entries) j 0 ≡ get_or entries j 0
  moved_past j past =
      get_or-with_part_past (r + count) (replicate (left - r) 0) (with_part r (part left count entries) entries) second_fits j (omega (arith, past, zeros_long, fits))
      ∙ get_or-with_part_past r (part left count entries) entries first_fits j (omega (arith, past, some_long, fits))

-- the rows before row k are moved
abbrev pub moved_to : ℕ → ℕ → ℕ → Matrix → ℕ → Matrix
moved_to r left s M k = matrix_of M.field M.rows M.cols (λ i j. cond (nat_lt i k) (moved_entry r left s M i j) (at M i j))

module _ (r left s : ℕ) (M : Matrix) (matrix : IsMatrix M) (fits : r ≤ left) (room : left + s ≤ M.cols) where
  pub moved-none : M ≡ moved_to r left s M r
  moved-none = same_matrix M.field M.rows M.cols (λ i j. cond (nat_lt i r) (moved_entry r left s M i j) (at M i j)) M refl refl refl matrix.height matrix.width
      (λ i j below within. elim (cases_lt i r) [
        | inl top ↦ rw (lt-ltb i r top) refl
        | inr bottom ↦ rw (le-ltb i r bottom) refl
      ])

  pub moved-all : (k : ℕ) → M.rows ≤ k → moved_to r left s M k ≡ lower_moved r left s M
  moved-all k all = same_matrix M.field M.rows M.cols (moved_entry r left s M) (moved_to r left s M k) refl refl refl
      (length-table M.rows M.cols (λ i j. cond (nat_lt i k) (moved_entry r left s M i j) (at M i j)))
      (length-row-table M.rows M.cols (λ i j. cond (nat_lt i k) (moved_entry r left s M i j) (at M i j)))
      (λ i j below within.
      at-table M.rows M.cols (λ i j. cond (nat_lt i k) (moved_entry r left s M i j) (at M i j)) i j below within
      ∙ cond-true (nat_lt i k) _ _ (lt-ltb i k (omega (arith, below, all))))

  -- one row more
  pub moved-more : (i : ℕ) → r ≤ i → i < M.rows → with_row (moved_to r left s M i) i (moved_row r left (min (i - r) s) (row (moved_to r left s M i) i)) ≡ moved_to r left s M (i + 1)
  moved-more i bottom below =
      let mine = row (moved_to r left s M i) i in
      let count = min (i - r) s in
      let few : count ≤ s = omega arith in
      let long : length mine ≡ M.cols = length-row-table M.rows M.cols (λ i' j. cond (nat_lt i' i) (moved_entry r left s M i' j) (at M i' j)) i below in
      let rest : left + count ≤ length mine = omega (arith, long, room, few) in
      let own : (j : ℕ) → j < M.cols → get_or mine j 0 ≡ at M i j =
      λ j within. at-table M.rows M.cols (λ i' j. cond (nat_lt i' i) (moved_entry r left s M i' j) (at M i' j)) i j below within
      ∙ cond-false (nat_lt i i) _ _ (le-ltb i i (omega arith)) in
      sym (with_row-matrix_of M.field M.rows M.cols (λ i' j. cond (nat_lt i' i) (moved_entry r left s M i' j) (at M i' j))
      (λ i' j. cond (nat_lt i' (i + 1)) (moved_entry r left s M i' j) (at M i' j)) i (moved_row r left count mine) below
      (length-moved_row r left count mine fits rest ∙ long)
      (λ j within. sym (cond-true (nat_lt i (i + 1)) _ _ (lt-ltb i (i + 1) (omega arith)) ∙ sym (entry i j bottom within mine long own)))
      (λ i' j inside within away. elim (cases_lt i' i) [
        | inl early ↦ cond-true (nat_lt i' (i + 1)) _ _ (lt-ltb i' (i + 1) (omega (arith, early))) ∙ sym (cond-true (nat_lt i' i) _ _ (lt-ltb i' i early))
        | inr late ↦ cond-false (nat_lt i' (i + 1)) _ _ (le-ltb i' (i + 1) (omega (arith, late, away))) ∙ sym (cond-false (nat_lt i' i) _ _ (le-ltb i' i late))
      ]))
    where
      least_passed : (i j : ℕ) → r + min (i - r) s ≤ j → (i ≤ j) ⊎ (r + s ≤ j)
      least_passed i j away = elim (cases_lt (i - r) s) [
        | inl less ↦ inl (omega (arith, away, less))
        | inr more ↦ inr (omega (arith, away, more))
      ]

      not_there : (i j : ℕ) → left + min (i - r) s ≤ j → (nat_lt (j + r) (left + i) && nat_lt j (left + s)) ≡ false
      not_there i j past = elim (cases_lt (j + r) (left + i)) [
        | inl under ↦ rw (lt-ltb (j + r) (left + i) under, le-ltb j (left + s) (omega (arith, past, under))) refl
        | inr over ↦ rw (le-ltb (j + r) (left + i) over) refl
      ]

      entry : (i j : ℕ) → r ≤ i → j < M.cols → (mine : List ℕ) → length mine ≡ M.cols → ((j : ℕ) → j < M.cols → get_or mine j 0 ≡ at M i j)
          → get_or (moved_row r left (min (i - r) s) mine) j 0 ≡ moved_entry r left s M i j
      entry i j bottom within mine long own =
          let count = min (i - r) s in
          let few : count ≤ s = omega arith in
          let less : count ≤ i - r = omega arith in
          let rest : left + count ≤ length mine = omega (arith, long, room, few) in
          elim (cases_lt j r) [
            | inl front ↦ moved_front r left count mine fits rest j front ∙ own j within ∙ sym (rw (le-ltb i r bottom, lt-ltb j r front) refl)
            | inr behind ↦ elim (cases_lt j (r + count)) [
              | inl here ↦
                  moved_here r left count mine fits rest j behind here ∙ own (left + (j - r)) (omega (arith, here, behind, few, room))
                  ∙ sym (rw (le-ltb i r bottom, le-ltb j r behind, lt-ltb j i (omega (arith, here, less)), lt-ltb j (r + s) (omega (arith, here, few))) refl)
              | inr away ↦
                  let over : (i ≤ j) ⊎ (r + s ≤ j) = least_passed i j away in
                  elim (cases_lt j (left + count)) [
                    | inl was ↦
                        moved_zero r left count mine fits rest j away was
                        ∙ sym (rw (le-ltb i r bottom, le-ltb j r behind, not_both j i (r + s) over, lt-ltb (j + r) (left + i) (omega (arith, was, less, bottom)), lt-ltb j (left + s) (omega (arith, was, few))) refl)
                    | inr past ↦
                        moved_past r left count mine fits rest j past ∙ own j within
                        ∙ sym (rw (le-ltb i r bottom, le-ltb j r behind, not_both j i (r + s) over) (cond-false (nat_lt (j + r) (left + i) && nat_lt j (left + s)) 0 (at M i j) (not_there i j past)))
                  ]
            ]
          ]

-- where the columns stand side by side already, nothing moves
pub moved-nothing : (r s : ℕ) (M : Matrix) → IsMatrix M → M ≡ lower_moved r r s M
moved-nothing r s M matrix = same_matrix M.field M.rows M.cols (moved_entry r r s M) M refl refl refl matrix.height matrix.width
    (λ i j below within. sym (elim (cases_lt i r) [
      | inl top ↦ moved_above r r s M i j top
      | inr bottom ↦ elim (cases_lt j r) [
        | inl front ↦ Table.moved_front r r s M i j bottom front
        | inr behind ↦ elim (both_or_not j i (r + s)) [
          | inl here ↦ let place : r + (j - r) ≡ j = omega (arith, behind) in Table.moved_here r r s M i j bottom behind here.0 here.1 ∙ ap (at M i) place
          | inr over ↦ moved_away r r s M i j bottom behind over ∙ cond-false (nat_lt (j + r) (r + i) && nat_lt j (r + s)) 0 (at M i j) (not_again i j over)
        ]
      ]
    ]))
  where
    not_again : (i j : ℕ) → (i ≤ j) ⊎ (r + s ≤ j) → (nat_lt (j + r) (r + i) && nat_lt j (r + s)) ≡ false
    not_again i j (inl over) = rw (le-ltb (j + r) (r + i) (omega (arith, over))) refl
    not_again i j (inr past) = elim (cases_lt (j + r) (r + i)) [
      | inl under ↦ rw (lt-ltb (j + r) (r + i) under, le-ltb j (r + s) past) refl
      | inr over ↦ rw (le-ltb (j + r) (r + i) over) refl
    ]
