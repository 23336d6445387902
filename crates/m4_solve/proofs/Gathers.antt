-- Columns that are gathered run by run, and rows that are put at the pivots.
use Rattle.std.proofs.Common.{◌≡◌, ◌≢◌, ℕ, ◌+◌, ◌-◌, ◌<◌, ◌≤◌, inl, inr, refl, sym, ◌∙◌, ap, ap₂, subst, arith, List, [], length, slice_index, get_or, drop, get_or-take, get_or-drop}
use Rattle.std.proofs.lemmas.Bool.{cases_lt}
use Rattle.std.proofs.lemmas.List.{length-set, get_or-set_same, get_or-set_other}
use Rattle.m4_model.specs.Matrix.{Matrix, IsMatrix, HasShape, row, at, product, with_row}
use Rattle.m4_model.specs.Shapes.{cut}
use Rattle.m4_model.specs.Rank.{IsRising}
use Rattle.m4_model.proofs.ShapeLemmas.{HasShape-own}
use Rattle.m4_model.proofs.CutLemmas.{at-cut, HasShape-cut}
use Rattle.m4_mzd.specs.Parts.{part, with_part}
use Rattle.m4_mzd.proofs.PlaceLemmas.{length-part, get_or-with_part_before, get_or-with_part_within}
use Rattle.m4_trsm.specs.Triangles.{unit_upper}
use Rattle.m4_solve.specs.Equations.{IsGathered}
use Rattle.m4_solve.specs.Factored.{IsUnitSolved}

-- Of the first i rows of K the entries from column c on are `count` entries of W's from column d on, and all else is as in K0.
pub record AreRowsCopied (W K0 : Matrix) (c d count i : ℕ) (K : Matrix) : Type 0 where
  pub height : length K.entries ≡ length K0.entries
  pub copied : (j : ℕ) → j < i → row K j ≡ with_part c (part d count (row W j)) (row K0 j)
  pub later : (j : ℕ) → i ≤ j → row K j ≡ row K0 j

pub copied_none : (W : Matrix) (c d count : ℕ) (K : Matrix) → AreRowsCopied W K c d count 0 K
copied_none W c d count K = record {
  height = refl;
  copied = λ j before. absurd (omega (arith, before));
  later = λ j from. refl;
}

-- one row more
pub copied_more : (W : Matrix) (c d count i : ℕ) (K0 K : Matrix) → i < length K0.entries → AreRowsCopied W K0 c d count i K
    → AreRowsCopied W K0 c d count (i + 1) (with_row K i (with_part c (part d count (row W i)) (row K i)))
copied_more W c d count i K0 K in_rows old =
    let xs = with_part c (part d count (row W i)) (row K i) in
    let height = old.height in
    let here : row (with_row K i xs) i ≡ xs = get_or-set_same K.entries i xs [] (omega (arith, height, in_rows)) in
    let away : (j : ℕ) → j ≢ i → row (with_row K i xs) j ≡ row K j = λ j other. get_or-set_other K.entries i j xs [] other in
    record {
      height = length-set K.entries i xs ∙ height;
      copied = λ j before. elim (cases_lt j i) [
        | inl earlier ↦ away j (λ same. absurd (omega (arith, same, earlier))) ∙ old.copied j earlier
        | inr last ↦
            let same : i ≡ j = omega (arith, before, last) in
            subst (λ (j : ℕ). row (with_row K i xs) j ≡ with_part c (part d count (row W j)) (row K0 j)) same
            (here ∙ ap (with_part c (part d count (row W i))) (old.later i (omega arith)))
      ];
      later = λ j from. away j (λ same. absurd (omega (arith, same, from))) ∙ old.later j (omega (arith, from));
    }

-- all rows
module _ {W K0 K : Matrix} {c d count n : ℕ} (done : AreRowsCopied W K0 c d count n K) (source : (i : ℕ) → i < n → d + count ≤ length (row W i))
    (target : (i : ℕ) → i < n → c + count ≤ length (row K0 i)) where
  long : (i : ℕ) → i < n → length (part d count (row W i)) ≡ count
  long i below = length-part d count (row W i) (source i below)

  room : (i : ℕ) → i < n → c + length (part d count (row W i)) ≤ length (row K0 i)
  room i below = let own = long i below in let fits = target i below in omega (arith, own, fits)

  pub copied_entry : (i u : ℕ) → i < n → u < count → at K i (c + u) ≡ at W i (d + u)
  copied_entry i u below inside =
      let own = long i below in
      let place : c + u - c ≡ u = omega arith in
      ap (λ (xs : List ℕ). get_or xs (c + u) 0) (done.copied i below)
      ∙ get_or-with_part_within c (part d count (row W i)) (row K0 i) (room i below) (c + u) (omega arith) (omega (arith, own, inside))
      ∙ ap (λ (j : ℕ). get_or (part d count (row W i)) j 0) place
      ∙ get_or-take count (drop d (row W i)) u 0 inside
      ∙ get_or-drop d (row W i) u 0

  pub copied_before : (i j : ℕ) → i < n → j < c → at K i j ≡ at K0 i j
  copied_before i j below left =
      ap (λ (xs : List ℕ). get_or xs j 0) (done.copied i below)
      ∙ get_or-with_part_before c (part d count (row W i)) (row K0 i) (room i below) j left

-- columns that were gathered run by run: one run more
pub gathered_run : (W K K1 : Matrix) (q : List ℕ) (rows s count : ℕ) → s < length q
    → ((u : ℕ) → u < count → slice_index q (s + u) ≡ slice_index q s + u)
    → ((i u : ℕ) → i < rows → u < s → at K i u ≡ at W i (slice_index q u))
    → ((i u : ℕ) → i < rows → u < count → at K1 i (s + u) ≡ at W i (slice_index q s + u))
    → ((i j : ℕ) → i < rows → j < s → at K1 i j ≡ at K i j)
    → (i u : ℕ) → i < rows → u < s + count → at K1 i u ≡ at W i (slice_index q u)
gathered_run W K K1 q rows s count inside run so_far copied before i u below within = elim (cases_lt u s) [
  | inl earlier ↦ before i u below earlier ∙ so_far i u below earlier
  | inr from ↦
      let place : s + (u - s) ≡ u = omega (arith, from) in
      let short : u - s < count = omega (arith, from, within) in
      ap (at K1 i) (sym place) ∙ copied i (u - s) below short ∙ ap (at W i) (sym (run (u - s) short) ∙ ap (slice_index q) place)
]

-- a run ends within the columns
pub run_within : (q : List ℕ) (s count cols : ℕ) → 0 < count → s + count ≤ length q → ((u : ℕ) → u < count → slice_index q (s + u) ≡ slice_index q s + u)
    → ((t : ℕ) → t < length q → slice_index q t < cols) → slice_index q s + count ≤ cols
run_within q s count cols some fits run below =
    let last = run (count - 1) (omega (arith, some)) in
    let low = below (s + (count - 1)) (omega (arith, some, fits)) in
    omega (arith, last, low, some)

-- The first k rows of Z are in the rows of their pivots, and the other rows are zero.
pub record IsPlacedTo (Z : Matrix) (q : List ℕ) (n cols k : ℕ) (X : Matrix) : Type 0 where
  pub height : length X.entries ≡ n
  pub at_pivot : (s j : ℕ) → s < k → j < cols → at X (slice_index q s) j ≡ at Z s j
  pub elsewhere : (t j : ℕ) → t < n → j < cols → ((s : ℕ) → s < k → slice_index q s ≢ t) → at X t j ≡ 0

-- one row more
pub placed_more : (Z : Matrix) (q : List ℕ) (n cols k : ℕ) (X : Matrix) → IsRising q → k < length q → slice_index q k < n
    → IsPlacedTo Z q n cols k X → IsPlacedTo Z q n cols (k + 1) (with_row X (slice_index q k) (row Z k))
placed_more Z q n cols k X rising inside below old =
    let c = slice_index q k in
    let height = old.height in
    let in_rows : c < length X.entries = omega (arith, height, below) in
    let here : row (with_row X c (row Z k)) c ≡ row Z k = get_or-set_same X.entries c (row Z k) [] in_rows in
    let away : (j : ℕ) → j ≢ c → row (with_row X c (row Z k)) j ≡ row X j = λ j other. get_or-set_other X.entries c j (row Z k) [] other in
    record {
      height = length-set X.entries c (row Z k) ∙ height;
      at_pivot = λ s j before within. elim (cases_lt s k) [
        | inl earlier ↦
            let rises = rising s k earlier inside in
            ap (λ (xs : List ℕ). get_or xs j 0) (away (slice_index q s) (λ same. absurd (omega (arith, same, rises)))) ∙ old.at_pivot s j earlier within
        | inr last ↦
            let same : k ≡ s = omega (arith, before, last) in
            subst (λ (s : ℕ). at (with_row X c (row Z k)) (slice_index q s) j ≡ at Z s j) same (ap (λ (xs : List ℕ). get_or xs j 0) here)
      ];
      elsewhere = λ t j in_n within none.
          ap (λ (xs : List ℕ). get_or xs j 0) (away t (λ same. none k (omega arith) (sym same)))
          ∙ old.elsewhere t j in_n within (λ s earlier. none s (omega (arith, earlier)));
    }

-- the first columns of the first rows
pub first_gathered : (W : Matrix) (q : List ℕ) → IsMatrix W → length q ≤ W.rows → length q ≤ W.cols → ((s : ℕ) → s < length q → slice_index q s ≡ s)
    → IsGathered W q (cut W 0 0 (length q) (length q))
first_gathered W q is_matrix in_rows in_cols own = record {
  shape = HasShape-cut (HasShape-own W is_matrix) 0 0 (length q) (length q) (length q) (length q) (omega arith) (omega arith) in_rows in_cols;
  columns = λ i s below inside.
      let row : 0 + i ≡ i = omega arith in
      let col : 0 + s ≡ s = omega arith in
      at-cut W 0 0 (length q) (length q) (length q) (length q) (omega arith) (omega arith) i s below inside
      ∙ ap₂ (at W) row (col ∙ sym (own s inside));
}

-- what a solve with the gathered columns leaves
pub unit_solved : (W Y Z T : Matrix) (q : List ℕ) → HasShape Y.field Y.rows Y.cols Z → IsGathered W q T → (n : ℕ) → n ≡ length q
    → product (unit_upper T) (cut Z 0 0 n Z.cols) ≡ cut Y 0 0 n Y.cols → IsUnitSolved W q Y Z
unit_solved W Y Z T q shape gathered n count solved = record {
  shape = shape;
  gathered = T;
  is_gathered = gathered;
  solved = subst (λ (n : ℕ). product (unit_upper T) (cut Z 0 0 n Z.cols) ≡ cut Y 0 0 n Y.cols) count solved;
}
