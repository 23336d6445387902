-- The lists and the table that the recursion leaves, put together.
use Rattle.std.proofs.Common.{◌≡◌, ℕ, ◌+◌, ◌-◌, ◌<◌, ◌≤◌, inl, inr, List, ◌++◌, length, slice_index, take, drop, map, refl, sym, ◌∙◌, ap, ap₂, subst, arith, get_or-take}
use Rattle.std.specs.Prelude.{nat_lt, nat_le, ◌&&◌, if◌then◌else◌}
use Rattle.std.proofs.lemmas.Bool.{cases_lt}
use Rattle.std.proofs.lemmas.List.{length-append, length-map, length-take-le, get_or-map, get_or_append_left, get_or-append_right, take_all, drop_all, append-nil, append_assoc, take_at}
use Rattle.m4_model.specs.Field.{Field}
use Rattle.m4_model.specs.Matrix.{Matrix, IsMatrix, HasShape, at}
use Rattle.m4_model.specs.Shapes.{above, beside, cut}
use Rattle.m4_model.specs.Factors.{stored}
use Rattle.m4_model.specs.Step.{reordered, step_order, step_pivots, step_lower, step_echelon}
use Rattle.m4_model.proofs.MatrixLemmas.{same_matrix, length-table, length-row-table}
use Rattle.m4_model.proofs.ShapeLemmas.{same_entries}
use Rattle.m4_model.proofs.ExchangeLemmas.{rising-at_least}
use Rattle.m4_model.proofs.CutLemmas.{above_cuts, HasShape-cut}
use Rattle.m4_model.proofs.BlockLemmas.{HasShape-picked_rows, HasShape-above, HasShape-beside, at-above_top, at-above_bottom, at-beside_left, at-beside_right, quarters, by_quarters, HasShape-quarters, at-quarters_11, at-quarters_12, at-quarters_21, at-quarters_22}
use Rattle.std.specs.Simd.Lanes.{zip2}
use Rattle.m4_mzed.specs.EWindow.{EWindow, content, showing}
use Rattle.m4_trsm.proofs.Windows.{before, behind, paired, stays_more}
use Rattle.m4_perm.specs.Perm.{AreSwaps}
use Rattle.m4_ple.specs.Held.{HoldsPle}
use Rattle.m4_eple.specs.Halves.{IsBroughtUp, lower_exchanged, lower_moved, moved_entry}
use Rattle.m4_eple.proofs.StepParts.{factors_of_step, held_table}
use Rattle.m4_eple.proofs.TableLemmas.{left_over, HasShape-left_over, e_shape, same_entries_moved}

-- all numbers of a list, as its first ones
pub raised_all : (f : ℕ → ℕ) (n : ℕ) (xs : List ℕ) → length xs ≡ n → map f (take n xs) ++ drop n xs ≡ map f xs
raised_all f n xs long =
    ap₂ (λ a b. map f a ++ b) (take_all n xs (omega (arith, long))) (drop_all n xs (omega (arith, long))) ∙ append-nil (map f xs)

-- exchanges of the first rows, and then of the others
module _ (r k : ℕ) (p s : List ℕ) (first : AreSwaps (r + k) p) (rest : AreSwaps k s) (room : r ≤ length p) where
  front_long : length (take r p) ≡ r
  front_long = length-take-le r p room

  rest_long : length (map (λ j. j + r) s) ≡ length s
  rest_long = length-map s (λ j. j + r)

  early_entry : (i : ℕ) → i < r → slice_index (take r p ++ map (λ j. j + r) s) i ≡ slice_index p i
  early_entry i early = get_or_append_left (take r p) (map (λ j. j + r) s) 0 i (omega (arith, early, front_long)) ∙ get_or-take r p i 0 early

  pub late_entry : (i : ℕ) → r ≤ i → i < r + length s → slice_index (take r p ++ map (λ j. j + r) s) i ≡ slice_index s (i - r) + r
  late_entry i late within =
      get_or-append_right (take r p) (map (λ j. j + r) s) r i 0 front_long late ∙ get_or-map (λ j. j + r) s (i - r) 0 0 (omega (arith, late, within))

  pub swaps_joined : AreSwaps (r + k) (take r p ++ map (λ j. j + r) s)
  swaps_joined =
      let long : length (take r p ++ map (λ j. j + r) s) ≡ r + length s = omega (arith, length-append (take r p) (map (λ j. j + r) s), front_long, rest_long) in
      record {
        count = omega (arith, long, rest.count);
        behind = λ i below. elim (cases_lt i r) [
          | inl early ↦ let e = early_entry i early in let b = first.behind i (omega (arith, early, room)) in omega (arith, e, b)
          | inr late ↦ let e = late_entry i late (omega (arith, below, long)) in let b = rest.behind (i - r) (omega (arith, below, long, late)) in omega (arith, e, b, late)
        ];
        below = λ i below. elim (cases_lt i r) [
          | inl early ↦ let e = early_entry i early in let b = first.below i (omega (arith, early, room)) in omega (arith, e, b)
          | inr late ↦ let e = late_entry i late (omega (arith, below, long)) in let b = rest.below (i - r) (omega (arith, below, long, late)) in omega (arith, e, b)
        ];
      }

-- four matrices, by columns and by rows
interchanged : {F : Field} {r k c n : ℕ} {A B C D : Matrix} → HasShape F r c A → HasShape F r n B → HasShape F k c C → HasShape F k n D
    → beside (above A C) (above B D) ≡ quarters A B C D
interchanged {F} {r} {k} {c} {n} {A} {B} {C} {D} a b low d =
    let left = HasShape-above a low in
    let right = HasShape-above b d in
    same_entries (HasShape-beside left right) (HasShape-quarters a b low d)
    (by_quarters r k c n (λ i j. at (beside (above A C) (above B D)) i j ≡ at (quarters A B C D) i j)
    (λ i j top inside. at-beside_left left right i j (omega (arith, top)) inside ∙ at-above_top a low i j top inside ∙ sym (at-quarters_11 a b low d i j top inside))
    (λ i j top inside. at-beside_right left right i j (omega (arith, top)) inside ∙ at-above_top b d i j top inside ∙ sym (at-quarters_12 a b low d i j top inside))
    (λ i j bottom inside. at-beside_left left right (r + i) j (omega (arith, bottom)) inside ∙ at-above_bottom a low i j bottom inside ∙ sym (at-quarters_21 a b low d i j bottom inside))
    (λ i j bottom inside. at-beside_right left right (r + i) j (omega (arith, bottom)) inside ∙ at-above_bottom b d i j bottom inside ∙ sym (at-quarters_22 a b low d i j bottom inside)))

-- What the recursion leaves holds a PLE of both halves.
module _ (r k : ℕ) (A1 A2 W up V : Matrix) (p1 q1 s q2 : List ℕ) (is : IsMatrix A1) (high : A1.rows ≡ r + k) (a2 : HasShape A1.field A1.rows A2.cols A2)
    (w : HasShape A1.field A1.rows A1.cols W) (u : HasShape A1.field A1.rows A2.cols up) (v : HasShape A1.field A1.rows A2.cols V) (in_cols : r ≤ A1.cols) (count : length q1 ≡ r)
    (first : HoldsPle A1 p1 q1 W) (brought : IsBroughtUp r W (reordered p1 A2) up) (top : cut V 0 0 r V.cols ≡ cut up 0 0 r up.cols)
    (rest : HoldsPle (cut up r 0 up.rows up.cols) s q2 (cut V r 0 V.rows V.cols)) (order : (i : ℕ) → i < k → slice_index s i < k)
    (room : length q2 ≤ A2.cols) where
  pub held_halves : HoldsPle (beside A1 A2) (step_order r p1 s) (step_pivots A1.cols q1 q2) (lower_moved r A1.cols (length q2) (beside (lower_exchanged r s W) V))
  held_halves =
      let F = A1.field in
      let n1 = A1.cols in
      let n2 = A2.cols in
      let X = cut V 0 0 r V.cols in
      let R = cut V r 0 V.rows V.cols in
      let K : HasShape F (r + k) n1 W = subst (λ (m : ℕ). HasShape F m n1 W) high w in
      let vk : HasShape F (r + k) n2 V = subst (λ (m : ℕ). HasShape F m n2 V) high v in
      let x : HasShape F r n2 X = HasShape-cut vk 0 0 r V.cols r n2 (omega arith) (let h = vk.cols in omega (arith, h)) (omega arith) (let h = vk.cols in omega (arith, h)) in
      let z : HasShape F k n2 R = HasShape-cut vk r 0 V.rows V.cols k n2 (sym vk.rows) (let h = vk.cols in omega (arith, h)) (let h = vk.rows in omega (arith, h)) (let h = vk.cols in omega (arith, h)) in
      let ple = factors_of_step A1 A2 W up R p1 q1 s q2 r is a2 w (subst (HasShape F r n2) top x) (omega (arith, high)) in_cols count first brought rest in
      let left_rows : up.rows - r ≡ k = let h = u.rows in omega (arith, h, high) in
      let left_cols : up.cols - 0 ≡ n2 = let h = u.cols in omega (arith, h) in
      let l2 : HasShape F k k rest.l = subst (λ (m : ℕ). HasShape F m m rest.l) left_rows (subst (λ (G : Field). HasShape G (up.rows - r) (up.rows - r) rest.l) u.over rest.factors.l_shape) in
      let e2 : HasShape F k n2 rest.e =
      subst (λ (n : ℕ). HasShape F k n rest.e) left_cols (subst (λ (m : ℕ). HasShape F m (up.cols - 0) rest.e) left_rows
      (subst (λ (G : Field). HasShape G (up.rows - r) (up.cols - 0) rest.e) u.over rest.factors.e_shape)) in
      let l1 : HasShape F (r + k) (r + k) first.l = subst (λ (m : ℕ). HasShape F m m first.l) high first.factors.l_shape in
      let e1 : HasShape F (r + k) n1 first.e = subst (λ (m : ℕ). HasShape F m n1 first.e) high first.factors.e_shape in
      let least : (i : ℕ) → i < length q2 → i ≤ slice_index q2 i = λ i within. rising-at_least q2 i rest.factors.e_form.rising within in
      let cols : (i : ℕ) → i < length q1 → slice_index q1 i < n1 = λ i within. let h = first.factors.e_form.columns i within in let c = first.factors.e_shape.cols in omega (arith, h, c) in
      let M = left_over r k n1 n2 q1 q2 s K x z l1 l2 e1 e2 first.stored.table rest.stored.table count in_cols room cols least order in
      let lo = HasShape-left_over r k n1 n2 q1 q2 s K x z l1 l2 e1 e2 first.stored.table rest.stored.table count in_cols room cols least order in
      let es = e_shape r k n1 n2 q1 q2 s K x z l1 l2 e1 e2 first.stored.table rest.stored.table count in_cols room cols least order in
      let pv = step_pivots n1 q1 q2 in
      let L = step_lower r first.l s rest.l in
      let E = step_echelon r first.e X rest.e in
      let f : ℕ → ℕ → ℕ = λ i j. if nat_lt j i && nat_lt j (length pv) then at L i j else if nat_lt i (length pv) && nat_le (slice_index pv i) j then at E i j else 0 in
      let rows : E.rows ≡ M.rows = es.rows ∙ sym lo.rows in
      let across : E.cols ≡ M.cols = es.cols ∙ sym lo.cols in
      let moved : stored pv L E ≡ lower_moved r n1 (length q2) M =
      same_matrix M.field M.rows M.cols (moved_entry r n1 (length q2) M) (stored pv L E) (es.over ∙ sym lo.over) rows across
      (length-table E.rows E.cols f ∙ rows)
      (λ i below. length-row-table E.rows E.cols f i (omega (arith, below, rows)) ∙ across)
      (λ i j below within. sym (same_entries_moved r k n1 n2 q1 q2 s K x z l1 l2 e1 e2 first.stored.table rest.stored.table count in_cols room cols least order i j
      (let h = lo.rows in omega (arith, below, h)) (let h = lo.cols in omega (arith, within, h)))) in
      let top_left : HasShape F r n1 (cut W 0 0 r n1) = HasShape-cut K 0 0 r n1 r n1 (omega arith) (omega arith) (omega arith) (omega arith) in
      let low_left : HasShape F k n1 (cut W r 0 (r + k) n1) = HasShape-cut K r 0 (r + k) n1 k n1 refl (omega arith) (omega arith) (omega arith) in
      let low_moved : HasShape F k n1 (reordered s (cut W r 0 (r + k) n1)) = HasShape-picked_rows low_left (slice_index s) order in
      let left_is : lower_exchanged r s W ≡ above (cut W 0 0 r n1) (reordered s (cut W r 0 (r + k) n1)) =
      λ i. above (cut W 0 0 r (K.cols i)) (reordered s (cut W r 0 (K.rows i) (K.cols i))) in
      let right_is : V ≡ above X R = above_cuts vk r k refl ∙ (λ i. above (cut V 0 0 r (sym vk.cols i)) (cut V r 0 (sym vk.rows i) (sym vk.cols i))) in
      let whole : beside (lower_exchanged r s W) V ≡ M = ap₂ beside left_is right_is ∙ interchanged top_left x low_moved z in
      subst (HoldsPle (beside A1 A2) (step_order r p1 s) pv)
      (ap (λ (Y : Matrix). stored pv L (step_echelon r first.e Y rest.e)) (sym top) ∙ moved ∙ ap (lower_moved r n1 (length q2)) (sym whole))
      (held_table (beside A1 A2) (step_order r p1 s) pv (r + length q2) L (step_echelon r first.e (cut up 0 0 r up.cols) rest.e) ple)

-- pivots of the left columns, and then those of the right ones
module _ (r n cut : ℕ) (q1 q2 : List ℕ) (room : r ≤ length q1) (more : n ≤ length q2) where
  raised : length (map (λ j. j + cut) (take n q2)) ≡ n
  raised = length-map (take n q2) (λ j. j + cut) ∙ length-take-le n q2 more

  first_ones : length (take r q1) ≡ r
  first_ones = length-take-le r q1 room

  pub pivots_joined : take (r + n) (take r q1 ++ (map (λ j. j + cut) (take n q2) ++ drop n q2)) ≡ step_pivots cut (take r q1) (take n q2)
  pivots_joined =
      let both = take r q1 ++ map (λ j. j + cut) (take n q2) in
      let long : length both ≡ r + n = omega (arith, length-append (take r q1) (map (λ j. j + cut) (take n q2)), raised, first_ones) in
      ap (take (r + n)) (sym (append_assoc (take r q1) (map (λ j. j + cut) (take n q2)) (drop n q2))) ∙ take_at both (drop n q2) (r + n) long

  pub pivots_below : (cols : ℕ) → ((i : ℕ) → i < r → slice_index q1 i < cut) → cut ≤ cols → ((i : ℕ) → i < n → slice_index q2 i + cut < cols) → (i : ℕ) → i < r + n
      → slice_index (take r q1 ++ (map (λ j. j + cut) (take n q2) ++ drop n q2)) i < cols
  pivots_below cols left within right i below = elim (cases_lt i r) [
    | inl early ↦
        let e : slice_index (take r q1 ++ (map (λ j. j + cut) (take n q2) ++ drop n q2)) i ≡ slice_index q1 i =
        get_or_append_left (take r q1) (map (λ j. j + cut) (take n q2) ++ drop n q2) 0 i (omega (arith, early, first_ones)) ∙ get_or-take r q1 i 0 early in
        let b = left i early in omega (arith, e, b, within)
    | inr late ↦
        let here : i - r < n = omega (arith, below, late) in
        let e : slice_index (take r q1 ++ (map (λ j. j + cut) (take n q2) ++ drop n q2)) i ≡ slice_index q2 (i - r) + cut =
        get_or-append_right (take r q1) (map (λ j. j + cut) (take n q2) ++ drop n q2) r i 0 first_ones late
        ∙ get_or_append_left (map (λ j. j + cut) (take n q2)) (drop n q2) 0 (i - r) (omega (arith, here, raised))
        ∙ get_or-map (λ j. j + cut) (take n q2) (i - r) 0 0 (omega (arith, here, length-take-le n q2 more)) ∙ ap (λ x. x + cut) (get_or-take n q2 (i - r) 0 here) in
        let b = right (i - r) here in omega (arith, e, b)
  ]

-- a window whose columns were written and joined again
pub kept_paired : (w a b s : EWindow) (k : ℕ) → k ≤ w.cols → a ≡ showing (before w k) (content a) → b ≡ showing (behind w k) (content b) → s ≡ paired a b → s ≡ showing w (content s)
kept_paired w a b s k within left right joined =
    let entries = zip2 (λ l r. l ++ r) a.entries b.entries in
    let cols : k + (w.cols - k) ≡ w.cols = omega (arith, within) in
    stays_more w w s (record (content w) { entries = entries }) refl
    (joined ∙ (λ i. paired (left i) (right i)) ∙ (λ i. record w { cols = cols i; entries = entries }))
