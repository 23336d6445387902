use Rattle.std.proofs.Common.{◌≡◌, ◌∙◌, ◌+◌, ◌-◌, ◌<◌, ◌≤◌, ℕ, List, ◌++◌, length, slice_index, take, drop, map, refl, ap, ap₂, sym, subst, arith, get_or-drop}
use Rattle.std.proofs.lemmas.List.{length-take-le, length-drop, take-append-drop}
use Rattle.m4_model.specs.Matrix.{Matrix, IsMatrix, HasShape}
use Rattle.m4_model.specs.Shapes.{above, beside, cut, swaps}
use Rattle.m4_model.specs.Step.{reordered, step_order, step_pivots}
use Rattle.m4_model.proofs.ExchangeLemmas.{IsOrder-swaps}
use Rattle.m4_mzed.specs.EWindow.{EWindow, content, showing}
use Rattle.m4_perm.specs.Perm.{AreSwaps}
use Rattle.m4_ple.specs.Held.{HoldsPle}
use Rattle.m4_trsm.proofs.Windows.{upper, lower, before, behind, stays_more, shown_above, shown_beside, parted_beside}
use Rattle.m4_eple.specs.Halves.{IsBroughtUp, lower_exchanged, lower_moved}
use Rattle.m4_eple.proofs.StepParts.{top_cut, bottom_cut, joined_top, joined_bottom, kept_joined}
use Rattle.m4_eple.proofs.SwapLemmas.{swaps_of_step}
use Rattle.m4_eple.proofs.HalvesLemmas.{raised_all, swaps_joined, late_entry, held_halves, pivots_joined, pivots_below, kept_paired}
use Rattle.m4_eple.proofs.halves.+ple.Goals as goal

pub ple_by_halves-raise-requires-clause-small : goal.ple_by_halves-raise-requires-clause-small
ple_by_halves-raise-requires-clause-small g t c i below =
    let b = c.ple_right-second.ensures.exchanges.below i below in
    omega (arith, b, c.split_at_mut-behind.ensures.back_len, c.ple_by_halves-first.ensures.all, c.requires.exchanges, c.rows-rows.ensures.few_rows)

pub ple_by_halves-raise-requires-2-clause-small : goal.ple_by_halves-raise-requires-2-clause-small
ple_by_halves-raise-requires-2-clause-small g t c i below =
    let w = c.args.a.now in
    let k = c.cut_at-cut.result in
    let l0 = c.split_cols-left.result.0 in
    let r0 = c.split_cols-left.result.1 in
    let l1 = c.ple_by_halves-first.new.a in
    let r1 = c.bring_up.new.right in
    let l2 = c.ple_right-second.new.left in
    let r2 = c.ple_right-second.new.right in
    let l0_at : l0 ≡ before w k = c.split_cols-left.ensures.left ∙ ap (λ (u : EWindow). before u k) c.take.ensures.whole in
    let r0_at : r0 ≡ behind w k = c.split_cols-left.ensures.right ∙ ap (λ (u : EWindow). behind u k) c.take.ensures.whole in
    let within : k ≤ w.cols = omega (arith, c.cut_at-cut.ensures.less, c.cols-cols.ensures.cols) in
    let b = c.ple_right-second.ensures.in_cols i below in
    let across : r1.cols ≡ w.cols - k = ap (λ (u : EWindow). u.cols) c.bring_up.ensures.kept ∙ ap (λ (u : EWindow). u.cols) r0_at in
    omega (arith, b, across, within, c.cols-cols.ensures.cols, c.cols-cols.type_inv)

pub ple_by_halves-returns-clause-kept : goal.ple_by_halves-returns-clause-kept
ple_by_halves-returns-clause-kept g t c =
    let w = c.args.a.now in
    let k = c.cut_at-cut.result in
    let l0 = c.split_cols-left.result.0 in
    let r0 = c.split_cols-left.result.1 in
    let l1 = c.ple_by_halves-first.new.a in
    let r1 = c.bring_up.new.right in
    let l2 = c.ple_right-second.new.left in
    let r2 = c.ple_right-second.new.right in
    let l0_at : l0 ≡ before w k = c.split_cols-left.ensures.left ∙ ap (λ (u : EWindow). before u k) c.take.ensures.whole in
    let r0_at : r0 ≡ behind w k = c.split_cols-left.ensures.right ∙ ap (λ (u : EWindow). behind u k) c.take.ensures.whole in
    let within : k ≤ w.cols = omega (arith, c.cut_at-cut.ensures.less, c.cols-cols.ensures.cols) in
    let l2_at : l2 ≡ showing (before w k) (content l2) =
    stays_more l0 l1 l2 (content l2) c.ple_by_halves-first.ensures.kept c.ple_right-second.ensures.left_kept ∙ ap (λ (u : EWindow). showing u (content l2)) l0_at in
    let r2_at : r2 ≡ showing (behind w k) (content r2) =
    stays_more r0 r1 r2 (content r2) c.bring_up.ensures.kept c.ple_right-second.ensures.right_kept ∙ ap (λ (u : EWindow). showing u (content r2)) r0_at in
    let S = c.put_back.new.self in
    stays_more w S c.move_lower.new.a (lower_moved c.ple_by_halves-first.result k c.ple_right-second.result (content S))
    (kept_paired w l2 r2 S k within l2_at r2_at (c.put_back.ensures ∙ c.join_cols.ensures)) c.move_lower.ensures.moved

pub ple_by_halves-returns-clause-spare : goal.ple_by_halves-returns-clause-spare
ple_by_halves-returns-clause-spare g t c =
    let w = c.args.spare.now in
    let k = c.cut_at-cut.result in
    let l0 = c.split_cols-spare_left.result.0 in
    let r0 = c.split_cols-spare_left.result.1 in
    let l1 = c.ple_by_halves-first.new.spare in
    let r1 = c.ple_right-second.new.spare in
    let S = c.put_back-2.new.self in
    let l0_at : l0 ≡ before w k = c.split_cols-spare_left.ensures.left ∙ ap (λ (u : EWindow). before u k) c.take-2.ensures.whole in
    let r0_at : r0 ≡ behind w k = c.split_cols-spare_left.ensures.right ∙ ap (λ (u : EWindow). behind u k) c.take-2.ensures.whole in
    let within : k ≤ w.cols = omega (arith, c.cut_at-cut.ensures.less, c.cols-cols.ensures.cols, c.requires.same_cols) in
    stays_more w S c.move_lower.new.spare (content c.move_lower.new.spare)
    (kept_paired w l1 r1 S k within (c.ple_by_halves-first.ensures.spare ∙ ap (λ (u : EWindow). showing u (content l1)) l0_at)
    (c.ple_right-second.ensures.spare ∙ ap (λ (u : EWindow). showing u (content r1)) r0_at) (c.put_back-2.ensures ∙ c.join_cols-2.ensures))
    c.move_lower.ensures.spare

pub ple_by_halves-returns-clause-exchanges : goal.ple_by_halves-returns-clause-exchanges
ple_by_halves-returns-clause-exchanges g t c =
    let w = c.args.a.now in
    let k = c.cut_at-cut.result in
    let l0 = c.split_cols-left.result.0 in
    let r0 = c.split_cols-left.result.1 in
    let l1 = c.ple_by_halves-first.new.a in
    let r1 = c.bring_up.new.right in
    let l2 = c.ple_right-second.new.left in
    let r2 = c.ple_right-second.new.right in
    let l0_at : l0 ≡ before w k = c.split_cols-left.ensures.left ∙ ap (λ (u : EWindow). before u k) c.take.ensures.whole in
    let r0_at : r0 ≡ behind w k = c.split_cols-left.ensures.right ∙ ap (λ (u : EWindow). behind u k) c.take.ensures.whole in
    let within : k ≤ w.cols = omega (arith, c.cut_at-cut.ensures.less, c.cols-cols.ensures.cols) in
    let P = c.ple_by_halves-first.new.p in
    let s = c.ple_right-second.new.p in
    let r = c.ple_by_halves-first.result in
    let n = c.ple_right-second.result in
    let h = length c.split_at_mut-behind.result.1.now in
    let list_is : c.split_at_mut-behind.result.0.now ++ c.raise.new.list ≡ take r P ++ map (λ j. j + r) s =
    ap₂ (λ x y. x ++ y) c.split_at_mut-behind.ensures.front (c.raise.ensures ∙ raised_all (λ j. j + r) (length s) s refl) in
    let rows_are : l0.rows ≡ w.rows = ap (λ (u : EWindow). u.rows) l0_at in
    let long : length P ≡ w.rows = c.ple_by_halves-first.ensures.all ∙ c.requires.exchanges in
    let total : r + h ≡ w.rows = omega (arith, c.split_at_mut-behind.ensures.back_len, long) in
    let room : r ≤ length P = omega (arith, c.split_at_mut-behind.ensures.back_len) in
    let first : AreSwaps (r + h) P = subst (λ (m : ℕ). AreSwaps m P) (rows_are ∙ sym total) c.ple_by_halves-first.ensures.exchanges in
    subst (AreSwaps w.rows) (sym list_is) (subst (λ (m : ℕ). AreSwaps m (take r P ++ map (λ j. j + r) s)) total (swaps_joined r h P s first c.ple_right-second.ensures.exchanges room))

pub ple_by_halves-returns-clause-stay : goal.ple_by_halves-returns-clause-stay
ple_by_halves-returns-clause-stay g t c i past below =
    let w = c.args.a.now in
    let k = c.cut_at-cut.result in
    let l0 = c.split_cols-left.result.0 in
    let r0 = c.split_cols-left.result.1 in
    let l1 = c.ple_by_halves-first.new.a in
    let r1 = c.bring_up.new.right in
    let l2 = c.ple_right-second.new.left in
    let r2 = c.ple_right-second.new.right in
    let l0_at : l0 ≡ before w k = c.split_cols-left.ensures.left ∙ ap (λ (u : EWindow). before u k) c.take.ensures.whole in
    let r0_at : r0 ≡ behind w k = c.split_cols-left.ensures.right ∙ ap (λ (u : EWindow). behind u k) c.take.ensures.whole in
    let within : k ≤ w.cols = omega (arith, c.cut_at-cut.ensures.less, c.cols-cols.ensures.cols) in
    let P = c.ple_by_halves-first.new.p in
    let s = c.ple_right-second.new.p in
    let r = c.ple_by_halves-first.result in
    let n = c.ple_right-second.result in
    let h = length c.split_at_mut-behind.result.1.now in
    let list_is : c.split_at_mut-behind.result.0.now ++ c.raise.new.list ≡ take r P ++ map (λ j. j + r) s =
    ap₂ (λ x y. x ++ y) c.split_at_mut-behind.ensures.front (c.raise.ensures ∙ raised_all (λ j. j + r) (length s) s refl) in
    let rows_are : l0.rows ≡ w.rows = ap (λ (u : EWindow). u.rows) l0_at in
    let long : length P ≡ w.rows = c.ple_by_halves-first.ensures.all ∙ c.requires.exchanges in
    let total : r + h ≡ w.rows = omega (arith, c.split_at_mut-behind.ensures.back_len, long) in
    let room : r ≤ length P = omega (arith, c.split_at_mut-behind.ensures.back_len) in
    let first : AreSwaps (r + h) P = subst (λ (m : ℕ). AreSwaps m P) (rows_are ∙ sym total) c.ple_by_halves-first.ensures.exchanges in
    let late : r ≤ i = omega (arith, past) in
    let own = c.ple_right-second.ensures.stay (i - r) (omega (arith, past)) (omega (arith, below, total, late)) in
    ap (λ (l : List ℕ). slice_index l i) list_is
    ∙ late_entry r h P s first c.ple_right-second.ensures.exchanges room i late (omega (arith, below, total, c.ple_right-second.ensures.all))
    ∙ omega (arith, own, late)

pub ple_by_halves-returns-clause-in_cols : goal.ple_by_halves-returns-clause-in_cols
ple_by_halves-returns-clause-in_cols g t c i below =
    let w = c.args.a.now in
    let k = c.cut_at-cut.result in
    let l0 = c.split_cols-left.result.0 in
    let r0 = c.split_cols-left.result.1 in
    let l1 = c.ple_by_halves-first.new.a in
    let r1 = c.bring_up.new.right in
    let l2 = c.ple_right-second.new.left in
    let r2 = c.ple_right-second.new.right in
    let l0_at : l0 ≡ before w k = c.split_cols-left.ensures.left ∙ ap (λ (u : EWindow). before u k) c.take.ensures.whole in
    let r0_at : r0 ≡ behind w k = c.split_cols-left.ensures.right ∙ ap (λ (u : EWindow). behind u k) c.take.ensures.whole in
    let within : k ≤ w.cols = omega (arith, c.cut_at-cut.ensures.less, c.cols-cols.ensures.cols) in
    let Q = c.ple_by_halves-first.new.q in
    let T = c.ple_right-second.new.q in
    let r = c.ple_by_halves-first.result in
    let n = c.ple_right-second.result in
    let list_is : c.split_at_mut-pivots.result.0.now ++ c.raise-2.new.list ≡ take r Q ++ (map (λ j. j + k) (take n T) ++ drop n T) =
    ap₂ (λ x y. x ++ y) c.split_at_mut-pivots.ensures.front c.raise-2.ensures in
    let across : r1.cols ≡ w.cols - k = ap (λ (u : EWindow). u.cols) c.bring_up.ensures.kept ∙ ap (λ (u : EWindow). u.cols) r0_at in
    let narrow : l0.cols ≡ k = ap (λ (u : EWindow). u.cols) l0_at in
    subst (λ (l : List ℕ). slice_index l i < w.cols) (sym list_is)
    (pivots_below r n k Q T c.ple_by_halves-first.ensures.rank c.ple_right-second.ensures.rank w.cols
    (λ i early. let b = c.ple_by_halves-first.ensures.in_cols i early in omega (arith, b, narrow)) within
    (λ i late. let b = c.ple_right-second.ensures.in_cols i late in omega (arith, b, across, within)) i below)

pub ple_by_halves-returns-clause-factors : goal.ple_by_halves-returns-clause-factors
ple_by_halves-returns-clause-factors g t c =
    let w = c.args.a.now in
    let k = c.cut_at-cut.result in
    let l0 = c.split_cols-left.result.0 in
    let r0 = c.split_cols-left.result.1 in
    let l1 = c.ple_by_halves-first.new.a in
    let r1 = c.bring_up.new.right in
    let l2 = c.ple_right-second.new.left in
    let r2 = c.ple_right-second.new.right in
    let l0_at : l0 ≡ before w k = c.split_cols-left.ensures.left ∙ ap (λ (u : EWindow). before u k) c.take.ensures.whole in
    let r0_at : r0 ≡ behind w k = c.split_cols-left.ensures.right ∙ ap (λ (u : EWindow). behind u k) c.take.ensures.whole in
    let within : k ≤ w.cols = omega (arith, c.cut_at-cut.ensures.less, c.cols-cols.ensures.cols) in
    let l2_at : l2 ≡ showing (before w k) (content l2) =
    stays_more l0 l1 l2 (content l2) c.ple_by_halves-first.ensures.kept c.ple_right-second.ensures.left_kept ∙ ap (λ (u : EWindow). showing u (content l2)) l0_at in
    let r2_at : r2 ≡ showing (behind w k) (content r2) =
    stays_more r0 r1 r2 (content r2) c.bring_up.ensures.kept c.ple_right-second.ensures.right_kept ∙ ap (λ (u : EWindow). showing u (content r2)) r0_at in
    let P = c.ple_by_halves-first.new.p in
    let s = c.ple_right-second.new.p in
    let r = c.ple_by_halves-first.result in
    let n = c.ple_right-second.result in
    let h = length c.split_at_mut-behind.result.1.now in
    let list_is : c.split_at_mut-behind.result.0.now ++ c.raise.new.list ≡ take r P ++ map (λ j. j + r) s =
    ap₂ (λ x y. x ++ y) c.split_at_mut-behind.ensures.front (c.raise.ensures ∙ raised_all (λ j. j + r) (length s) s refl) in
    let rows_are : l0.rows ≡ w.rows = ap (λ (u : EWindow). u.rows) l0_at in
    let long : length P ≡ w.rows = c.ple_by_halves-first.ensures.all ∙ c.requires.exchanges in
    let total : r + h ≡ w.rows = omega (arith, c.split_at_mut-behind.ensures.back_len, long) in
    let room : r ≤ length P = omega (arith, c.split_at_mut-behind.ensures.back_len) in
    let first : AreSwaps (r + h) P = subst (λ (m : ℕ). AreSwaps m P) (rows_are ∙ sym total) c.ple_by_halves-first.ensures.exchanges in
    let Q = c.ple_by_halves-first.new.q in
    let T = c.ple_right-second.new.q in
    let S = c.put_back.new.self in
    let A1 = content l0 in
    let A2 = content r0 in
    let W = content l1 in
    let up = content r1 in
    let V = content r2 in
    let pivots_are : c.split_at_mut-pivots.result.0.now ++ c.raise-2.new.list ≡ take r Q ++ (map (λ j. j + k) (take n T) ++ drop n T) =
    ap₂ (λ x y. x ++ y) c.split_at_mut-pivots.ensures.front c.raise-2.ensures in
    let narrow : l0.cols ≡ k = ap (λ (u : EWindow). u.cols) l0_at in
    let one_field : r0.field ≡ l0.field = ap (λ (u : EWindow). u.field) r0_at ∙ sym (ap (λ (u : EWindow). u.field) l0_at) in
    let same_rows : r0.rows ≡ l0.rows = ap (λ (u : EWindow). u.rows) r0_at ∙ sym rows_are in
    let r1_kept = c.bring_up.ensures.kept in
    let r2_kept = stays_more r0 r1 r2 (content r2) r1_kept c.ple_right-second.ensures.right_kept in
    let a2 : HasShape l0.field l0.rows r0.cols A2 = record { is_matrix = c.cols-right.ensures.matrix; over = one_field; rows = same_rows; cols = refl } in
    let l1_shape : HasShape l0.field l0.rows l0.cols W = record {
      is_matrix = c.cols-left_factored.ensures.matrix;
      over = ap (λ (u : EWindow). u.field) c.ple_by_halves-first.ensures.kept;
      rows = ap (λ (u : EWindow). u.rows) c.ple_by_halves-first.ensures.kept;
      cols = ap (λ (u : EWindow). u.cols) c.ple_by_halves-first.ensures.kept;
    } in
    let u_shape : HasShape l0.field l0.rows r0.cols up = record {
      is_matrix = c.cols-right_up.ensures.matrix;
      over = ap (λ (u : EWindow). u.field) r1_kept ∙ one_field;
      rows = ap (λ (u : EWindow). u.rows) r1_kept ∙ same_rows;
      cols = ap (λ (u : EWindow). u.cols) r1_kept;
    } in
    let v_shape : HasShape l0.field l0.rows r0.cols V = record {
      is_matrix = c.cols-right_done.ensures.matrix;
      over = ap (λ (u : EWindow). u.field) r2_kept ∙ one_field;
      rows = ap (λ (u : EWindow). u.rows) r2_kept ∙ same_rows;
      cols = ap (λ (u : EWindow). u.cols) r2_kept;
    } in
    let brought : IsBroughtUp r W (reordered (swaps l0.rows P) A2) up =
    subst (λ (m : ℕ). IsBroughtUp r W (reordered (swaps m P) A2) up) same_rows (subst (λ (L : Matrix). IsBroughtUp r L (reordered (swaps r0.rows P) A2) up) c.see.ensures c.bring_up.ensures.up) in
    let order = (IsOrder-swaps h s c.ple_right-second.ensures.exchanges.count c.ple_right-second.ensures.exchanges.below).below in
    let few : length (take n T) ≡ n = length-take-le n T c.ple_right-second.ensures.rank in
    let across : r1.cols ≡ r0.cols = ap (λ (u : EWindow). u.cols) r1_kept in
    let H = held_halves r h A1 A2 W up V (swaps l0.rows P) (take r Q) (swaps h s) (take n T) c.cols-left.ensures.matrix (rows_are ∙ sym total) a2 l1_shape u_shape v_shape
    c.ple_by_halves-first.ensures.few_cols (length-take-le r Q c.ple_by_halves-first.ensures.rank) c.ple_by_halves-first.ensures.factors brought c.ple_right-second.ensures.top
    c.ple_right-second.ensures.rest order (omega (arith, few, across, c.ple_right-second.ensures.few_cols)) in
    let whole : beside A1 A2 ≡ content w =
    ap₂ (λ (u v : EWindow). beside (content u) (content v)) l0_at r0_at
    ∙ parted_beside w k within (subst (λ (u : EWindow). IsMatrix (content u)) l0_at c.cols-left.ensures.matrix) (subst (λ (u : EWindow). IsMatrix (content u)) r0_at c.cols-right.ensures.matrix) in
    let stepped : step_order r (swaps l0.rows P) (swaps h s) ≡ swaps w.rows (c.split_at_mut-behind.result.0.now ++ c.raise.new.list) =
    (λ i. step_order r (swaps ((rows_are ∙ sym total) i) (sym (take-append-drop r P) i)) (swaps h s))
    ∙ sym (swaps_of_step r h (take r P) (drop r P) s (length-take-le r P room) (omega (arith, length-drop r P, long, total))
    (λ i below. get_or-drop r P i 0 ∙ c.ple_by_halves-first.ensures.stay (r + i) (omega arith) (omega (arith, below, rows_are, total)))
    c.ple_right-second.ensures.exchanges.count c.ple_right-second.ensures.exchanges.below)
    ∙ (λ i. swaps (total i) (sym list_is i)) in
    let pivoted : step_pivots l0.cols (take r Q) (take n T) ≡ take (r + n) (c.split_at_mut-pivots.result.0.now ++ c.raise-2.new.list) =
    ap (λ (m : ℕ). step_pivots m (take r Q) (take n T)) narrow
    ∙ sym (pivots_joined r n k Q T c.ple_by_halves-first.ensures.rank c.ple_right-second.ensures.rank) ∙ ap (take (r + n)) (sym pivots_are) in
    let shown : content S ≡ beside (lower_exchanged r (swaps h s) W) V =
    ap content (c.put_back.ensures ∙ c.join_cols.ensures)
    ∙ shown_beside w l2 r2 k c.cols-left_done.ensures.matrix c.cols-right_done.ensures.matrix l2_at r2_at
    ∙ ap (λ (L : Matrix). beside L V) c.ple_right-second.ensures.left in
    let moved : lower_moved r l0.cols (length (take n T)) (beside (lower_exchanged r (swaps h s) W) V) ≡ content c.move_lower.new.a =
    (λ i. lower_moved r (narrow i) (few i) (sym shown i)) ∙ sym (ap content c.move_lower.ensures.moved) in
    subst (HoldsPle (content w) (swaps w.rows (c.split_at_mut-behind.result.0.now ++ c.raise.new.list)) (take (r + n) (c.split_at_mut-pivots.result.0.now ++ c.raise-2.new.list))) moved
    (subst (λ (q : List ℕ). HoldsPle (content w) (swaps w.rows (c.split_at_mut-behind.result.0.now ++ c.raise.new.list)) q (lower_moved r l0.cols (length (take n T)) (beside (lower_exchanged r (swaps h s) W) V))) pivoted
    (subst (λ (p : List ℕ). HoldsPle (content w) p (step_pivots l0.cols (take r Q) (take n T)) (lower_moved r l0.cols (length (take n T)) (beside (lower_exchanged r (swaps h s) W) V))) stepped
    (subst (λ (A : Matrix). HoldsPle A (step_order r (swaps l0.rows P) (swaps h s)) (step_pivots l0.cols (take r Q) (take n T)) (lower_moved r l0.cols (length (take n T)) (beside (lower_exchanged r (swaps h s) W) V))) whole H)))

pub ple_right-returns-clause-right_kept : goal.ple_right-returns-clause-right_kept
ple_right-returns-clause-right_kept g t c =
    let w = c.args.right.now in
    let r = c.args.first in
    let x0 = c.split_rows-x.result.0 in
    let v0 = c.split_rows-x.result.1 in
    let v1 = c.ple_by_halves-second.new.a in
    let S = c.put_back.new.self in
    let in_right : r ≤ w.rows = omega (arith, c.requires.exchanges, c.requires.rows) in
    let x0_at : x0 ≡ upper w r = c.split_rows-x.ensures.above ∙ ap (λ (u : EWindow). upper u r) c.take.ensures.whole in
    let v0_at : v0 ≡ lower w r = c.split_rows-x.ensures.below ∙ ap (λ (u : EWindow). lower u r) c.take.ensures.whole in
    let x_at : x0 ≡ showing (upper w r) (content x0) = ap (λ (u : EWindow). showing u (content x0)) x0_at in
    let v1_at : v1 ≡ showing (lower w r) (content v1) = c.ple_by_halves-second.ensures.kept ∙ ap (λ (u : EWindow). showing u (content v1)) v0_at in
    kept_joined w x0 v1 S r in_right x_at v1_at (c.put_back.ensures ∙ c.join_rows.ensures)

pub ple_right-returns-clause-top : goal.ple_right-returns-clause-top
ple_right-returns-clause-top g t c =
    let w = c.args.right.now in
    let r = c.args.first in
    let x0 = c.split_rows-x.result.0 in
    let v0 = c.split_rows-x.result.1 in
    let v1 = c.ple_by_halves-second.new.a in
    let S = c.put_back.new.self in
    let in_right : r ≤ w.rows = omega (arith, c.requires.exchanges, c.requires.rows) in
    let x0_at : x0 ≡ upper w r = c.split_rows-x.ensures.above ∙ ap (λ (u : EWindow). upper u r) c.take.ensures.whole in
    let v0_at : v0 ≡ lower w r = c.split_rows-x.ensures.below ∙ ap (λ (u : EWindow). lower u r) c.take.ensures.whole in
    let x_at : x0 ≡ showing (upper w r) (content x0) = ap (λ (u : EWindow). showing u (content x0)) x0_at in
    let v1_at : v1 ≡ showing (lower w r) (content v1) = c.ple_by_halves-second.ensures.kept ∙ ap (λ (u : EWindow). showing u (content v1)) v0_at in
    let V = content S in
    let X = content x0 in
    let R = content v1 in
    let V_is : V ≡ above X R = ap content (c.put_back.ensures ∙ c.join_rows.ensures)
    ∙ shown_above w x0 v1 r in_right c.rows-rows_of_x.ensures.matrix c.rows-rows_factored.ensures.matrix x_at v1_at in
    let x_shape : HasShape w.field r w.cols X = record {
      is_matrix = c.rows-rows_of_x.ensures.matrix;
      over = ap (λ (u : EWindow). u.field) x_at;
      rows = ap (λ (u : EWindow). u.rows) x_at;
      cols = ap (λ (u : EWindow). u.cols) x_at;
    } in
    let r_shape : HasShape w.field (w.rows - r) w.cols R = record {
      is_matrix = c.rows-rows_factored.ensures.matrix;
      over = ap (λ (u : EWindow). u.field) v1_at;
      rows = ap (λ (u : EWindow). u.rows) v1_at;
      cols = ap (λ (u : EWindow). u.cols) v1_at;
    } in
    joined_top V X R w.field r (w.rows - r) w.cols V_is x_shape r_shape
    ∙ ap content x0_at ∙ top_cut (content w) r c.rows-rows_of_right.ensures.matrix in_right

pub ple_right-returns-clause-rest : goal.ple_right-returns-clause-rest
ple_right-returns-clause-rest g t c =
    let w = c.args.right.now in
    let r = c.args.first in
    let x0 = c.split_rows-x.result.0 in
    let v0 = c.split_rows-x.result.1 in
    let v1 = c.ple_by_halves-second.new.a in
    let S = c.put_back.new.self in
    let in_right : r ≤ w.rows = omega (arith, c.requires.exchanges, c.requires.rows) in
    let x0_at : x0 ≡ upper w r = c.split_rows-x.ensures.above ∙ ap (λ (u : EWindow). upper u r) c.take.ensures.whole in
    let v0_at : v0 ≡ lower w r = c.split_rows-x.ensures.below ∙ ap (λ (u : EWindow). lower u r) c.take.ensures.whole in
    let x_at : x0 ≡ showing (upper w r) (content x0) = ap (λ (u : EWindow). showing u (content x0)) x0_at in
    let v1_at : v1 ≡ showing (lower w r) (content v1) = c.ple_by_halves-second.ensures.kept ∙ ap (λ (u : EWindow). showing u (content v1)) v0_at in
    let V = content S in
    let X = content x0 in
    let R = content v1 in
    let V_is : V ≡ above X R = ap content (c.put_back.ensures ∙ c.join_rows.ensures)
    ∙ shown_above w x0 v1 r in_right c.rows-rows_of_x.ensures.matrix c.rows-rows_factored.ensures.matrix x_at v1_at in
    let x_shape : HasShape w.field r w.cols X = record {
      is_matrix = c.rows-rows_of_x.ensures.matrix;
      over = ap (λ (u : EWindow). u.field) x_at;
      rows = ap (λ (u : EWindow). u.rows) x_at;
      cols = ap (λ (u : EWindow). u.cols) x_at;
    } in
    let r_shape : HasShape w.field (w.rows - r) w.cols R = record {
      is_matrix = c.rows-rows_factored.ensures.matrix;
      over = ap (λ (u : EWindow). u.field) v1_at;
      rows = ap (λ (u : EWindow). u.rows) v1_at;
      cols = ap (λ (u : EWindow). u.cols) v1_at;
    } in
    let p = c.ple_by_halves-second.new.p in
    let q = take c.ple_by_halves-second.result c.ple_by_halves-second.new.q in
    let rows_are : v0.rows ≡ length c.args.p.now = ap (λ (u : EWindow). u.rows) v0_at ∙ omega (arith, c.requires.exchanges, c.requires.rows) in
    let was : content v0 ≡ cut (content w) r 0 w.rows w.cols = ap content v0_at ∙ bottom_cut (content w) r c.rows-rows_of_right.ensures.matrix in_right in
    let is : R ≡ cut V r 0 V.rows V.cols = sym (joined_bottom V X R w.field r (w.rows - r) w.cols V_is x_shape r_shape) in
    subst (HoldsPle (cut (content w) r 0 w.rows w.cols) (swaps (length c.args.p.now) p) q) is
    (subst (λ (A : Matrix). HoldsPle A (swaps (length c.args.p.now) p) q R) was
    (subst (λ (n : ℕ). HoldsPle (content v0) (swaps n p) q R) rows_are c.ple_by_halves-second.ensures.factors))

pub ple_right-returns-clause-left_kept : goal.ple_right-returns-clause-left_kept
ple_right-returns-clause-left_kept g t c =
    let w = c.args.left.now in
    let r = c.args.first in
    let p = c.ple_by_halves-second.new.p in
    let a = c.split_rows-above.result.0 in
    let b = c.split_rows-above.result.1 in
    let b1 = c.swap_rows_by.new.a in
    let S = c.put_back-2.new.self in
    let within : r ≤ w.rows = omega (arith, c.requires.exchanges) in
    let a_at : a ≡ upper w r = c.split_rows-above.ensures.above ∙ ap (λ (u : EWindow). upper u r) c.take-2.ensures.whole in
    let b_at : b ≡ lower w r = c.split_rows-above.ensures.below ∙ ap (λ (u : EWindow). lower u r) c.take-2.ensures.whole in
    let a_stays : a ≡ showing (upper w r) (content a) = ap (λ (u : EWindow). showing u (content a)) a_at in
    let b1_at : b1 ≡ showing (lower w r) (content b1) =
    stays_more b b b1 (reordered (swaps b.rows p) (content b)) refl c.swap_rows_by.ensures ∙ ap (λ (u : EWindow). showing u (content b1)) b_at in
    kept_joined w a b1 S r within a_stays b1_at (c.put_back-2.ensures ∙ c.join_rows-2.ensures)

pub ple_right-returns-clause-left : goal.ple_right-returns-clause-left
ple_right-returns-clause-left g t c =
    let w = c.args.left.now in
    let r = c.args.first in
    let p = c.ple_by_halves-second.new.p in
    let a = c.split_rows-above.result.0 in
    let b = c.split_rows-above.result.1 in
    let b1 = c.swap_rows_by.new.a in
    let S = c.put_back-2.new.self in
    let within : r ≤ w.rows = omega (arith, c.requires.exchanges) in
    let a_at : a ≡ upper w r = c.split_rows-above.ensures.above ∙ ap (λ (u : EWindow). upper u r) c.take-2.ensures.whole in
    let b_at : b ≡ lower w r = c.split_rows-above.ensures.below ∙ ap (λ (u : EWindow). lower u r) c.take-2.ensures.whole in
    let a_stays : a ≡ showing (upper w r) (content a) = ap (λ (u : EWindow). showing u (content a)) a_at in
    let b1_at : b1 ≡ showing (lower w r) (content b1) =
    stays_more b b b1 (reordered (swaps b.rows p) (content b)) refl c.swap_rows_by.ensures ∙ ap (λ (u : EWindow). showing u (content b1)) b_at in
    let W = content w in
    let W_matrix = c.rows-rows_of_left.ensures.matrix in
    let rows_are : b.rows ≡ length c.args.p.now = ap (λ (u : EWindow). u.rows) b_at ∙ omega (arith, c.requires.exchanges) in
    let a_is : content a ≡ cut W 0 0 r W.cols = ap content a_at ∙ top_cut W r W_matrix within in
    let b_is : content b ≡ cut W r 0 W.rows W.cols = ap content b_at ∙ bottom_cut W r W_matrix within in
    ap content (c.put_back-2.ensures ∙ c.join_rows-2.ensures)
    ∙ shown_above w a b1 r within c.rows-rows_above.ensures.matrix c.rows-rows_exchanged.ensures.matrix a_stays b1_at
    ∙ ap (above (content a)) (ap content c.swap_rows_by.ensures)
    ∙ (λ i. above (a_is i) (reordered (swaps (rows_are i) p) (b_is i)))
