-- What is written in a part of a rectangle is written in the whole, once the parts are joined.
use Rattle.std.proofs.Common.{◌≡◌, ℕ, ◌+◌, ◌-◌, ◌*◌, ◌<◌, ◌≤◌, List, ◌++◌, length, take, drop, set, arith, inl, inr, ap, sym, ◌∙◌}
use Rattle.std.proofs.Math.ListN.{length-set}
use Rattle.std.proofs.Math.Nat.{eq-or-lt_of_le}
use Rattle.std.proofs.lemmas.List.{length-take-le, set-append_right, set_comm}
use Rattle.m4_area.specs.Rectangle.{Rectangle, HasShape}
use Rattle.m4_area.specs.Rows.{row_of, with_row, swapped}
use Rattle.m4_area.proofs.RowLemmas.{refill_same, set_above, set_below, row_above, row_below}
use Rattle.m4_area.proofs.ShapeLemmas.{row_width}

-- The parts of a rectangle, above and below, and what two rectangles are joined to.
abbrev pub above_part : Rectangle → ℕ → Rectangle
above_part v r = record v { rows = r; words = take r v.words }

abbrev pub below_part : Rectangle → ℕ → Rectangle
below_part v r = record v { skip = v.skip + r * v.place.stride; rows = v.rows - r; words = drop r v.words }

abbrev pub stacked : Rectangle → Rectangle → Rectangle
stacked a b = record a { rows = a.rows + b.rows; words = a.words ++ b.words }

-- A rectangle that is cut and joined is as it was, but for its words.
rejoined : (v : Rectangle) (r : ℕ) (words words' : List (List ℕ)) → r ≤ v.rows → words ≡ words'
    → record v { rows = r + (v.rows - r); words = words } ≡ record v { words = words' }
rejoined v r words words' h e =
    let rows : r + (v.rows - r) ≡ v.rows = omega arith in
    ap (λ n. record v { rows = n; words = words }) rows ∙ ap (λ ws. record v { words = ws }) e

-- Row i of the lower part was written.
pub written_below : (v : Rectangle) (r i : ℕ) (new : List ℕ) → HasShape v → r + i < v.rows → length new ≡ v.width
    → let below = below_part v r in stacked (above_part v r) (record below { words = with_row below.words i new }) ≡ record v { words = set v.words (r + i) new }
written_below v r i new s h wide =
    let old : length new ≡ length (row_of (drop r v.words) i) = wide ∙ sym (row_width v (r + i) s h) ∙ ap length (sym (row_below v.words r i)) in
    rejoined v r _ _ (omega arith)
    (ap (λ w. take r v.words ++ set (drop r v.words) i w) (refill_same (row_of (drop r v.words) i) new old) ∙ set_below v.words r i new (omega (arith, s.count)))

-- Row i of the upper part was written.
pub written_above : (v : Rectangle) (r i : ℕ) (new : List ℕ) → HasShape v → i < r → r ≤ v.rows → length new ≡ v.width
    → let above = above_part v r in stacked (record above { words = with_row above.words i new }) (below_part v r) ≡ record v { words = set v.words i new }
written_above v r i new s l h wide =
    let old : length new ≡ length (row_of (take r v.words) i) = wide ∙ sym (row_width v i s (omega arith)) ∙ ap length (sym (row_above v.words r i l)) in
    rejoined v r _ _ h
    (ap (λ w. set (take r v.words) i w ++ drop r v.words) (refill_same (row_of (take r v.words) i) new old) ∙ set_above v.words r i new l (omega (arith, s.count)))

-- Row i of the upper part and the first row of the lower part were written.
pub written_both : (v : Rectangle) (i r : ℕ) (upper lower : List ℕ) → HasShape v → i < r → r < v.rows → length upper ≡ v.width → length lower ≡ v.width
    → let above = above_part v r in let below = below_part v r in
    stacked (record above { words = with_row above.words i upper }) (record below { words = with_row below.words 0 lower }) ≡ record v { words = set (set v.words i upper) r lower }
written_both v i r upper lower s l h wide₁ wide₂ =
    let here : r + 0 ≡ r = omega arith in
    let old₁ : length upper ≡ length (row_of (take r v.words) i) = wide₁ ∙ sym (row_width v i s (omega arith)) ∙ ap length (sym (row_above v.words r i l)) in
    let old₂ : length lower ≡ length (row_of (drop r v.words) 0) = wide₂ ∙ sym (row_width v (r + 0) s (omega arith)) ∙ ap length (sym (row_below v.words r 0)) in
    let front : length (set (take r v.words) i upper) ≡ r = length-set (take r v.words) i upper ∙ length-take-le r v.words (omega (arith, s.count)) in
    let at : r - r ≡ 0 = omega arith in
    rejoined v r _ _ (omega arith)
    ((λ j. set (take r v.words) i (refill_same (row_of (take r v.words) i) upper old₁ j) ++ set (drop r v.words) 0 (refill_same (row_of (drop r v.words) 0) lower old₂ j))
    ∙ ap (λ k. set (take r v.words) i upper ++ set (drop r v.words) k lower) (sym at)
    ∙ sym (set-append_right (set (take r v.words) i upper) (drop r v.words) r r lower front (omega arith))
    ∙ ap (λ ws. set ws r lower) (set_above v.words r i upper l (omega (arith, s.count))))

-- Two rows swapped are the same two swapped the other way round.
pub swapped_turned : (rows : List (List ℕ)) (r s : ℕ) → s ≤ r → swapped rows s r ≡ swapped rows r s
swapped_turned rows r s h =
    elim (eq-or-lt_of_le h) as (λ _. swapped rows s r ≡ swapped rows r s) [
      | inl e ↦ ap (λ k. swapped rows k r) e ∙ ap (λ k. swapped rows r k) (sym e)
      | inr l ↦ set_comm rows s r (row_of rows r) (row_of rows s) (λ e. omega arith)
    ]
