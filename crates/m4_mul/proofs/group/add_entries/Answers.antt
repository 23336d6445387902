use Rattle.std.proofs.Common.{◌≡◌, ℕ, ◌^◌, ◌<◌, ◌≤◌, length, get_or, lit<, bit_xor, subst, sym, arith, refl, ap, ◌∙◌}
use Rattle.std.proofs.Math.Nat.{pow-le-pow_right}
use Rattle.std.proofs.lemmas.Grind.{get_or_default_zero}
use Rattle.m4_model.specs.Matrix.{row, at, with_row}
use Rattle.m4_mzd.specs.Window.{Window, content, showing}
use Rattle.m4_mzd.specs.Rows.{sum_of}
use Rattle.m4_mzd.specs.Seen.{shown}
use Rattle.m4_gray.specs.Slots.{picked}
use Rattle.m4_mul.specs.Parts.{part_of_entry, slot_bits, IsIndex}
use Rattle.m4_mul.proofs.AddedLemmas.{added_rows, added_rows-none, added_rows-more, added_rows-all, length-added_row, at-added_row}
use Rattle.m4_mul.proofs.GroupLemmas.{at-summed, length-sum_of}
use Rattle.m4_mul.proofs.group.add_entries.Goals as goal

pub loop-i-init : goal.loop-i-init
loop-i-init g c = record {
  sum =
      ap (showing c.args.c.now)
      (added_rows-none (content c.args.c.now) (part_of_entry (shown c.args.a.now) (shown c.args.b.now) c.args.first c.args.width) c.rows-i-end.ensures.shape.matrix);
  ticks = omega arith;
}

pub combine-requires : goal.combine-requires
combine-requires g c =
    let index = c.index_of-index.result in
    let k : c.k-k.result ≡ c.args.tables.now.k = c.k-k.ensures.k in
    let rows : c.loop-i.c.rows ≡ c.args.c.now.rows = ap (λ (w : Window). w.rows) c.loop-i.invariant.sum in
    let cols : c.loop-i.c.cols ≡ c.args.c.now.cols = ap (λ (w : Window). w.cols) c.loop-i.invariant.sum in (
      omega (arith, c.requires.few, c.k-k.ensures.shape.few),
      (
        c.requires.some,
        (
          c.requires.few,
          (
            (λ s d within.
                let in_slots : s < g.row.T = omega (arith, within, c.index_of-index.ensures.long) in
                let small : get_or index s 0 < 2 ^ slot_bits c.k-k.result c.args.width s = c.index_of-index.ensures.index.small s in_slots in
                let few : slot_bits c.k-k.result c.args.width s ≤ c.args.tables.now.k = omega (arith, k) in
                let power : 2 ^ slot_bits c.k-k.result c.args.width s ≤ 2 ^ c.args.tables.now.k = pow-le-pow_right (lit< tt) few in
                let same : get_or index s d ≡ get_or index s 0 = get_or_default_zero index s d within in
                omega (arith, small, power, same)),
            (
              omega (arith, rows),
              omega (arith, cols, c.requires.reached),
            ),
          ),
        ),
      ),
    )

pub loop-i-preserved : goal.loop-i-preserved
loop-i-preserved g c =
    let t = c.args.tables.now in
    let A = shown c.args.a.now in
    let B = shown c.args.b.now in
    let W = c.args.c.now in
    let C = content W in
    let i = c.loop-i.i in
    let first = c.args.first in
    let width = c.args.width in
    let h = part_of_entry A B first width in
    let index = c.index_of-index.result in
    let in_rows : i < C.rows = omega arith in
    let in_a : i < A.rows = omega (arith, in_rows, c.requires.rows) in
    let P : ℕ → Type 0 = λ k. IsIndex index A i first width k g.row.T in
    let is : IsIndex index A i first width t.k g.row.T = subst P c.k-k.ensures.k c.index_of-index.ensures.index in
    let xs = row (added_rows C h i) i in
    let long : length xs ≡ C.cols = length-added_row C h i in_rows in
    let same_cols : C.cols ≡ B.cols = sym c.requires.cols in
    let entries = sum_of xs (picked t B.cols index) in
    let sums : (j : ℕ) → j < C.cols → get_or entries j 0 ≡ bit_xor (at C i j) (h i j) = λ j inside.
    at-summed t A B i first width g.row.T index c.requires.filled is c.rows-rows.ensures.matrix c.rows-rows_of_b.ensures.matrix refl refl in_a c.requires.in_a c.requires.in_b xs j
    (long ∙ same_cols) c.index_of-index.ensures.long c.requires.enough (omega (arith, inside, same_cols))
    ∙ ap (λ x. bit_xor x (h i j)) (at-added_row C h i j in_rows inside) in
    record {
      sum =
          c.combine.ensures.row
          ∙ ap (λ (w : Window). showing w (with_row (content w) i (sum_of (row (content w) i) (picked t w.cols index)))) c.loop-i.invariant.sum
          ∙ ap (λ n. showing W (with_row (added_rows C h i) i (sum_of xs (picked t n index)))) same_cols
          ∙ ap (showing W) (added_rows-more C h i entries in_rows (length-sum_of xs (picked t B.cols index) ∙ long) sums);
      ticks = omega (arith, c.loop-i.invariant.ticks, c.combine.ensures.ticks);
    }

pub returns-clause-sum : goal.returns-clause-sum
returns-clause-sum g c =
    c.loop-i.invariant.sum
    ∙ ap (showing c.args.c.now)
    (added_rows-all (content c.args.c.now) (part_of_entry (shown c.args.a.now) (shown c.args.b.now) c.args.first c.args.width) c.loop-i.i (omega arith))
