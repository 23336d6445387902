use Rattle.std.proofs.Common.{◌≡◌, ◌+◌, length, set, arith, ap, sym, ◌∙◌}
use Rattle.m4_area.specs.Rectangle.{Rectangle}
use Rattle.m4_area.specs.Rows.{row_of, with_row}
use Rattle.m4_area.proofs.RowLemmas.{row_above}
use Rattle.m4_area.proofs.PartLemmas.{above_part, below_part, stacked, written_below}
use Rattle.m4_area.proofs.tests.copy_down.Goals as goal

pub returns : goal.returns
returns c =
    let v = c.args.m.now in
    let r = c.args.r in
    let above : c.split_rows-above.result.0 ≡ above_part v r = c.split_rows-above.ensures.above ∙ ap (λ u. above_part u r) c.take.ensures.whole in
    let below : c.split_rows-above.result.1 ≡ below_part v r = c.split_rows-above.ensures.below ∙ ap (λ u. below_part u r) c.take.ensures.whole in
    let row : c.copy_from_slice.new.self ≡ row_of v.words c.args.s =
    c.copy_from_slice.ensures.after ∙ c.row.ensures.words ∙ ap (λ (u : Rectangle). row_of u.words c.args.s) above ∙ row_above v.words r c.args.s c.requires.below in
    let wide : length (row_of v.words c.args.s) ≡ v.width = ap length (sym row) ∙ ap length c.copy_from_slice.ensures.after ∙ c.row.ensures.long ∙ ap (λ (u : Rectangle). u.width) above in
    let here : r + 0 ≡ r = omega arith in
    c.put.ensures ∙ c.join_rows.ensures
    ∙ (λ i. stacked (above i) (record (below i) { words = with_row (below i).words 0 (row i) }))
    ∙ written_below v r 0 (row_of v.words c.args.s) c.rows-rows.ensures.shape (omega (arith, c.requires.within)) wide
    ∙ ap (λ k. record v { words = set v.words k (row_of v.words c.args.s) }) here
