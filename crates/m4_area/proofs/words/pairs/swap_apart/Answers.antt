use Rattle.std.proofs.Common.{◌≡◌, ◌+◌, ◌<◌, arith, ap, ◌∙◌}
use Rattle.m4_area.specs.Rectangle.{Rectangle}
use Rattle.m4_area.specs.Rows.{row_of, with_row}
use Rattle.m4_area.proofs.RowLemmas.{row_above, row_below}
use Rattle.m4_area.proofs.ShapeLemmas.{row_width}
use Rattle.m4_area.proofs.PartLemmas.{above_part, below_part, stacked, written_both}
use Rattle.m4_area.proofs.words.pairs.swap_apart.Goals as goal

pub returns-then-high-low : goal.returns-then-high-low
returns-then-high-low c =
    let v = c.args.m.now in
    let shape = c.rows-rows.ensures.shape in
    let high = c.args.high in
    let low = c.args.low in
    let apart : high < low = omega arith in
    let above : c.split_rows-above.result.0 ≡ above_part v low = c.split_rows-above.ensures.above ∙ ap (λ u. above_part u low) c.take.ensures.whole in
    let below : c.split_rows-above.result.1 ≡ below_part v low = c.split_rows-above.ensures.below ∙ ap (λ u. below_part u low) c.take.ensures.whole in
    let here : low + 0 ≡ low = omega arith in
    let upper : c.swap_with_slice.new.self ≡ row_of v.words low =
    c.swap_with_slice.ensures.after ∙ c.row_mut-then-high-low.ensures.words ∙ ap (λ (u : Rectangle). row_of u.words 0) below
    ∙ row_below v.words low 0 ∙ ap (row_of v.words) here in
    let lower : c.swap_with_slice.new.other ≡ row_of v.words high =
    c.swap_with_slice.ensures.other_after ∙ c.row_mut.ensures.words ∙ ap (λ (u : Rectangle). row_of u.words high) above ∙ row_above v.words low high apart in
    c.put.ensures ∙ c.join_rows.ensures
    ∙ (λ i. stacked (record (above i) { words = with_row (above i).words high (upper i) }) (record (below i) { words = with_row (below i).words 0 (lower i) }))
    ∙ written_both v high low (row_of v.words low) (row_of v.words high) shape apart c.requires.within (row_width v low shape c.requires.within) (row_width v high shape (omega (arith, c.requires.within)))
