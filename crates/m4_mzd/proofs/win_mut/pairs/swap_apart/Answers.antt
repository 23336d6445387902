use Rattle.std.proofs.Common.{◌≡◌, ◌+◌, ◌<◌, set, arith, ap, ◌∙◌}
use Rattle.m4_model.specs.Matrix.{row}
use Rattle.m4_area.proofs.RowLemmas.{row_above, row_below}
use Rattle.m4_mzd.specs.Window.{Window, content}
use Rattle.m4_mzd.proofs.PairLemmas.{upper, lower, stacked, written_both, rows_swapped}
use Rattle.m4_mzd.proofs.win_mut.pairs.swap_apart.Goals as goal

pub returns-then-high-low : goal.returns-then-high-low
returns-then-high-low c =
    let w = c.args.w.now in
    let high = c.args.high in
    let low = c.args.low in
    let shape = c.rows-rows.ensures.shape in
    let apart : high < low = omega arith in
    let above : c.split_rows-above.result.0 ≡ upper w low = c.split_rows-above.ensures.above ∙ ap (λ u. upper u low) c.take.ensures.whole in
    let below : c.split_rows-above.result.1 ≡ lower w low = c.split_rows-above.ensures.below ∙ ap (λ u. lower u low) c.take.ensures.whole in
    let here : low + 0 ≡ low = omega arith in
    let one : row (content c.split_rows-above.result.0) high ≡ row (content w) high =
    ap (λ (u : Window). row (content u) high) above ∙ row_above w.bits low high apart in
    let other : row (content c.split_rows-above.result.1) 0 ≡ row (content w) low =
    ap (λ (u : Window). row (content u) 0) below ∙ row_below w.bits low 0 ∙ ap (row (content w)) here in
    c.put_back.ensures ∙ c.join_rows.ensures
    ∙ (λ i. stacked (c.swap_with.ensures.here i) (c.swap_with.ensures.there i))
    ∙ (λ i. stacked (record (above i) { bits = set (above i).bits high (other i) }) (record (below i) { bits = set (below i).bits 0 (one i) }))
    ∙ written_both w low high (row (content w) low) (row (content w) high) shape apart c.requires.within
    ∙ rows_swapped w high low shape (omega (arith, c.requires.within)) c.requires.within
