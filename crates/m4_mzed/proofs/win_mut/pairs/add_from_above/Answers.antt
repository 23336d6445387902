use Rattle.std.proofs.Common.{◌≡◌, ◌+◌, ◌≤◌, set, arith, ap, ◌∙◌}
use Rattle.m4_model.specs.Matrix.{Matrix, row}
use Rattle.m4_area.proofs.RowLemmas.{row_above, row_below}
use Rattle.m4_mzd.specs.Rows.{sum_from}
use Rattle.m4_mzed.specs.EWindow.{EWindow, content}
use Rattle.m4_mzed.specs.ESeen.{e_shown}
use Rattle.m4_mzed.specs.Rows.{multiples}
use Rattle.m4_mzed.proofs.PairLemmas.{upper, lower, stacked, written_below}
use Rattle.m4_mzed.proofs.win_mut.pairs.add_from_above.Goals as goal

pub returns : goal.returns
returns c =
    let w = c.args.w.now in
    let r = c.args.r in
    let above : c.split_rows-above.result.0 ≡ upper w r = c.split_rows-above.ensures.above ∙ ap (λ u. upper u r) c.take.ensures.whole in
    let below : c.split_rows-above.result.1 ≡ lower w r = c.split_rows-above.ensures.below ∙ ap (λ u. lower u r) c.take.ensures.whole in
    let here : r + 0 ≡ r = omega arith in
    let mine : row (content c.split_rows-above.result.1) 0 ≡ row (content w) r =
    ap (λ (u : EWindow). row (content u) 0) below ∙ row_below w.entries r 0 ∙ ap (row (content w)) here in
    let theirs : row (e_shown c.see.result) c.args.s ≡ row (content w) c.args.s =
    ap (λ (A : Matrix). row A c.args.s) c.see.ensures ∙ ap (λ (u : EWindow). row (content u) c.args.s) above ∙ row_above w.entries r c.args.s c.requires.above in
    let field : c.split_rows-above.result.1.field ≡ w.field = ap (λ (u : EWindow). u.field) below in
    let within : r ≤ w.rows = omega (arith, c.requires.in_rows) in
    c.put_back.ensures ∙ c.join_rows.ensures
    ∙ ap (λ (b : EWindow). stacked c.split_rows-above.result.0 b) c.add_tail.ensures
    ∙ (λ i. stacked (above i) (record (below i) { entries = set (below i).entries 0 (sum_from c.args.c (mine i) (multiples (field i) c.args.x (theirs i))) }))
    ∙ written_below w r 0 (sum_from c.args.c (row (content w) r) (multiples w.field c.args.x (row (content w) c.args.s))) c.rows-rows.ensures.matrix within
    ∙ ap (λ k. record w { entries = set w.entries k (sum_from c.args.c (row (content w) r) (multiples w.field c.args.x (row (content w) c.args.s))) }) here
