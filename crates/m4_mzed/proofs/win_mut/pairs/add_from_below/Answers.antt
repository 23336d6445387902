use Rattle.std.proofs.Common.{◌≡◌, ◌+◌, ◌≤◌, set, arith, ap, ◌∙◌}
use Rattle.m4_model.specs.Matrix.{Matrix, row}
use Rattle.m4_area.proofs.RowLemmas.{row_above, row_below}
use Rattle.m4_mzd.specs.Rows.{sum_from}
use Rattle.m4_mzed.specs.EWindow.{EWindow, content}
use Rattle.m4_mzed.specs.ESeen.{e_shown}
use Rattle.m4_mzed.specs.Rows.{multiples}
use Rattle.m4_mzed.proofs.PairLemmas.{upper, lower, stacked, written_above}
use Rattle.m4_mzed.proofs.win_mut.pairs.add_from_below.Goals as goal

pub returns : goal.returns
returns c =
    let w = c.args.w.now in
    let r = c.args.r in
    let s = c.args.s in
    let above : c.split_rows-above.result.0 ≡ upper w s = c.split_rows-above.ensures.above ∙ ap (λ u. upper u s) c.take.ensures.whole in
    let below : c.split_rows-above.result.1 ≡ lower w s = c.split_rows-above.ensures.below ∙ ap (λ u. lower u s) c.take.ensures.whole in
    let here : s + 0 ≡ s = omega arith in
    let mine : row (content c.split_rows-above.result.0) r ≡ row (content w) r =
    ap (λ (u : EWindow). row (content u) r) above ∙ row_above w.entries s r c.requires.below in
    let theirs : row (e_shown c.see.result) 0 ≡ row (content w) s =
    ap (λ (A : Matrix). row A 0) c.see.ensures ∙ ap (λ (u : EWindow). row (content u) 0) below ∙ row_below w.entries s 0 ∙ ap (row (content w)) here in
    let field : c.split_rows-above.result.0.field ≡ w.field = ap (λ (u : EWindow). u.field) above in
    let within : s ≤ w.rows = omega (arith, c.requires.in_rows) in
    c.put_back.ensures ∙ c.join_rows.ensures
    ∙ ap (λ (a : EWindow). stacked a c.split_rows-above.result.1) c.add_tail.ensures
    ∙ (λ i. stacked (record (above i) { entries = set (above i).entries r (sum_from c.args.c (mine i) (multiples (field i) c.args.x (theirs i))) }) (below i))
    ∙ written_above w s r (sum_from c.args.c (row (content w) r) (multiples w.field c.args.x (row (content w) s))) c.rows-rows.ensures.matrix c.requires.below within
