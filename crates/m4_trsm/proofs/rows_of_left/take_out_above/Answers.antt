use Rattle.std.proofs.Common.{◌≡◌, ◌+◌, ap, ◌∙◌, bit_xor}
use Rattle.m4_model.specs.Field.{mul}
use Rattle.m4_model.specs.Matrix.{Matrix, at, matrix_of}
use Rattle.m4_mzed.specs.EWindow.{EWindow, content, showing}
use Rattle.m4_mzed.specs.ESeen.{e_shown}
use Rattle.m4_trsm.proofs.Windows.{upper, lower, stacked, taken_above}
use Rattle.m4_trsm.proofs.rows_of_left.take_out_above.Goals as goal

pub returns : goal.returns
returns c =
    let w = c.args.b.now in
    let T = e_shown c.args.t.now in
    let i = c.args.i in
    let above : c.split_rows-above.result.0 ≡ upper w i = c.split_rows-above.ensures.above ∙ ap (λ u. upper u i) c.take.ensures.whole in
    let below : c.split_rows-above.result.1 ≡ lower w i = c.split_rows-above.ensures.below ∙ ap (λ u. lower u i) c.take.ensures.whole in
    let written : EWindow → EWindow → Matrix → EWindow = λ a b S. stacked (showing a (matrix_of a.field a.rows a.cols (λ r j.
    bit_xor (at (content a) r j) (mul a.field (at S 0 j) (at T (0 + r) i))))) b in
    c.put_back.ensures ∙ c.join_rows.ensures
    ∙ ap (λ (a : EWindow). stacked a c.split_rows-above.result.1) c.add_where.ensures
    ∙ ap (written c.split_rows-above.result.0 c.split_rows-above.result.1) c.see.ensures
    ∙ (λ k. written (above k) (below k) (content (below k)))
    ∙ taken_above w T i c.rows-rows.ensures.matrix c.requires.in_rows
