use Rattle.std.proofs.Common.{◌≡◌, ◌≤◌, arith, ◌∙◌}
use Rattle.m4_model.specs.Shapes.{transposed}
use Rattle.m4_mzed.specs.EWindow.{showing}
use Rattle.m4_mzed.specs.ESeen.{e_shown}
use Rattle.m4_mzed.proofs.PairLemmas.{upper, lower}
use Rattle.m4_shape.proofs.TurnLemmas.{first_rows, other_rows, first_cols, other_cols}
use Rattle.m4_eshape.proofs.TurnLemmas.{turned_by_cols, turned_by_rows, left_of, right_of}
use Rattle.m4_eshape.proofs.turn.+turned_in.Goals as goal

pub returns-then-rows-cols : goal.returns-then-rows-cols
returns-then-rows-cols t c =
    let w = c.args.dst in
    let A = e_shown c.args.a in
    let h = c.border-half.result in
    let within : h ≤ A.cols = omega (arith, c.border-half.ensures.within, c.cols-cols.ensures.cols) in
    let up : c.turned_in.result ≡ showing (upper w h) (transposed (first_cols A h)) =
    c.turned_in.ensures ∙ (λ i. showing (c.split_rows-top.ensures.above i) (transposed (c.split_cols.ensures.left i))) in
    let down : c.turned_in-then-rows-cols.result ≡ showing (lower w h) (transposed (other_cols A h)) =
    c.turned_in-then-rows-cols.ensures ∙ (λ i. showing (c.split_rows-top.ensures.below i) (transposed (c.split_cols.ensures.right i))) in
    turned_by_cols w c.turned_in.result c.turned_in-then-rows-cols.result c.join_rows.result A h c.rows-rows.ensures.matrix c.requires.rows within
    up down c.join_rows.ensures

pub returns-then-rows-side-2 : goal.returns-then-rows-side-2
returns-then-rows-side-2 t c =
    let w = c.args.dst in
    let A = e_shown c.args.a in
    let h = c.border-half-then-rows-side-2.result in
    let within : h ≤ A.rows = omega (arith, c.border-half-then-rows-side-2.ensures.within, c.rows-rows.ensures.rows) in
    let one : c.turned_in-then-rows-side-2.result ≡ showing (left_of w h) (transposed (first_rows A h)) =
    c.turned_in-then-rows-side-2.ensures ∙ (λ i. showing (c.split_cols-left.ensures.left i) (transposed (c.split_rows.ensures.above i))) in
    let other : c.turned_in-then-rows-side-2-2.result ≡ showing (right_of w h) (transposed (other_rows A h)) =
    c.turned_in-then-rows-side-2-2.ensures ∙ (λ i. showing (c.split_cols-left.ensures.right i) (transposed (c.split_rows.ensures.below i))) in
    turned_by_rows w c.turned_in-then-rows-side-2.result c.turned_in-then-rows-side-2-2.result c.join_cols.result A h c.rows-rows.ensures.matrix c.requires.cols within
    one other c.join_cols.ensures
