use Rattle.std.proofs.Common.{◌≡◌, ◌+◌, ◌≤◌, refl, sym, ap, subst, ◌∙◌, arith}
use Rattle.m4_model.specs.Matrix.{Matrix}
use Rattle.m4_model.specs.Shapes.{above}
use Rattle.m4_mzd.specs.Window.{Window, content, showing}
use Rattle.m4_mzd.specs.Held.{IsPadded}
use Rattle.m4_mzd.specs.Seen.{shown}
use Rattle.m4_mzd.proofs.PairLemmas.{upper, lower}
use Rattle.m4_shape.proofs.PlacedLemmas.{stacked_is, content_showing}
use Rattle.m4_shape.proofs.join.stack.Goals as goal
use Rattle.m4_shape.proofs.join.stack.Goals.{After-join_rows}

-- the joined window is the whole one with both matrices in it
joined : (c : After-join_rows) → c.join_rows.result ≡ showing c.all_mut-whole.result.0 (above (shown c.args.a.now) (shown c.args.b.now))
joined c =
    let w = c.all_mut-whole.result.0 in
    let A = shown c.args.a.now in
    let B = shown c.args.b.now in
    let at : c.rows-rows.result ≡ A.rows = c.rows-rows.ensures.rows in
    let empty = c.all_mut-whole.ensures.content ∙ c.in_ok-m.ensures in
    let rows = ap (λ (M : Matrix). M.rows) empty in
    let within : A.rows ≤ w.rows = omega (arith, rows, at) in
    stacked_is w c.copy_rows.new.self c.copy_rows-2.new.self c.join_rows.result A B c.rows-rows.ensures.matrix c.rows.ensures.matrix c.requires.same_cols within
    (c.copy_rows.ensures ∙ ap (λ (x : Window). showing x A) (c.split_rows-top.ensures.above ∙ ap (upper w) at))
    (c.copy_rows-2.ensures ∙ ap (λ (x : Window). showing x B) (c.split_rows-top.ensures.below ∙ ap (lower w) at))
    c.join_rows.ensures

pub put_all-requires-clause-padded : goal.put_all-requires-clause-padded
put_all-requires-clause-padded c = subst IsPadded (sym (joined c)) c.all_mut-whole.ensures.padded

pub returns : goal.returns
returns c =
    let w = c.all_mut-whole.result.0 in
    let A = shown c.args.a.now in
    let B = shown c.args.b.now in
    let empty = c.all_mut-whole.ensures.content ∙ c.in_ok-m.ensures in
    c.put_all.ensures ∙ ap content (joined c.before) ∙ content_showing w (above A B) refl
    (ap (λ (M : Matrix). M.rows) empty ∙ (λ i. c.rows-rows.ensures.rows i + c.rows.ensures.rows i))
    (ap (λ (M : Matrix). M.cols) empty ∙ c.cols.ensures.cols)
