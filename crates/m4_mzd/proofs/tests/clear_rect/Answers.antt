use Rattle.std.proofs.Common.{subst, sym, ap, ◌∙◌}
use Rattle.m4_model.specs.Field.{gf2}
use Rattle.m4_model.specs.Matrix.{zero_matrix}
use Rattle.m4_model.specs.Shapes.{replace}
use Rattle.m4_mzd.specs.Window.{Window, content}
use Rattle.m4_mzd.specs.Around.{IsAround}
use Rattle.m4_mzd.proofs.tests.clear_rect.Goals as goal

pub returns : goal.returns
returns c =
    let part = c.win_mut-part.result.0 in
    let rect = c.args.rect in
    let from = c.win_mut-part.ensures.whatever_it_shows (zero_matrix gf2 part.rows part.cols) in
    let P : Window → Type 0 = λ w. IsAround c.win_mut-part.result.1 w rect c.args.m.now in
    c.put_win.ensures rect c.args.m.now (subst P (sym c.clear.ensures) from)
    ∙ ap (replace c.args.m.now rect.r0 rect.c0) (ap content c.clear.ensures ∙ (λ i. zero_matrix gf2 (from.rows i) (from.cols i)))
