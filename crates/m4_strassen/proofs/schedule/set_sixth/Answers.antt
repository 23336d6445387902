use Rattle.std.proofs.Common.{ap, ap₂, ◌∙◌}
use Rattle.m4_model.specs.Matrix.{Matrix, added}
use Rattle.m4_model.proofs.Gf2Lemmas.{gf2_laws}
use Rattle.m4_model.proofs.RingLemmas.{added_comm}
use Rattle.m4_model.proofs.WinogradLemmas.{shape_t1}
use Rattle.m4_mzd.specs.Window.{Window, showing}
use Rattle.m4_mzd.specs.Seen.{shown}
use Rattle.m4_strassen.proofs.schedule.set_sixth.Goals as goal

pub returns : goal.returns
returns c =
    let level = c.args.level.now in
    let a = c.requires.a_shape in
    let b = c.requires.b_shape in
    ap₂ (λ (s t : Window). record level { s = s; t = t })
    (c.add_into.ensures ∙ ap (λ (X : Matrix). showing level.s (added X (shown c.args.a.now.top_left))) c.requires.s_shows)
    (c.add_into-2.ensures ∙ ap (λ (X : Matrix). showing level.t (added X (shown c.args.b.now.bottom_right))) c.requires.t_shows
    ∙ ap (showing level.t) (added_comm (shape_t1 gf2_laws a b) b.bottom_right))
