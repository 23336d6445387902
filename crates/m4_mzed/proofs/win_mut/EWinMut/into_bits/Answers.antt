use Rattle.std.proofs.Common.{◌≡◌, sym, ap, ◌∙◌}
use Rattle.m4_model.specs.Field.{gf2}
use Rattle.m4_field.specs.Fields.{the_field}
use Rattle.m4_mzed.specs.EWindow.{EWindow, content}
use Rattle.m4_mzed.proofs.BitLemmas.{shows_bits, cols_gf2}
use Rattle.m4_mzed.proofs.win_mut.EWinMut.into_bits.Goals as goal

pub returns-clause-content : goal.returns-clause-content
returns-clause-content c =
    let F = the_field c.self.inside.field in
    let over : F ≡ gf2 = ap (λ (v : EWindow). v.field) c.self.view_is ∙ c.requires in
    sym (shows_bits F c.self.inside.cols c.self.inside.bits c.rows-rows.ensures.shape over (cols_gf2 F c.self.inside.cols c.self.inside.bits over c.self.invariant.wide))
    ∙ ap content c.self.view_is
