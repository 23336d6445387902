use Rattle.std.proofs.Common.{ap, ◌∙◌}
use Rattle.m4_model.specs.Matrix.{zero_matrix}
use Rattle.m4_field.specs.Fields.{the_field}
use Rattle.m4_mzed.specs.EWindow.{EWindow, showing}
use Rattle.m4_mzed.proofs.ZeroLemmas.{cleared_packed, cleared_elements}
use Rattle.m4_mzed.proofs.win_mut.EWinMut.clear.Goals as goal

pub invariant_of-self : goal.invariant_of-self
invariant_of-self c = cleared_packed (the_field c.self.inside.field) c.self.inside.cols c.self.inside.bits c.clear.new.self c.self.invariant c.clear.ensures

pub returns : goal.returns
returns c =
    cleared_elements (the_field c.self.inside.field) c.self.inside.cols c.self.inside.bits c.clear.new.self c.self.invariant c.clear.ensures
    ∙ ap {B = EWindow} (λ (v : EWindow). showing v (zero_matrix v.field v.rows v.cols)) c.self.view_is
