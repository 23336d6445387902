use Rattle.std.proofs.Common.{ℕ, List, set, replicate, ap, ◌∙◌}
use Rattle.m4_model.specs.Matrix.{with_row}
use Rattle.m4_field.specs.Fields.{the_field}
use Rattle.m4_mzed.specs.EWindow.{EWindow, content, showing}
use Rattle.m4_mzed.specs.Packed.{elements}
use Rattle.m4_mzed.proofs.PartLemmas.{packed_written, elements_written}
use Rattle.m4_mzed.proofs.ZeroLemmas.{zeros_row_are, zeros_row_packed}
use Rattle.m4_mzed.proofs.win_mut.EWinMut.clear_row.Goals as goal

pub invariant_of-self : goal.invariant_of-self
invariant_of-self c =
    let F = the_field c.self.inside.field in
    let w = c.self.inside.bits in
    packed_written F c.self.inside.cols w c.self.invariant c.args.r (replicate {A = ℕ} w.cols 0) c.clear_row.new.self (zeros_row_packed F c.self.invariant.carried c.self.inside.cols w.cols c.self.invariant.wide) c.clear_row.ensures

pub returns : goal.returns
returns c =
    let F = the_field c.self.inside.field in
    let w = c.self.inside.bits in
    elements_written F c.self.inside.cols w c.self.invariant c.args.r (replicate {A = ℕ} w.cols 0) c.clear_row.new.self c.clear_row.ensures
    ∙ ap {B = EWindow} (λ (l : List ℕ). record (elements F c.self.inside.cols w) { entries = set (elements F c.self.inside.cols w).entries c.args.r l }) (zeros_row_are F c.self.invariant.carried c.self.inside.cols w.cols c.self.invariant.wide)
    ∙ ap {B = EWindow} (λ (v : EWindow). showing v (with_row (content v) c.args.r (replicate {A = ℕ} v.cols 0))) c.self.view_is
