use Rattle.std.proofs.Common.{ℕ, List, set, sym, ap, ◌∙◌}
use Rattle.m4_model.specs.Matrix.{row, with_row}
use Rattle.m4_field.specs.Fields.{the_field}
use Rattle.m4_mzd.specs.Seen.{shown}
use Rattle.m4_mzed.specs.EWindow.{EWindow, content, showing}
use Rattle.m4_mzed.specs.ESeen.{e_shown}
use Rattle.m4_mzed.specs.Packed.{elements}
use Rattle.m4_mzed.proofs.AddedRows.{source_row}
use Rattle.m4_mzed.proofs.PartLemmas.{elements_written}
use Rattle.m4_mzed.proofs.win_mut.EWinMut.copy_row.Goals as goal

pub returns : goal.returns
returns c =
    let F = the_field c.self.inside.field in
    let w = c.self.inside.bits in
    let n = c.self.inside.cols in
    let from = c.args.from.now in
    elements_written F n w c.self.invariant c.args.r (row (shown from.bits) c.args.s) c.copy_row.new.self c.copy_row.ensures
    ∙ ap {B = EWindow} (λ (l : List ℕ). record (elements F n w) { entries = set (elements F n w).entries c.args.r l })
    (sym (source_row F (the_field from.field) n from.cols c.args.s (shown from.bits) (c.requires.same_field ∙ sym (ap (λ (v : EWindow). v.field) c.self.view_is))
    (c.requires.same_cols ∙ sym (ap (λ (v : EWindow). v.cols) c.self.view_is)) from.packed c.requires.in_from))
    ∙ ap {B = EWindow} (λ (v : EWindow). showing v (with_row (content v) c.args.r (row (e_shown from) c.args.s))) c.self.view_is
