use Rattle.std.proofs.Common.{sym, ◌∙◌, ap}
use Rattle.m4_model.specs.Matrix.{with_entry}
use Rattle.m4_mzed.specs.EWindow.{EWindow, content, showing}
use Rattle.m4_ple.proofs.ExchangedColumns.{written_swapped}
use Rattle.m4_ple.proofs.columns.swap_entries.Goals as goal

pub returns : goal.returns
returns c =
    let W = c.args.a.now in
    c.put-2.ensures
    ∙ ap (λ (V : EWindow). showing V (with_entry (content V) c.args.r c.args.j c.get-first.result)) c.put.ensures
    ∙ ap (showing W)
    (written_swapped (content W) c.args.r c.args.i c.args.j _ _ c.rows-rows.ensures.matrix c.requires.in_rows c.requires.first c.requires.second
    (sym c.get-first.ensures.value) (sym c.get-second.ensures.value))
