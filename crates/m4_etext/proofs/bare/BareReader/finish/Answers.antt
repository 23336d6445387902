use Rattle.std.proofs.Common.{sym, ◌∙◌, ap}
use Rattle.m4_etext.specs.BareRows.{KeptRows}
use Rattle.m4_etext.specs.declared.bare.BareState.TheVariants.{AtRows}
use Rattle.m4_etext.proofs.BareReaders.{bare_told_itself, short_first, rows_finish_reads, rows_finish_fails}
use Rattle.m4_etext.proofs.bare.BareReader.finish.Goals as goal

pub returns-in-Refused-clause-err : goal.returns-in-Refused-clause-err
returns-in-Refused-clause-err c = λ bytes stands.
    bare_told_itself c.args.self bytes c.in-Refused.fault (sym c.self.view_is ∙ c.in-Refused.is) stands

pub returns-in-AtFirst-clause-err : goal.returns-in-AtFirst-clause-err
returns-in-AtFirst-clause-err c = λ bytes stands.
    short_first c.args.self c.in-AtFirst.line bytes c.place.result (sym c.self.view_is ∙ c.in-AtFirst.is)
    (c.place.ensures ∙ ap (λ (k : KeptRows). k.place_next) c.in-AtFirst.line-is) stands

pub returns-in-AtRows-clause-ok : goal.returns-in-AtRows-clause-ok
returns-in-AtRows-clause-ok c =
    rows_finish_reads c.args.self _ c.finish.result (sym c.self.view_is ∙ c.in-AtRows.is ∙ ap AtRows (sym c.in-AtRows.rows-is)) c.finish.ensures.ok

pub returns-in-AtRows-clause-err : goal.returns-in-AtRows-clause-err
returns-in-AtRows-clause-err c =
    rows_finish_fails c.args.self _ c.finish.result (sym c.self.view_is ∙ c.in-AtRows.is ∙ ap AtRows (sym c.in-AtRows.rows-is)) c.finish.ensures.err
