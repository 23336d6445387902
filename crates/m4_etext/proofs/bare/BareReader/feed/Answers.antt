use Rattle.std.proofs.Common.{refl, sym, ◌∙◌, ap}
use Rattle.m4_etext.specs.declared.bare.BareState.TheVariants.{AtFirst, AtRows}
use Rattle.m4_etext.proofs.BareReaders.{bare_told_more, bare_open, bare_at, start_fails}
use Rattle.m4_etext.proofs.bare.BareReader.feed.Goals as goal

pub returns-in-Refused-clause-stands : goal.returns-in-Refused-clause-stands
returns-in-Refused-clause-stands c = λ bytes stands.
    bare_told_more c.args.self.now bytes c.args.piece.now c.in-Refused.fault (sym c.self.view_is ∙ c.in-Refused.is) stands

pub returns-in-Refused-clause-err : goal.returns-in-Refused-clause-err
returns-in-Refused-clause-err c = λ bytes stands.
    bare_told_more c.args.self.now bytes c.args.piece.now c.in-Refused.fault (sym c.self.view_is ∙ c.in-Refused.is) stands

pub returns-in-Ok-clause-ok : goal.returns-in-Ok-clause-ok
returns-in-Ok-clause-ok c = λ bytes stands. bare_open (AtRows c.feed.new.self) bytes refl stands

pub returns-in-Ok-None-clause-ok : goal.returns-in-Ok-None-clause-ok
returns-in-Ok-None-clause-ok c = λ bytes stands. bare_open (AtFirst c.feed-in-AtFirst.new.self) bytes refl stands

pub returns-in-Ok-Some-clause-ok : goal.returns-in-Ok-Some-clause-ok
returns-in-Ok-Some-clause-ok c = λ bytes stands. bare_open (AtRows c.in-Ok-Some.rows) bytes refl stands

pub returns-in-Err-feed-clause-stands : goal.returns-in-Err-feed-clause-stands
returns-in-Err-feed-clause-stands c = λ bytes stands.
    c.in-Err-feed.ensures.err bytes (bare_at c.args.self.now (AtFirst _) bytes (sym c.self.view_is ∙ c.in-AtFirst.is ∙ ap AtFirst (sym c.in-AtFirst.line-is)) stands).0

pub returns-in-Err-feed-clause-err : goal.returns-in-Err-feed-clause-err
returns-in-Err-feed-clause-err c = λ bytes stands.
    c.in-Err-feed.ensures.err bytes (bare_at c.args.self.now (AtFirst _) bytes (sym c.self.view_is ∙ c.in-AtFirst.is ∙ ap AtFirst (sym c.in-AtFirst.line-is)) stands).0

pub returns-in-Ok-begun-clause-ok : goal.returns-in-Ok-begun-clause-ok
returns-in-Ok-begun-clause-ok c = λ bytes stands. bare_open c.in-Ok-begun.state bytes c.in-Ok-begun.ensures.quiet stands

pub returns-in-Err-begun-clause-stands : goal.returns-in-Err-begun-clause-stands
returns-in-Err-begun-clause-stands c = λ bytes stands.
    start_fails c.args.self.now bytes c.args.piece.now c.in-Err-begun.fault (sym c.self.view_is ∙ c.in-AtStart.is) c.in-Err-begun.ensures.err stands

pub returns-in-Err-begun-clause-err : goal.returns-in-Err-begun-clause-err
returns-in-Err-begun-clause-err c = λ bytes stands.
    start_fails c.args.self.now bytes c.args.piece.now c.in-Err-begun.fault (sym c.self.view_is ∙ c.in-AtStart.is) c.in-Err-begun.ensures.err stands
