use Rattle.std.proofs.Common.{◌≢◌, [], length, sym, ◌∙◌, arith}
use Rattle.std.proofs.lemmas.Bool.{eqb-false}
use Rattle.std.proofs.lemmas.Result.{err_from_is_err_and}
use Rattle.m4_etext.proofs.BareReaders.{begun_none, begun_some}
use Rattle.m4_etext.proofs.bare.begun.Goals as goal

pub returns-in_err-feed-clause-err : goal.returns-in_err-feed-clause-err
returns-in_err-feed-clause-err c =
    let p = err_from_is_err_and c.from_residual-in_err-feed.result c.from_residual-in_err-feed.ensures.1 in
    rw (p.1, p.2) (c.in_err-feed.ensures.err [] c.in_ok-line.ensures)

pub returns-in-None-clause-stands : goal.returns-in-None-clause-stands
returns-in-None-clause-stands c =
    let some : length c.args.piece.now ≢ 0 = eqb-false (length c.args.piece.now) 0 (sym c.is_empty.ensures ∙ c.if-is_empty.false) in
    (begun_none c.in_ok-feed.field-0 c.in_ok-line.line c.feed.new.self c.args.piece.now c.in-None.is c.in_ok-feed.ensures.more c.in_ok-line.ensures, omega (arith, some))

pub returns-in-Some-clause-stands : goal.returns-in-Some-clause-stands
returns-in-Some-clause-stands c =
    begun_some c.in_ok-feed.field-0 c.in_ok-line.line c.feed.new.self c.in-Some.rows c.args.piece.now c.in-Some.is c.in_ok-feed.ensures.more c.in_ok-line.ensures
