use Rattle.std.proofs.Common.{sym, ◌∙◌, arith, below_more}
use Rattle.std.proofs.lemmas.Bool.{false≢true}
use Rattle.m4_text.proofs.Bares.{digit_there, digit_missing, bad_first_line, large_first_line, refused_bad, refused_large}
use Rattle.m4_text.proofs.bare.first_line.Goals as goal

pub returns-then-cols-eq-MOST_COLS-clause-err : goal.returns-then-cols-eq-MOST_COLS-clause-err
returns-then-cols-eq-MOST_COLS-clause-err c =
    let bytes = c.args.bytes.now in
    let cols = c.loop-cols.cols in
    let there = digit_there bytes cols c.binary_digit.result (sym c.is_some.ensures ∙ c.loop-cols-test.true) c.binary_digit.ensures in
    refused_large bytes cols (large_first_line bytes cols (omega arith) there.0 (below_more _ _ c.loop-cols.invariant.digits there.1))

pub returns-else-ends_at-clause-err : goal.returns-else-ends_at-clause-err
returns-else-ends_at-clause-err c =
    let bytes = c.args.bytes.now in
    let cols = c.loop-cols.cols in
    let missing = digit_missing bytes cols c.binary_digit.result (sym c.is_some.ensures ∙ c.loop-cols-test.false) c.binary_digit.ensures in
    refused_bad bytes cols (bad_first_line bytes cols c.requires c.loop-cols.invariant.within c.loop-cols.invariant.few
    c.loop-cols.invariant.digits missing (λ inside last. false≢true (sym c.if-ends_at.false ∙ c.ends_at.ensures.1 (inside, last))))
