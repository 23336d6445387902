use Rattle.std.proofs.Common.{ap, subst₂}
use Rattle.m4_model.specs.Matrix.{Matrix}
use Rattle.m4_text.specs.Place.{IsWrongText}
use Rattle.m4_text.proofs.Refusals.{refused_header, refused_limit, refused_body}
use Rattle.m4_text.proofs.read.read_text.Goals as goal

pub returns-in-Err-clause-err : goal.returns-in-Err-clause-err
returns-in-Err-clause-err c = refused_header c.args.bytes.now c.in-Err.place c.in-Err.ensures

pub returns-then-not-within_limits-clause-err : goal.returns-then-not-within_limits-clause-err
returns-then-not-within_limits-clause-err c =
    let header = c.in-Ok.header in
    refused_limit c.args.bytes.now header.rows header.cols header.len c.in-Ok.ensures
    (λ limits. let yes = c.within_limits.ensures.1 limits in cc)

pub returns-in-Err-read_rows-clause-err : goal.returns-in-Err-read_rows-clause-err
returns-in-Err-read_rows-clause-err c =
    let header = c.in-Ok.header in
    let bytes = c.args.bytes.now in
    let place = c.in-Err-read_rows.place in
    let zeros = c.in_ok-m.ensures in
    refused_body bytes header.rows header.cols header.len place c.in-Ok.ensures (c.within_limits.ensures.0 c.if-not-within_limits.false)
    (subst₂ (λ m n. IsWrongText m n bytes place) (ap (λ (m : Matrix). m.rows) zeros) (ap (λ (m : Matrix). m.cols) zeros)
    c.in-Err-read_rows.ensures.err)
