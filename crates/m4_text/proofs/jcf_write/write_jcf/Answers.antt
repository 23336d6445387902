use Rattle.std.proofs.Common.{[], append-nil, refl, sym, Ok}
use Rattle.std.proofs.lemmas.Result.{err_from_is_err_and}
use Rattle.m4_model.specs.Jcf.{jcf_lines, jcf_text}
use Rattle.m4_text.proofs.Putting.{piece_put, put_fails, put_ends, put_end_fails}
use Rattle.m4_text.proofs.jcf_write.write_jcf.Goals as goal

pub returns-in_err-put_jcf_header : goal.returns-in_err-put_jcf_header
returns-in_err-put_jcf_header g c =
    let p = err_from_is_err_and c.from_residual.result c.from_residual.ensures.1 in
    put_fails (jcf_lines c.args.m.now) c.new-pending.ensures refl c.in_err-put_jcf_header.ensures p.1

pub returns-in_err-put_rows : goal.returns-in_err-put_rows
returns-in_err-put_rows g c =
    let p = err_from_is_err_and c.from_residual-in_err-put_rows.result c.from_residual-in_err-put_rows.ensures.1 in
    put_fails [] c.new-pending.ensures (sym (append-nil (jcf_text c.args.m.now))) (piece_put refl c.in_ok-put_jcf_header.ensures c.in_err-put_rows.ensures) p.1

pub returns-in_err-finish : goal.returns-in_err-finish
returns-in_err-finish g c =
    let p = err_from_is_err_and c.from_residual-in_err-finish.result c.from_residual-in_err-finish.ensures.1 in
    put_end_fails c.new-pending.ensures (piece_put {result = Ok tt} refl c.in_ok-put_jcf_header.ensures c.in_ok-put_rows.ensures) c.in_err-finish.ensures p.1

pub returns : goal.returns
returns g c =
    put_ends c.new-pending.ensures (piece_put {result = Ok tt} refl c.in_ok-put_jcf_header.ensures c.in_ok-put_rows.ensures) c.in_ok-finish.ensures
