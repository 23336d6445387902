use Rattle.std.proofs.Common.{[], append-nil, sym}
use Rattle.std.proofs.lemmas.Result.{err_from_is_err_and}
use Rattle.m4_model.specs.Bare.{bare_text}
use Rattle.m4_text.proofs.Putting.{put_fails, put_ends, put_end_fails}
use Rattle.m4_text.proofs.write.write_bare.Goals as goal

pub returns-in_err-put_lines : goal.returns-in_err-put_lines
returns-in_err-put_lines g c =
    let p = err_from_is_err_and c.from_residual.result c.from_residual.ensures.1 in
    put_fails [] c.new-pending.ensures (sym (append-nil (bare_text c.args.m.now))) c.in_err-put_lines.ensures p.1

pub returns-in_err-finish : goal.returns-in_err-finish
returns-in_err-finish g c =
    let p = err_from_is_err_and c.from_residual-in_err-finish.result c.from_residual-in_err-finish.ensures.1 in
    put_end_fails c.new-pending.ensures c.in_ok-put_lines.ensures c.in_err-finish.ensures p.1

pub returns : goal.returns
returns g c = put_ends c.new-pending.ensures c.in_ok-put_lines.ensures c.in_ok-finish.ensures
