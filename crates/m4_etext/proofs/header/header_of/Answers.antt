use Rattle.m4_etext.proofs.Headers.{wrong_opening, wrong_rows, wrong_cols, header_read}
use Rattle.std.proofs.lemmas.Result.{err_from_is_err_and}
use Rattle.m4_etext.proofs.header.header_of.Goals as goal

pub returns-in_err-opened : goal.returns-in_err-opened
returns-in_err-opened c =
    let p = err_from_is_err_and c.from_residual.result c.from_residual.ensures.1 in
    rw (p.1, p.2) (wrong_opening _ _ c.in_err-opened.ensures)

pub returns-in_err-rows : goal.returns-in_err-rows
returns-in_err-rows c =
    let p = err_from_is_err_and c.from_residual-in_err-rows.result c.from_residual-in_err-rows.ensures.1 in
    rw (p.1, p.2) (wrong_rows _ _ _ _ c.in_ok-opened.ensures c.in_err-rows.ensures)

pub returns-in_err-cols : goal.returns-in_err-cols
returns-in_err-cols c =
    let p = err_from_is_err_and c.from_residual-in_err-cols.result c.from_residual-in_err-cols.ensures.1 in
    rw (p.1, p.2) (wrong_cols _ _ _ _ _ _ c.in_ok-opened.ensures c.in_ok-rows.ensures c.in_err-cols.ensures)

pub returns : goal.returns
returns c = header_read _ _ _ _ _ _ _ c.in_ok-opened.ensures c.in_ok-rows.ensures c.in_ok-cols.ensures
