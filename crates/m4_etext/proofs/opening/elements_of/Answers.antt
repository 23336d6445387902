use Rattle.std.proofs.lemmas.Result.{err_from_is_err_and}
use Rattle.m4_etext.proofs.Headers.{wrong_degree, wrong_poly, elements_read}
use Rattle.m4_etext.proofs.opening.elements_of.Goals as goal

pub returns-in_err-degree : goal.returns-in_err-degree
returns-in_err-degree c =
    let p = err_from_is_err_and c.from_residual.result c.from_residual.ensures.1 in
    rw (p.1, p.2) (wrong_degree _ c.requires _ c.in_err-degree.ensures)

pub returns-in_err-poly : goal.returns-in_err-poly
returns-in_err-poly c =
    let p = err_from_is_err_and c.from_residual-in_err-poly.result c.from_residual-in_err-poly.ensures.1 in
    rw (p.1, p.2) (wrong_poly _ c.requires _ _ _ c.in_ok-degree.ensures c.in_err-poly.ensures)

pub returns : goal.returns
returns c = elements_read _ c.requires _ _ _ _ c.in_ok-degree.ensures c.in_ok-poly.ensures
