use Rattle.std.proofs.Common.{◌∷◌, decimal, ap, ◌∙◌, sym, refl}
use Rattle.std.proofs.lemmas.Result.{err_from_is_err_and}
use Rattle.m4_etext.proofs.Putting.{front_fails, piece_put}
use Rattle.m4_etext.proofs.pending.Pending.put_behind.Goals as goal

pub returns-in_err-put : goal.returns-in_err-put
returns-in_err-put g c =
    let p = err_from_is_err_and c.from_residual.result c.from_residual.ensures.1 in
    front_fails (decimal c.args.number) refl c.in_err-put.ensures p.1

pub returns : goal.returns
returns g c =
    let spelled = c.as_bytes.ensures.value ∙ c.format.ensures.text in
    piece_put (ap (λ w. c.args.before ∷ w) (sym spelled)) c.in_ok-put.ensures c.put-2.ensures
