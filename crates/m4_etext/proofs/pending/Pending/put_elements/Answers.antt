use Rattle.std.proofs.Common.{refl, rules}
use Rattle.std.proofs.lemmas.Slice.{overwrites}
use Rattle.std.proofs.lemmas.Result.{err_from_is_err_and}
use Rattle.m4_etext.specs.Digits.{elements_of}
use Rattle.m4_etext.proofs.Putting.{front_fails, puts_behind}
use Rattle.m4_etext.proofs.pending.Pending.put_elements.Goals as goal

pub returns-in_err-make_room : goal.returns-in_err-make_room
returns-in_err-make_room g c =
    let p = err_from_is_err_and c.from_residual.result c.from_residual.ensures.1 in
    front_fails (elements_of c.args.width c.args.count c.args.word c.args.len) refl c.in_err-make_room.ensures.moved p.1

pub returns : goal.returns
returns g c = puts_behind c.in_ok-make_room.ensures.moved (search (rules, overwrites))
