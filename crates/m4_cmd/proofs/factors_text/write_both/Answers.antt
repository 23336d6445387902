use Rattle.std.proofs.Common.{refl}
use Rattle.std.proofs.lemmas.Result.{err_from_is_err_and}
use Rattle.m4_model.specs.Headed.{headed_text}
use Rattle.m4_cmd.proofs.PartLemmas.{part_stops, part_follows}
use Rattle.m4_cmd.proofs.factors_text.write_both.Goals as goal

pub returns-in_err-write_text : goal.returns-in_err-write_text
returns-in_err-write_text g c =
    let p = err_from_is_err_and c.from_residual.result c.from_residual.ensures.1 in
    part_stops (headed_text c.args.first) (headed_text c.args.second) _ refl p.1 c.in_err-write_text.ensures

pub returns : goal.returns
returns g c = part_follows (headed_text c.args.first) (headed_text c.args.second) _ refl c.in_ok-write_text.ensures c.write_text-2.ensures
