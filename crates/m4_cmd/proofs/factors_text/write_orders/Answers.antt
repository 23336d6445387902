use Rattle.std.proofs.Common.{refl}
use Rattle.std.proofs.lemmas.Result.{err_from_is_err_and}
use Rattle.m4_model.specs.NumberLines.{numbers_line}
use Rattle.m4_cmd.specs.Factors.{rows_line}
use Rattle.m4_cmd.proofs.PartLemmas.{part_stops, part_follows}
use Rattle.m4_cmd.proofs.factors_text.write_orders.Goals as goal

pub returns-in_err-write_numbers : goal.returns-in_err-write_numbers
returns-in_err-write_numbers g c =
    let p = err_from_is_err_and c.from_residual.result c.from_residual.ensures.1 in
    part_stops (rows_line c.args.rows.now) (numbers_line c.args.name.now c.args.columns.now) _ refl p.1 c.in_err-write_numbers.ensures

pub returns : goal.returns
returns g c = part_follows (rows_line c.args.rows.now) (numbers_line c.args.name.now c.args.columns.now) _ refl c.in_ok-write_numbers.ensures c.write_numbers-2.ensures
