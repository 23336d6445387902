use Rattle.std.proofs.Common.{refl}
use Rattle.m4_field.specs.Fields.{the_field}
use Rattle.m4_mzd.specs.Seen.{shown}
use Rattle.m4_mzed.proofs.SeenLemmas.{matrix_packed, matrix_shown}
use Rattle.m4_mzed.proofs.win.EWin.of_bits.Goals as goal

pub invariant_of-result : goal.invariant_of-result
invariant_of-result c =
    let e = c.rows-rows.ensures in
    record { packed = matrix_packed (the_field c.gf2.result) c.cols.result (shown c.args.bits) e.matrix refl e.few_rows e.few_cols c.gf2.ensures c.cols.ensures.cols }

pub returns : goal.returns
returns c =
    let e = c.rows-rows.ensures in
    matrix_shown (the_field c.gf2.result) c.cols.result (shown c.args.bits) e.matrix refl e.few_rows e.few_cols c.gf2.ensures c.cols.ensures.cols
