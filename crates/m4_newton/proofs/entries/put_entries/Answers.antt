use Rattle.std.proofs.Common.{ap, arith}
use Rattle.std.proofs.Math.Pow.{pow_pos}
use Rattle.m4_model.specs.Matrix.{row}
use Rattle.m4_mzed.specs.EWindow.{EWindow}
use Rattle.m4_mzed.specs.ESeen.{e_shown}
use Rattle.m4_newton.proofs.EntryLemmas.{first_entry, fewer}
use Rattle.m4_newton.proofs.entries.put_entries.Goals as goal

pub loop-u-init : goal.loop-u-init
loop-u-init c =
    first_entry c.args.m.now c.put_multiple.new.m (row (e_shown c.args.b.now) c.args.t) c.args.base c.args.shift
    (omega (arith, c.rows-rows.ensures.matrix.height, c.requires.in_rows, pow_pos c.args.bits)) c.put_multiple.ensures

pub loop-u-preserved : goal.loop-u-preserved
loop-u-preserved c = c.double_entries.ensures c.args.m.now c.loop-u.invariant

pub double_entries-requires-clause-in_rows : goal.double_entries-requires-clause-in_rows
double_entries-requires-clause-in_rows c =
    omega (arith, c.requires.in_rows, ap (λ (v : EWindow). v.rows) c.loop-u.invariant.kept, fewer c.loop-u.u c.args.bits c.loop-u-test.true)
