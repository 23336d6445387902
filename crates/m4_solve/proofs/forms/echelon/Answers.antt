use Rattle.std.proofs.Common.{arith, take, length-take}
use Rattle.m4_model.proofs.FieldProofs.{field_laws}
use Rattle.m4_solve.proofs.Ranks.{pivots_at}
use Rattle.m4_solve.proofs.forms.echelon.Goals as goal

pub returns-clause-rank : goal.returns-clause-rank
returns-clause-rank g c =
    let reduced = c.reduce.ensures.reduced in
    let r = c.reduce.result in
    let items = c.reduce.new.self.pivots.items in
    let front = length-take r items in
    let within = c.reduce.ensures.rank in
    (take r items, pivots_at (field_laws c.args.a.now.field c.rows.ensures.matrix.over_field) reduced, omega (arith, front, within))
