use Rattle.std.proofs.Common.{◌≡◌, arith}
use Rattle.m4_field.specs.Fields.{the_field}
use Rattle.m4_karatsuba.proofs.ReductionLemmas.{all_folded}
use Rattle.m4_karatsuba.proofs.reduce.reduce.Goals as goal

pub returns-clause-remainders : goal.returns-clause-remainders
returns-clause-remainders c = λ i j below within.
    let m = c.args.shape.m in
    let w = c.loop-v.c in
    let v : c.loop-v.v ≡ c.args.field.degree = omega (arith, c.loop-v.invariant.0) in
    all_folded (the_field c.args.field) c.loop-v.v c.args.shape c.args.c.now w c.e-degree.ensures.field v c.requires c.rows-rows.ensures.shape.matrix
    c.loop-v.invariant.1 i j below within (c.loop-v.invariant.2 i j below within)
