use Rattle.std.proofs.Common.{arith, get_or-take}
use Rattle.std.proofs.lemmas.List.{length-take-le}
use Rattle.m4_eple.proofs.PivotLemmas.{pivots_inside, few_pivots}
use Rattle.m4_eple.proofs.plain.PlainBase.ple.Goals as goal

pub returns-clause-few_cols : goal.returns-clause-few_cols
returns-clause-few_cols c =
    let few = few_pivots _ _ _ _ c.ple_plain.ensures.factors in
    let q = c.ple_plain.new.q in
    omega (arith, few, length-take-le c.ple_plain.result q c.ple_plain.ensures.rank)

pub returns-clause-in_cols : goal.returns-clause-in_cols
returns-clause-in_cols c i below =
    let q = c.ple_plain.new.q in
    let long = length-take-le c.ple_plain.result q c.ple_plain.ensures.rank in
    let inside = pivots_inside _ _ _ _ c.ple_plain.ensures.factors i (omega (arith, below, long)) in
    let same = get_or-take c.ple_plain.result q i 0 below in
    omega (arith, inside, same)
