use Rattle.std.proofs.Common.{refl, arith}
use Rattle.m4_karatsuba.proofs.SliceLemmas.{halved}
use Rattle.m4_karatsuba.proofs.factors.Factors.halves.Goals as goal

pub returns : goal.returns
returns c =
    halved c.args.self _ _ c.requires.factors c.requires.some refl refl (omega (arith, c.div_ceil-low.ensures)) refl
    c.split_rows.ensures.above c.split_rows.ensures.below c.split_rows-2.ensures.above c.split_rows-2.ensures.below
