use Rattle.m4_gen.proofs.MaskLemmas.{low_bits_are}
use Rattle.m4_gen.proofs.mask.element_bits.Goals as goal

pub returns : goal.returns
returns c = λ q below.
    low_bits_are c.args.field.now.degree c.width.result c.e.result q c.width.ensures.width c.e.ensures.degree c.e.ensures.field.degree_high below
