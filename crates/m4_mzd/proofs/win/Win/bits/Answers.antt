use Rattle.std.proofs.Common.{◌+◌, ◌<◌, arith, sym, ap, ◌∙◌}
use Rattle.m4_bits.specs.Bits.{bit}
use Rattle.m4_mzd.proofs.SeenLemmas.{at-shown}
use Rattle.m4_mzd.proofs.win.Win.bits.Goals as goal

pub returns-clause-bits : goal.returns-clause-bits
returns-clause-bits c = λ i below.
    let within : c.args.c + i < c.args.self.now.cols = omega (arith, below) in
    c.take_bits.ensures.bits i below
    ∙ (ap (λ row. bit row (c.args.c + i)) c.row.ensures.words ∙ sym (at-shown c.args.self.now c.args.r (c.args.c + i) c.requires.in_rows within))
