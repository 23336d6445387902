use Rattle.std.proofs.Common.{◌+◌, ◌*◌, ◌^◌}
use Rattle.std.specs.Int.{bit_at}
use Rattle.m4_model.specs.Matrix.{at}
use Rattle.m4_mzd.specs.Seen.{shown}
use Rattle.m4_karatsuba.proofs.ReductionLemmas.{no_terms, more_terms}
use Rattle.m4_karatsuba.proofs.reduce.add_terms.Goals as goal

pub loop-t-init : goal.loop-t-init
loop-t-init c =
    no_terms (c.args.first + c.args.field.degree) c.args.shape c.args.c.now (λ i j t. bit_at c.args.field.poly t * (at (shown c.args.slice.now) i j * 2 ^ c.args.first * 2 ^ t))

pub loop-t-preserved : goal.loop-t-preserved
loop-t-preserved c =
    more_terms (c.args.first + c.args.field.degree) c.loop-t.t c.args.shape c.args.c.now c.loop-t.c c.add_term.new.c
    (λ i j t. bit_at c.args.field.poly t * (at (shown c.args.slice.now) i j * 2 ^ c.args.first * 2 ^ t)) c.loop-t.invariant c.add_term.ensures
