use Rattle.std.proofs.Common.{◌+◌, ◌*◌, ◌^◌}
use Rattle.std.specs.Int.{bit_at}
use Rattle.m4_model.specs.Field.{sum_below}
use Rattle.m4_model.specs.Matrix.{at}
use Rattle.m4_mzd.specs.Seen.{shown}
use Rattle.m4_karatsuba.specs.Factors.{IsAdded}
use Rattle.m4_karatsuba.proofs.reduce.add_terms.Given as goal

abbrev pub invariant-loop-t : goal.invariant-loop-t
invariant-loop-t l =
    IsAdded (l.first + l.field.degree) l.shape l.fn.c l.c (λ i j. sum_below l.t (λ t. bit_at l.field.poly t * (at (shown l.slice) i j * 2 ^ l.first * 2 ^ t)))
