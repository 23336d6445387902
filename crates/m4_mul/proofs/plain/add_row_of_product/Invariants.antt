use Rattle.std.proofs.Common.{◌≡◌}
use Rattle.m4_mzd.specs.Window.{content, showing}
use Rattle.m4_mzd.specs.Seen.{shown}
use Rattle.m4_mul.proofs.PlainLemmas.{with_terms}
use Rattle.m4_mul.proofs.plain.add_row_of_product.Given as goal

abbrev pub invariant-loop-t : goal.invariant-loop-t
invariant-loop-t g l = l.c ≡ showing l.fn.c (with_terms (content l.fn.c) l.i (shown l.a) (shown l.b) l.t)
