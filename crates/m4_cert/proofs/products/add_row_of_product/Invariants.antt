use Rattle.std.proofs.Common.{◌≡◌}
use Rattle.m4_mzed.specs.EWindow.{content, showing}
use Rattle.m4_mzed.specs.ESeen.{e_shown}
use Rattle.m4_mul.proofs.PlainLemmas.{with_terms}
use Rattle.m4_cert.proofs.products.add_row_of_product.Given as goal

abbrev pub invariant-loop-t : goal.invariant-loop-t
invariant-loop-t l = l.c ≡ showing l.fn.c (with_terms (content l.fn.c) l.i (e_shown l.a) (e_shown l.b) l.t)
