use Rattle.std.proofs.Common.{◌≡◌}
use Rattle.m4_mzed.specs.EWindow.{content, showing}
use Rattle.m4_mzed.specs.ESeen.{e_shown}
use Rattle.m4_mul.proofs.AddedLemmas.{added_rows}
use Rattle.m4_mul.proofs.PlainLemmas.{all_terms}
use Rattle.m4_cert.proofs.products.add_product.Given as goal

abbrev pub invariant-loop-i : goal.invariant-loop-i
invariant-loop-i l = l.c ≡ showing l.fn.c (added_rows (content l.fn.c) (all_terms (e_shown l.a) (e_shown l.b)) l.i)
