use Rattle.std.proofs.Common.{◌≡◌}
use Rattle.m4_mzd.specs.Window.{content, showing}
use Rattle.m4_mzd.specs.Seen.{shown}
use Rattle.m4_mul.proofs.AddedLemmas.{added_rows}
use Rattle.m4_mul.proofs.PlainLemmas.{all_terms}
use Rattle.m4_mul.proofs.plain.add_product.Given as goal

abbrev pub invariant-loop-i : goal.invariant-loop-i
invariant-loop-i g l = l.c ≡ showing l.fn.c (added_rows (content l.fn.c) (all_terms (shown l.a) (shown l.b)) l.i)
