use Rattle.std.proofs.Common.{◌≡◌}
use Rattle.m4_mzed.specs.EWindow.{content, showing}
use Rattle.m4_mzed.specs.ESeen.{e_shown}
use Rattle.m4_solve.proofs.Gathers.{AreRowsCopied}
use Rattle.m4_solve.proofs.gather.copy_columns.Given as goal

abbrev pub invariant-loop-i : goal.invariant-loop-i
invariant-loop-i l = (l.g ≡ showing l.fn.g (content l.g)) × AreRowsCopied (e_shown l.w) (content l.fn.g) l.c l.d l.count l.i (content l.g)
