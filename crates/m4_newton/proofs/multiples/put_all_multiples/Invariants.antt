use Rattle.std.proofs.Common.{◌≡◌, ◌+◌}
use Rattle.m4_mzed.specs.EWindow.{content, showing}
use Rattle.m4_mzed.specs.ESeen.{e_shown}
use Rattle.m4_newton.specs.Multiples.{HasMultiples}
use Rattle.m4_newton.proofs.multiples.put_all_multiples.Given as goal

abbrev pub invariant-loop-t : goal.invariant-loop-t
invariant-loop-t g l = record {
  kept : l.m ≡ showing l.fn.m (content l.m);
  multiples : HasMultiples (content l.m) (e_shown l.b) l.t;
  ticks : l.steps ≡ l.fn.steps + l.t;
}
