use Rattle.std.proofs.Common.{◌≡◌}
use Rattle.m4_mzed.specs.EWindow.{content, showing}
use Rattle.m4_eple.proofs.MoveLemmas.{moved_to}
use Rattle.m4_eple.proofs.lower.move_lower.Given as goal

-- the rows before row i are moved
abbrev pub invariant-loop-i : goal.invariant-loop-i
invariant-loop-i l = record {
  moved : l.a ≡ showing l.fn.a (moved_to l.r l.left l.s (content l.fn.a) l.i);
  spare : l.spare ≡ showing l.fn.spare (content l.spare);
}
