use Rattle.std.proofs.Common.{◌≡◌, length}
use Rattle.m4_mzd.specs.Seen.{shown}
use Rattle.m4_mul.specs.Parts.{IsIndex}
use Rattle.m4_mul.proofs.index.bits_of.Given as goal

abbrev pub invariant-loop-slot : goal.invariant-loop-slot
invariant-loop-slot g l = record {
  is : IsIndex l.index (shown l.a) l.i l.first l.width l.k l.slot;
  long : length l.index ≡ g.row.T;
}
