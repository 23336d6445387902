use Rattle.std.proofs.Common.{◌≡◌, ◌+◌, ◌-◌, ◌*◌, ◌<◌, min}
use Rattle.m4_mzd.specs.Seen.{shown}
use Rattle.m4_model.specs.Additions.{additions}
use Rattle.m4_mul.specs.Parts.{IsFilled, HasSizes}
use Rattle.m4_mul.proofs.group.fill_slots.Given as goal

abbrev pub invariant-loop-slot : goal.invariant-loop-slot
invariant-loop-slot g l = record {
  filled : IsFilled l.tables (shown l.b) l.first l.width l.slot;
  sizes : HasSizes l.tables l.fn.tables;
  no_more : l.slot * l.k < l.width + l.k;
  ticks : l.steps ≡ l.fn.steps + additions 0 (min (l.slot * l.k) l.width) l.k;
}

abbrev pub decreases-loop-slot : goal.decreases-loop-slot
decreases-loop-slot g l = l.width - l.slot * l.k
