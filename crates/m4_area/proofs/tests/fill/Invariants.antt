use Rattle.std.proofs.Common.{◌≡◌}
use Rattle.m4_area.specs.Storage.{frame_of}
use Rattle.m4_area.proofs.tests.fill.Given as goal

abbrev pub invariant-loop-r : goal.invariant-loop-r
invariant-loop-r l = (frame_of l.m ≡ frame_of l.fn.m) × (l.r-end ≡ l.fn.m.rows)
