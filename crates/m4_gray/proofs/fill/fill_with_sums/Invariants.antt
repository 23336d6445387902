use Rattle.std.proofs.Common.{◌≡◌, ◌+◌, ◌^◌}
use Rattle.m4_mzd.specs.Seen.{shown}
use Rattle.m4_gray.specs.Slots.{subset_sums}
use Rattle.m4_gray.proofs.FillLemmas.{FilledTo}
use Rattle.m4_gray.proofs.fill.fill_with_sums.Given as goal

abbrev pub invariant-loop-bit : goal.invariant-loop-bit
invariant-loop-bit g l = record {
  part : FilledTo l.fn.part l.part (subset_sums (shown l.b) l.first l.bits) (2 ^ l.bit);
  ticks : l.steps + 1 ≡ l.fn.steps + 2 ^ l.bit;
}
