use Rattle.std.proofs.Common.{◌≡◌, ◌+◌, ◌*◌}
use Rattle.m4_mzd.specs.Window.{content, showing}
use Rattle.m4_mzd.specs.Seen.{shown}
use Rattle.m4_mul.specs.Parts.{part_of_entry}
use Rattle.m4_mul.proofs.AddedLemmas.{added_rows}
use Rattle.m4_mul.proofs.group.add_entries.Given as goal

abbrev pub invariant-loop-i : goal.invariant-loop-i
invariant-loop-i g l = record {
  sum : l.c ≡ showing l.fn.c (added_rows (content l.fn.c) (part_of_entry (shown l.a) (shown l.b) l.first l.width) l.i);
  ticks : l.steps ≡ l.fn.steps + l.i * g.row.T;
}
