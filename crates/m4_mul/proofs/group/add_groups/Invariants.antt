use Rattle.std.proofs.Common.{◌≡◌, ◌+◌, ◌-◌, ◌%◌, ◌<◌, ◌≤◌}
use Rattle.m4_mzd.specs.Window.{content, showing}
use Rattle.m4_mzd.specs.Seen.{shown}
use Rattle.m4_model.specs.Additions.{additions}
use Rattle.m4_mul.specs.Parts.{HasSizes, with_part}
use Rattle.m4_mul.proofs.group.add_groups.Given as goal

abbrev pub invariant-loop-first : goal.invariant-loop-first
invariant-loop-first g l = record {
  sum : l.c ≡ showing l.fn.c (with_part (content l.fn.c) (shown l.a) (shown l.b) 0 l.first);
  sizes : HasSizes l.tables l.initial.tables;
  whole : l.first < l.end → l.first % l.tables.k ≡ 0;
  within : l.first ≤ l.end;
  ticks : l.steps ≡ l.fn.steps + additions l.fn.c.rows l.first l.tables.k;
}

abbrev pub decreases-loop-first : goal.decreases-loop-first
decreases-loop-first g l = l.end - l.first
