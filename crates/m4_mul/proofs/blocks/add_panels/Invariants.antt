use Rattle.std.proofs.Common.{◌≡◌, ◌-◌, ◌%◌, ◌<◌, ◌≤◌}
use Rattle.m4_mzd.specs.Window.{content, showing}
use Rattle.m4_mzd.specs.Seen.{shown}
use Rattle.m4_mul.specs.Parts.{HasSizes, with_part}
use Rattle.m4_mul.proofs.blocks.add_panels.Given as goal

abbrev pub invariant-loop-first : goal.invariant-loop-first
invariant-loop-first g l = record {
  sum : l.c ≡ showing l.fn.c (with_part (content l.fn.c) (shown l.a) (shown l.b) 0 l.first);
  sizes : HasSizes l.tables l.fn.tables;
  panel_rows : l.panel.rows ≡ l.fn.panel.rows;
  panel_cols : l.panel.cols ≡ l.fn.panel.cols;
  whole : l.first < l.end → l.first % 64 ≡ 0;
  within : l.first ≤ l.end;
}

abbrev pub decreases-loop-first : goal.decreases-loop-first
decreases-loop-first g l = l.end - l.first
