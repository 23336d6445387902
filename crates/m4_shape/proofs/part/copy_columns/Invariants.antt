use Rattle.std.proofs.Common.{◌≡◌, ◌+◌}
use Rattle.m4_model.specs.Shapes.{cut, replace}
use Rattle.m4_mzd.specs.Window.{content}
use Rattle.m4_mzd.specs.Seen.{shown}
use Rattle.m4_mzd.proofs.PairLemmas.{copied}
use Rattle.m4_shape.proofs.part.copy_columns.Given as goal

abbrev pub invariant-loop-r : goal.invariant-loop-r
invariant-loop-r l = record {
  so_far : l.dst ≡ copied l.fn.dst (replace (content l.fn.dst) 0 l.c (cut (shown l.src) l.r0 l.first (l.r0 + l.fn.dst.rows) (l.first + l.count))).entries l.r;
  all : l.r-end ≡ l.fn.dst.rows;
}
