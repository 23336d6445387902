use Rattle.std.proofs.Common.{◌≡◌}
use Rattle.m4_mzd.proofs.made_up.mixed.Given as goal

abbrev pub invariant-loop-r : goal.invariant-loop-r
invariant-loop-r l = record {
  frame : record l.whole { bits = l.initial.whole.bits } ≡ l.initial.whole;
  rows : l.whole.rows ≡ l.initial.whole.rows;
  all : l.r-end ≡ l.initial.whole.rows;
}
