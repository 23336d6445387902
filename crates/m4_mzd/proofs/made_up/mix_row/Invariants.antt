use Rattle.std.proofs.Common.{◌≡◌}
use Rattle.m4_model.specs.Text.{words_per_row}
use Rattle.m4_mzd.proofs.made_up.mix_row.Given as goal

abbrev pub invariant-loop-w : goal.invariant-loop-w
invariant-loop-w l = record {
  frame : record l.whole { bits = l.fn.whole.bits } ≡ l.fn.whole;
  rows : l.whole.rows ≡ l.fn.whole.rows;
  cols : l.whole.cols ≡ l.fn.whole.cols;
  all : l.w-end ≡ words_per_row l.fn.whole.cols;
}
