use Rattle.std.proofs.Common.{◌≡◌, ◌*◌}
use Rattle.m4_model.specs.Matrix.{table}
use Rattle.m4_model.specs.Text.{words_per_row}
use Rattle.m4_mzd.proofs.PairLemmas.{copied}
use Rattle.m4_gen.specs.Source.{HasGiven, masked_bit}
use Rattle.m4_gen.proofs.source.fill.Given as goal

abbrev pub ghost-fill_row : goal.ghost-fill_row
ghost-fill_row g a = g.seed

abbrev pub invariant-loop-r : goal.invariant-loop-r
invariant-loop-r g l = record {
  filled : l.whole ≡ copied l.fn.whole (table l.fn.whole.rows l.fn.whole.cols (masked_bit l.fn.whole.cols l.fn.mask g.seed)) l.r;
  given : HasGiven g.seed (l.r * words_per_row l.fn.whole.cols) l.source;
  all : l.r-end ≡ l.fn.whole.rows;
}
