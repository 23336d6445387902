use Rattle.std.proofs.Common.{◌≡◌, ◌+◌, ◌*◌}
use Rattle.m4_model.specs.Text.{words_per_row}
use Rattle.m4_gen.specs.Source.{HasGiven, masked_bit}
use Rattle.m4_gen.proofs.FillLemmas.{IsBegun}
use Rattle.m4_gen.proofs.source.fill_row.Given as goal

abbrev pub invariant-loop-w : goal.invariant-loop-w
invariant-loop-w g l = record {
  begun : IsBegun l.fn.whole l.whole l.fn.whole.cols l.fn.r l.w (masked_bit l.fn.whole.cols l.fn.mask g.seed l.fn.r);
  given : HasGiven g.seed (l.fn.r * words_per_row l.fn.whole.cols + l.w) l.source;
  all : l.w-end ≡ words_per_row l.fn.whole.cols;
}
