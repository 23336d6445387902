use Rattle.std.proofs.Common.{◌≡◌}
use Rattle.m4_mzd.specs.Window.{content}
use Rattle.m4_mzd.specs.Parts.{with_words}
use Rattle.m4_mzd.proofs.PairLemmas.{copied}
use Rattle.m4_mzd.proofs.win_mut.WinMut.set_words.Given as goal

abbrev pub invariant-loop-r : goal.invariant-loop-r
invariant-loop-r l = record {
  so_far : l.self ≡ copied l.fn.self (with_words l.w l.words (content l.fn.self)).entries l.r;
  all : l.r-end ≡ l.fn.self.rows;
}
