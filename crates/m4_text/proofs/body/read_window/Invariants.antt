use Rattle.std.proofs.Common.{◌≡◌}
use Rattle.m4_mzd.specs.Window.{content, showing}
use Rattle.m4_text.proofs.Rows.{RowsSoFar}
use Rattle.m4_text.proofs.body.read_window.Given as goal

-- the lines of the first r rows are read, and all but the entries is as it was
abbrev pub invariant-loop-r : goal.invariant-loop-r
invariant-loop-r l = record {
  read : RowsSoFar l.fn.whole.rows l.fn.whole.cols l.bytes l.place l.r (content l.whole);
  stays : l.whole ≡ showing l.fn.whole (content l.whole);
}
