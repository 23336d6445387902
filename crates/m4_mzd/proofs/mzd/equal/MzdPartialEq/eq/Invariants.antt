use Rattle.std.proofs.Common.{◌≡◌, ℕ, ◌<◌}
use Rattle.m4_bits.specs.Bits.{bit}
use Rattle.m4_area.specs.Rows.{row_of}
use Rattle.m4_mzd.proofs.mzd.equal.MzdPartialEq.eq.Given as goal

abbrev pub invariant-loop-r : goal.invariant-loop-r
invariant-loop-r l = record {
  same : (i j : ℕ) → i < l.r → bit (row_of l.mine.words i) j ≡ bit (row_of l.theirs.words i) j;
  all : l.r-end ≡ l.self.rows;
}
