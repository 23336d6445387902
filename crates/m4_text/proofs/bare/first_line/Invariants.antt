use Rattle.std.proofs.Common.{ℕ, ◌<◌, ◌≤◌, ◌-◌, length, get_or}
use Rattle.m4_text.specs.Place.{IsBinaryDigit}
use Rattle.m4_text.proofs.bare.first_line.Given as goal

-- so many digits stand at the front
abbrev pub invariant-loop-cols : goal.invariant-loop-cols
invariant-loop-cols l = record {
  few : l.cols ≤ 65536;
  within : l.cols ≤ length l.bytes;
  digits : (j : ℕ) → j < l.cols → IsBinaryDigit (get_or l.bytes j 0);
}

abbrev pub decreases-loop-cols : goal.decreases-loop-cols
decreases-loop-cols l = length l.bytes - l.cols
