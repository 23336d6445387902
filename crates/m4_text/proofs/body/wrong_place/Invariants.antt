use Rattle.std.proofs.Common.{ℕ, ◌<◌, ◌≤◌, length, get_or}
use Rattle.m4_text.specs.Place.{IsBinaryDigit}
use Rattle.m4_text.proofs.body.wrong_place.Given as goal

-- so many digits stand at the front
abbrev pub invariant-loop-place : goal.invariant-loop-place
invariant-loop-place l = record {
  within : l.place ≤ length l.bytes;
  digits : (j : ℕ) → j < l.place → IsBinaryDigit (get_or l.bytes j 0);
}
