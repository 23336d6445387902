use Rattle.std.proofs.Common.{◌≡◌, ◌≤◌, ◌-◌, length, drop}
use Rattle.m4_model.specs.Jcf.{tokens_from}
use Rattle.m4_text.proofs.tokens.skip_white.Given as goal

-- only white space is passed
abbrev pub invariant-loop-place : goal.invariant-loop-place
invariant-loop-place l = record {
  behind : l.from ≤ l.place;
  within : l.place ≤ length l.bytes;
  same : tokens_from l.from (drop l.from l.bytes) ≡ tokens_from l.place (drop l.place l.bytes);
}

abbrev pub decreases-loop-place : goal.decreases-loop-place
decreases-loop-place l = length l.bytes - l.place
