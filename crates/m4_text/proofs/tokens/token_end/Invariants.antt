use Rattle.std.proofs.Common.{◌≡◌, ℕ, ◌<◌, ◌≤◌, ◌-◌, false, length, get_or}
use Rattle.m4_model.specs.Jcf.{is_white}
use Rattle.m4_text.proofs.tokens.token_end.Given as goal

-- no white space is passed
abbrev pub invariant-loop-end : goal.invariant-loop-end
invariant-loop-end l = record {
  behind : l.start < l.end;
  within : l.end ≤ length l.bytes;
  black : (j : ℕ) → l.start ≤ j → j < l.end → is_white (get_or l.bytes j 0) ≡ false;
}

abbrev pub decreases-loop-end : goal.decreases-loop-end
decreases-loop-end l = length l.bytes - l.end
