use Rattle.std.proofs.Common.{◌≡◌, ℕ, ◌<◌, ◌≤◌, get_or}
use Rattle.m4_erasure.proofs.source.is_padded.Given as goal

abbrev pub invariant-loop-p : goal.invariant-loop-p
invariant-loop-p l = (l.len ≤ l.p) × ((q : ℕ) → l.len ≤ q → q < l.p → get_or l.whole q 0 ≡ 0)
