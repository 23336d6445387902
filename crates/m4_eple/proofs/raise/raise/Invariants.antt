use Rattle.std.proofs.Common.{◌≡◌, ℕ, ◌+◌, ◌<◌, ◌≤◌, length, slice_index}
use Rattle.m4_eple.proofs.raise.raise.Given as goal

-- the first i numbers are raised
abbrev pub invariant-loop-i : goal.invariant-loop-i
invariant-loop-i l = record {
  long : length l.list ≡ length l.fn.list;
  done : (k : ℕ) → k < l.i → slice_index l.list k ≡ slice_index l.fn.list k + l.by;
  rest : (k : ℕ) → l.i ≤ k → slice_index l.list k ≡ slice_index l.fn.list k;
}
