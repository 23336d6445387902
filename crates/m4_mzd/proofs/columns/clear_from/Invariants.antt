use Rattle.std.proofs.Common.{◌≡◌, ℕ, ◌<◌, ◌≤◌, get_or}
use Rattle.m4_mzd.proofs.columns.clear_from.Given as goal

abbrev pub invariant-loop-i : goal.invariant-loop-i
invariant-loop-i l = record {
  zeros : (i : ℕ) → l.place ≤ i → i < l.i → get_or l.words i 0 ≡ 0;
  kept : (i : ℕ) → i < l.place → get_or l.words i 0 ≡ get_or l.fn.words i 0;
}
