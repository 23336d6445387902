use Rattle.std.proofs.Common.{◌≡◌, ℕ, ◌<◌, ◌≤◌, get_or}
use Rattle.std.specs.Int.{bit_at}
use Rattle.m4_ple.proofs.words.find_one.Given as goal

abbrev pub invariant-loop-r : goal.invariant-loop-r
invariant-loop-r l = (l.from ≤ l.r) × ((i : ℕ) → l.from ≤ i → i < l.r → bit_at (get_or l.words i 0) l.c ≡ 0)
