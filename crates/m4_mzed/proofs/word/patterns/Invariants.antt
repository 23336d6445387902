use Rattle.std.proofs.Common.{◌≡◌, ℕ, ◌*◌, ◌%◌, ◌^◌, ◌<◌, length, get_or}
use Rattle.m4_mzed.proofs.word.patterns.Given as goal

abbrev pub invariant-loop-i : goal.invariant-loop-i
invariant-loop-i g l = (length l.list ≡ g.row.N) × ((i : ℕ) → i < l.i → get_or l.list i 0 ≡ l.low * get_or l.factors i 0 % 2 ^ 64)
