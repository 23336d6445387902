use Rattle.std.proofs.Common.{◌≡◌, ℕ, ◌+◌, ◌*◌, ◌<◌, get_or}
use Rattle.std.specs.Int.{bit_at}
use Rattle.m4_bits.proofs.digits.put_digits.Given as goal

abbrev pub invariant-loop-place : goal.invariant-loop-place
invariant-loop-place l = (k : ℕ) → k < 8 * l.place → get_or l.digits k 0 ≡ 48 + bit_at l.word k
