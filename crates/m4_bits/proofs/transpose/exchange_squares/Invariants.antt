use Rattle.std.proofs.Common.{◌≡◌, ℕ, ◌+◌, ◌*◌, ◌<◌, ◌≤◌, get_or}
use Rattle.m4_bits.specs.Transpose.{WordsChangePlaces}
use Rattle.m4_bits.proofs.transpose.exchange_squares.Given as goal

abbrev pub invariant-loop-place : goal.invariant-loop-place
invariant-loop-place l = record {
  exchanged : (p i : ℕ) → p < l.place → i < l.words → WordsChangePlaces l.size l.fn.block l.block (p * (2 * l.words) + i) (p * (2 * l.words) + l.words + i);
  after : (i : ℕ) → l.place * (2 * l.words) ≤ i → get_or l.block i 0 ≡ get_or l.fn.block i 0;
}
