use Rattle.std.proofs.Common.{◌≡◌, ℕ, ◌+◌, ◌<◌, ◌≤◌, get_or}
use Rattle.m4_bits.specs.Transpose.{WordsChangePlaces}
use Rattle.m4_bits.proofs.transpose.exchange_rows.Given as goal

abbrev pub invariant-loop-k : goal.invariant-loop-k
invariant-loop-k l = record {
  exchanged : (i : ℕ) → l.first ≤ i → i < l.k → WordsChangePlaces l.size l.fn.block l.block i (i + l.words);
  before : (i : ℕ) → i < l.first → get_or l.block i 0 ≡ get_or l.fn.block i 0;
  between : (i : ℕ) → l.k ≤ i → i < l.first + l.words → get_or l.block i 0 ≡ get_or l.fn.block i 0;
  after : (i : ℕ) → l.k + l.words ≤ i → get_or l.block i 0 ≡ get_or l.fn.block i 0;
}
