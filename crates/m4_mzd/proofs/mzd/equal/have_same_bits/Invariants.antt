use Rattle.std.proofs.Common.{◌≡◌, ℕ, ◌<◌, length, get_or}
use Rattle.m4_mzd.proofs.mzd.equal.have_same_bits.Given as goal

abbrev pub invariant-loop-place : goal.invariant-loop-place
invariant-loop-place l = record {
  same : (k : ℕ) → k < l.place → get_or l.a k 0 ≡ get_or l.b k 0;
  all : l.place-end ≡ length l.a;
}
