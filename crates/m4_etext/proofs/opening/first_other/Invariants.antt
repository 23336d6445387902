use Rattle.std.proofs.Common.{◌≡◌, ◌≤◌, length, take}
use Rattle.m4_etext.proofs.opening.first_other.Given as goal

-- the bytes go on with the word so far
abbrev pub invariant-loop-place : goal.invariant-loop-place
invariant-loop-place l = (l.place ≤ length l.bytes) × (take l.place l.bytes ≡ take l.place l.word)
