use Rattle.std.proofs.Common.{◌≡◌, ◌≤◌, length, codes, take}
use Rattle.m4_text.proofs.header.opening.Given as goal

-- the bytes begin with the letters so far
abbrev pub invariant-loop-place : goal.invariant-loop-place
invariant-loop-place l = (l.place ≤ length l.bytes) × (take l.place l.bytes ≡ take l.place (codes "gf2 "))
