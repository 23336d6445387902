use Rattle.std.proofs.Common.{◌≡◌, ◌≤◌, ◌++◌, length, take}
use Rattle.m4_etext.specs.Heads.{BeginsHeader}
use Rattle.m4_etext.proofs.head.Head.feed.Given as goal

-- the bytes before the place are kept, and begin a header line
abbrev pub invariant-loop-place : goal.invariant-loop-place
invariant-loop-place l = record {
  within : l.place ≤ length l.piece;
  fed : l.self ≡ l.fn.self ++ take l.place l.piece;
  begins : BeginsHeader l.self;
}
