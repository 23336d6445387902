use Rattle.std.proofs.Common.{◌≡◌, length, take}
use Rattle.std.specs.List.{range_with_len}
use Rattle.m4_ple.proofs.plain.number.Given as goal

abbrev pub invariant-loop-i : goal.invariant-loop-i
invariant-loop-i l = (length l.p ≡ length l.fn.p) × (take l.i l.p ≡ range_with_len 0 l.i)
