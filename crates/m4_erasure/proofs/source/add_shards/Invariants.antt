use Rattle.std.proofs.Common.{ℕ, ◌<◌, length}
use Rattle.m4_erasure.specs.Restored.{body_byte}
use Rattle.m4_erasure.specs.Whole.{IsWhole}
use Rattle.m4_erasure.proofs.source.add_shards.Given as goal

abbrev pub invariant-loop-j : goal.invariant-loop-j
invariant-loop-j l = IsWhole l.inverse l.j l.shards (length l.fn.whole) l.whole × ((s t : ℕ) → s < l.j → body_byte l.shards s t < 256)
