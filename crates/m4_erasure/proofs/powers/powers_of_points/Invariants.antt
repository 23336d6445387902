use Rattle.std.proofs.Common.{◌≡◌, ℕ, ◌<◌, length, get_or}
use Rattle.m4_model.specs.Matrix.{at}
use Rattle.m4_erasure.specs.Shards.{gf256, power}
use Rattle.m4_erasure.specs.Restored.{points_of}
use Rattle.m4_erasure.proofs.powers.powers_of_points.Given as goal

abbrev pub invariant-loop-j : goal.invariant-loop-j
invariant-loop-j l =
    (l.powers.field ≡ gf256) × (l.powers.rows ≡ length l.shards) × (l.powers.cols ≡ length l.shards)
    × ((r i : ℕ) → r < l.j → i < length l.shards → at l.powers r i ≡ power (get_or (points_of l.shards) r 0) i)
