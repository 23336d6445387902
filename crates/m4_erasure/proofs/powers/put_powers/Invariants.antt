use Rattle.std.proofs.Common.{◌≡◌, ◌<◌}
use Rattle.m4_erasure.specs.Shards.{power}
use Rattle.m4_erasure.specs.Powers.{HasPowers}
use Rattle.m4_erasure.proofs.powers.put_powers.Given as goal

abbrev pub invariant-loop-i : goal.invariant-loop-i
invariant-loop-i l = HasPowers l.x l.j l.i l.fn.powers l.powers × (l.power ≡ power l.x l.i) × (l.power < 256)
