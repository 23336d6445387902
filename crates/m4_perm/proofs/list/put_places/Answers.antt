use Rattle.std.proofs.Common.{length, arith}
use Rattle.m4_perm.proofs.OrderLemmas.{put_more}
use Rattle.m4_perm.proofs.list.put_places.Goals as goal

pub loop-place-preserved : goal.loop-place-preserved
loop-place-preserved c = put_more (length c.args.list.now) c.args.list.now c.loop-place.places c.loop-place.place c.requires.order (omega arith) (omega arith) c.loop-place.invariant
