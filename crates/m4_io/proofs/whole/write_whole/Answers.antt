-- A write moves the first bytes of the rest to what was taken.
use Rattle.m4_io.proofs.Writing.{writes_more}
use Rattle.m4_io.proofs.whole.write_whole.Goals as goal

pub loop-rest-preserved : goal.loop-rest-preserved
loop-rest-preserved g c =
    writes_more _ _ _ _ _ _ _ _ _ c.loop-rest.invariant c.in_ok-count.ensures.taken c.in_ok-count.ensures.kept
