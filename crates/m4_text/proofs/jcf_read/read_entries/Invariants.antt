use Rattle.std.proofs.Common.{◌-◌, length}
use Rattle.m4_text.proofs.JcfEntries.{EntriesSoFar}
use Rattle.m4_text.proofs.jcf_read.read_entries.Given as goal

abbrev pub invariant-loop-token : goal.invariant-loop-token
invariant-loop-token l = EntriesSoFar l.bytes l.long l.start l.place l.begun l.fn.m l.m

abbrev pub decreases-loop-token : goal.decreases-loop-token
decreases-loop-token l = length l.bytes - l.place
