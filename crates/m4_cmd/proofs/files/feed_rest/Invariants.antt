-- The reader stands for what was read of the file, and each piece brings the limit nearer.
use Rattle.std.proofs.Common.{◌+◌, ◌-◌, ◌^◌}
use Rattle.m4_cmd.proofs.FileLemmas.{FedSoFar}
use Rattle.m4_cmd.proofs.files.feed_rest.Given as goal

abbrev pub invariant-loop-fed : goal.invariant-loop-fed
invariant-loop-fed g l =
    FedSoFar (g.S.Shelf.stock l.initial.shelf) (g.S.Shelf.stock l.shelf) (g.S.Shelf.started l.shelf) (g.S.Shelf.rest l.initial.shelf) (g.S.Shelf.rest l.shelf)
    (g.S.Shelf.faults l.initial.shelf) (g.S.Shelf.faults l.shelf) l.initial.reader.form l.fed l.reader

abbrev pub decreases-loop-fed : goal.decreases-loop-fed
decreases-loop-fed g l = 2 ^ 29 + 1 - l.fed
