-- The bytes so far are those that the shelf gave, and each piece brings the limit nearer.
use Rattle.std.proofs.Common.{◌≤◌, ◌+◌, ◌-◌, vec_len}
use Rattle.m4_io.proofs.ReadingLemmas.{ReadsSoFar}
use Rattle.m4_io.proofs.whole.read_rest.Given as goal

abbrev pub invariant-loop-piece : goal.invariant-loop-piece
invariant-loop-piece g l =
    (vec_len l.bytes ≤ l.limit + 16384)
    × ReadsSoFar (g.S.Shelf.stock l.initial.shelf) (g.S.Shelf.stock l.shelf) (g.S.Shelf.started l.shelf) (g.S.Shelf.rest l.initial.shelf) (g.S.Shelf.rest l.shelf)
    (g.S.Shelf.faults l.initial.shelf) (g.S.Shelf.faults l.shelf) l.bytes.items

abbrev pub decreases-loop-piece : goal.decreases-loop-piece
decreases-loop-piece g l = l.limit + 1 - vec_len l.bytes
