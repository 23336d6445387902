-- The files so far are read as the matrices, and nothing has failed.
use Rattle.std.proofs.Common.{◌≡◌, map, take}
use Rattle.m4_cmd.specs.Steps.{AreReadAs}
use Rattle.m4_cmd.proofs.operands.read_operands.Given as goal

abbrev pub invariant-loop-index : goal.invariant-loop-index
invariant-loop-index g l = record {
  stock : g.S.Shelf.stock l.shelf ≡ g.S.Shelf.stock l.initial.shelf;
  kept : g.S.Shelf.faults l.shelf ≡ g.S.Shelf.faults l.initial.shelf;
  read : AreReadAs (g.S.Shelf.stock l.initial.shelf) l.form (take l.index (map (λ name. name.now) l.names)) l.matrices.items;
}
