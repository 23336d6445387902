-- The matrix has its field and its shape.
use Rattle.std.proofs.Common.{◌≡◌}
use Rattle.m4_model.specs.Field.{gf2}
use Rattle.m4_examples.proofs.random.draw.Given as goal

abbrev pub invariant-loop-r : goal.invariant-loop-r
invariant-loop-r g l = record {
  field : l.matrix.field ≡ gf2;
  rows : l.matrix.rows ≡ l.rows;
  cols : l.matrix.cols ≡ l.cols;
}
