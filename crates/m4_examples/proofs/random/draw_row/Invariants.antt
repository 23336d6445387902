-- The matrix has the field and the shape that it had.
use Rattle.std.proofs.Common.{◌≡◌}
use Rattle.m4_examples.proofs.random.draw_row.Given as goal

abbrev pub invariant-loop-c : goal.invariant-loop-c
invariant-loop-c g l = record {
  field : l.matrix.field ≡ l.initial.matrix.field;
  rows : l.matrix.rows ≡ l.initial.matrix.rows;
  cols : l.matrix.cols ≡ l.initial.matrix.cols;
  all : l.c-end ≡ l.initial.matrix.cols;
}
