use Rattle.std.proofs.Common.{◌≡◌, ◌≤◌, length}
use Rattle.m4_model.specs.Matrix.{row}
use Rattle.m4_text.proofs.Columns.{columns_so_far}
use Rattle.m4_text.proofs.jcf_write.count_ones_in.Given as goal

-- the ones of the first c entries are counted
abbrev pub invariant-loop-c : goal.invariant-loop-c
invariant-loop-c l = record {
  counted : l.count ≡ length (columns_so_far (row l.m l.r) l.c);
  few : l.count ≤ l.c;
}
