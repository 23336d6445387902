use Rattle.std.proofs.Common.{◌≡◌, ◌*◌, ◌^◌, ◌≤◌, length, take}
use Rattle.std.specs.List.{sum_by}
use Rattle.m4_model.specs.Jcf.{nonzero_columns}
use Rattle.m4_text.proofs.jcf_write.count_ones.Given as goal

-- the ones of the first r rows are counted
abbrev pub invariant-loop-r : goal.invariant-loop-r
invariant-loop-r l = record {
  counted : l.count ≡ sum_by (λ entries. length (nonzero_columns 1 entries)) (take l.r l.m.entries);
  few : l.count ≤ l.r * 2 ^ 24;
}
