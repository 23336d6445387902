use Rattle.std.proofs.Common.{◌≡◌, ◌*◌, ◌^◌, ◌≤◌, take, nat_lt, count_by}
use Rattle.std.specs.List.{sum_by}
use Rattle.m4_cmd.proofs.nonzeros.nonzeros.Given as goal

-- the entries of the first r rows are counted
abbrev pub invariant-loop-r : goal.invariant-loop-r
invariant-loop-r l = record {
  counted : l.count ≡ sum_by (count_by (nat_lt 0)) (take l.r l.matrix.entries);
  few : l.count ≤ l.r * 2 ^ 24;
}
