use Rattle.std.proofs.Common.{◌≡◌, drop, length}
use Rattle.m4_model.specs.Shapes.{exchanged}
use Rattle.m4_perm.proofs.list.exchange_all.Given as goal

abbrev pub invariant-loop-i : goal.invariant-loop-i
invariant-loop-i l = record {
  same : exchanged l.i (drop l.i l.exchanges) l.list.items ≡ exchanged 0 l.exchanges l.initial.list.items;
  count : length l.list.items ≡ length l.initial.list.items;
}
