use Rattle.std.proofs.Common.{◌+◌, ◌*◌}
use Rattle.m4_karatsuba.proofs.recursion.+parts.Given as goal

abbrev pub decreases-add_by_parts : goal.decreases-add_by_parts
decreases-add_by_parts g l = 5 * l.factors.now.count + 4

abbrev pub decreases-add_by_halves : goal.decreases-add_by_halves
decreases-add_by_halves g l = 5 * l.factors.now.count + 3

abbrev pub decreases-add_twice : goal.decreases-add_twice
decreases-add_twice g l = 5 * l.factors.now.count + 6

abbrev pub decreases-add_middle : goal.decreases-add_middle
decreases-add_middle g l = 5 * l.low.now.count + 7

abbrev pub decreases-add_once : goal.decreases-add_once
decreases-add_once g l = 5 * l.factors.now.count + 6

abbrev pub decreases-product_in_room : goal.decreases-product_in_room
decreases-product_in_room g l = 5 * l.factors.now.count + 5
