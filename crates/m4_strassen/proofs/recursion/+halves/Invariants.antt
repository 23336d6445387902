use Rattle.std.proofs.Common.{◌+◌, ◌*◌}
use Rattle.m4_strassen.proofs.recursion.+halves.Given as goal

abbrev pub decreases-add_by_halves : goal.decreases-add_by_halves
decreases-add_by_halves g l = 8 * l.c.now.rows + 7

abbrev pub decreases-add_rows : goal.decreases-add_rows
decreases-add_rows g l = 8 * l.c.now.rows + 6

abbrev pub decreases-add_cols : goal.decreases-add_cols
decreases-add_cols g l = 8 * l.c.now.rows + 5

abbrev pub decreases-add_inner : goal.decreases-add_inner
decreases-add_inner g l = 8 * l.c.now.rows + 4

abbrev pub decreases-add_quarters : goal.decreases-add_quarters
decreases-add_quarters g l = 8 * l.c.now.rows + 3

abbrev pub decreases-add_all : goal.decreases-add_all
decreases-add_all g l = 8 * l.cut.m + 9

abbrev pub decreases-add_first : goal.decreases-add_first
decreases-add_first g l = 8 * l.cut.m + 8

abbrev pub decreases-add_middle : goal.decreases-add_middle
decreases-add_middle g l = 8 * l.cut.m + 8

abbrev pub decreases-add_last : goal.decreases-add_last
decreases-add_last g l = 8 * l.cut.m + 8
