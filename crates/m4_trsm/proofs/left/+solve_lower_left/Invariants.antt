use Rattle.m4_mzed.specs.ESeen.{e_shown}
use Rattle.m4_trsm.proofs.left.+solve_lower_left.Given as goal

abbrev pub decreases-solve_lower_left : goal.decreases-solve_lower_left
decreases-solve_lower_left g l = (e_shown l.t.now).rows
