use Rattle.m4_mzed.specs.ESeen.{e_shown}
use Rattle.m4_trsm.proofs.left.+solve_upper_left.Given as goal

abbrev pub decreases-solve_upper_left : goal.decreases-solve_upper_left
decreases-solve_upper_left g l = (e_shown l.t.now).rows
