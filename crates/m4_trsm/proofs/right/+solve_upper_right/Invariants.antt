use Rattle.m4_mzed.specs.ESeen.{e_shown}
use Rattle.m4_trsm.proofs.right.+solve_upper_right.Given as goal

abbrev pub decreases-solve_upper_right : goal.decreases-solve_upper_right
decreases-solve_upper_right g l = (e_shown l.t.now).cols
