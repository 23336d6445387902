use Rattle.std.proofs.Common.{◌+◌, ◌*◌}
use Rattle.m4_eple.proofs.halves.+ple.Given as goal

abbrev pub decreases-ple_by_halves : goal.decreases-ple_by_halves
decreases-ple_by_halves g l = 2 * l.a.now.cols

abbrev pub decreases-ple_right : goal.decreases-ple_right
decreases-ple_right g l = 2 * l.right.now.cols + 1
