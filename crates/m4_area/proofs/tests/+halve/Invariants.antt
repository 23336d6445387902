use Rattle.m4_area.proofs.tests.+halve.Given as goal

abbrev pub decreases-halve : goal.decreases-halve
decreases-halve l = l.depth
