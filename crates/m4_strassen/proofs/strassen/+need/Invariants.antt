use Rattle.m4_strassen.proofs.strassen.+need.Given as goal

abbrev pub decreases-need : goal.decreases-need
decreases-need l = l.m
