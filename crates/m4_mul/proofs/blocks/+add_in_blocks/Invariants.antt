use Rattle.m4_mul.proofs.blocks.+add_in_blocks.Given as goal

abbrev pub decreases-add_in_blocks : goal.decreases-add_in_blocks
decreases-add_in_blocks g l = l.c.now.cols
