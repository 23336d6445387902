use Rattle.m4_mul.proofs.tests.blocks_agree.Given as goal

abbrev pub ghosts-add_by_blocks : goal.ghosts-add_by_blocks
ghosts-add_by_blocks a = record { name = a.blank.name; parts = a.blank.parts }
