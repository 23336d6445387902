use Rattle.m4_mzd.proofs.tests.several_rows_are_added.Given as goal

abbrev pub ghosts-adds_each : goal.ghosts-adds_each
ghosts-adds_each g a = record { name = a.blank.name; parts = a.blank.parts }
