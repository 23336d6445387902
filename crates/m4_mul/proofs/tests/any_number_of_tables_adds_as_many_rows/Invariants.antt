use Rattle.m4_mul.proofs.tests.any_number_of_tables_adds_as_many_rows.Given as goal

abbrev pub ghosts-all_give_ones : goal.ghosts-all_give_ones
ghosts-all_give_ones g a = record { name = a.blank.name; parts = a.blank.parts }
