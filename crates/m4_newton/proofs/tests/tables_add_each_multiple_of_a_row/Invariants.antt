use Rattle.m4_newton.proofs.tests.tables_add_each_multiple_of_a_row.Given as goal

abbrev pub ghosts-table_agrees : goal.ghosts-table_agrees
ghosts-table_agrees g a = record { name = a.blank.name; parts = a.blank.parts }
