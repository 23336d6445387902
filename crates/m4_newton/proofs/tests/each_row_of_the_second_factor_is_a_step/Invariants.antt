use Rattle.m4_newton.proofs.tests.each_row_of_the_second_factor_is_a_step.Given as goal

abbrev pub ghosts-entry_of_counted : goal.ghosts-entry_of_counted
ghosts-entry_of_counted g a = record { name = a.blank.name; parts = a.blank.parts }
