use Rattle.m4_mzd.proofs.tests.a_row_is_added_between_narrow_parts.Given as goal

abbrev pub ghosts-add_first_columns : goal.ghosts-add_first_columns
ghosts-add_first_columns g a = record { name = a.blank.name; parts = a.blank.parts }
