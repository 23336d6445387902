use Rattle.m4_gray.proofs.tests.entries_of_two_rows.Given as goal

abbrev pub ghosts-adds_entries : goal.ghosts-adds_entries
ghosts-adds_entries g a = record { name = a.blank.name; parts = a.blank.parts }
