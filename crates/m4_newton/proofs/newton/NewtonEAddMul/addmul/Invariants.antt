use Rattle.m4_newton.proofs.newton.NewtonEAddMul.addmul.Given as goal

abbrev pub ghosts-add_uncounted : goal.ghosts-add_uncounted
ghosts-add_uncounted g a = record { name = a.blank.name; parts = a.blank.parts }
