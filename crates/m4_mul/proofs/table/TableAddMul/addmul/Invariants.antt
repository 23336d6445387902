use Rattle.m4_mul.proofs.table.TableAddMul.addmul.Given as goal

abbrev pub ghosts-add_product : goal.ghosts-add_product
ghosts-add_product a = record { name = a.blank.name; parts = a.blank.parts }
