use Rattle.m4_gen.proofs.matrix.generate.Given as goal

abbrev pub ghost-fill : goal.ghost-fill
ghost-fill a = a.source.now
