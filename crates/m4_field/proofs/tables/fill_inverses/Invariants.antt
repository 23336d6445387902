use Rattle.m4_field.specs.Fields.{the_field}
use Rattle.m4_field.specs.Inverses.{AreInverses}
use Rattle.m4_field.proofs.tables.fill_inverses.Given as goal

abbrev pub invariant-loop-a : goal.invariant-loop-a
invariant-loop-a l = AreInverses (the_field l.f) l.a l.inverses
