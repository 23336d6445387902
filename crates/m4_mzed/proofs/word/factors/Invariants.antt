use Rattle.m4_field.specs.Fields.{the_field}
use Rattle.m4_mzed.proofs.FactorLemmas.{AreFirst}
use Rattle.m4_mzed.proofs.word.factors.Given as goal

abbrev pub invariant-loop-i : goal.invariant-loop-i
invariant-loop-i g l = AreFirst (the_field l.f) g.row.N l.x l.i l.factor l.list
