use Rattle.m4_etext.specs.ElementWords.{IsSpelled}
use Rattle.m4_etext.proofs.gathered.element_of.Given as goal

-- the digits so far
abbrev pub invariant-loop-place : goal.invariant-loop-place
invariant-loop-place l = IsSpelled l.digits l.start l.place l.x
