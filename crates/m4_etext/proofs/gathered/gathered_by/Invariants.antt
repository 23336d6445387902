use Rattle.m4_etext.specs.ElementWords.{IsWordOfElements}
use Rattle.m4_etext.proofs.gathered.gathered_by.Given as goal

-- the elements so far
abbrev pub invariant-loop-k : goal.invariant-loop-k
invariant-loop-k l = IsWordOfElements l.digits l.width l.count l.end l.k l.word
