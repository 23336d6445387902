use Rattle.m4_etext.proofs.HeadLemmas.{BeginsHeader-none}
use Rattle.m4_etext.proofs.head.Head.new.Goals as goal

pub returns-clause-begins : goal.returns-clause-begins
returns-clause-begins c = BeginsHeader-none
