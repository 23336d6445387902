use Rattle.m4_karatsuba.proofs.HalfLemmas.{law}
use Rattle.m4_karatsuba.proofs.laws.law_halves.Goals as goal

pub returns : goal.returns
returns c = λ h l a b u d. law h l a b u d
